use Rattle.std.proofs.Common.{◌∙◌}
use Rattle.mcf_lengths.proofs.Lengthening.{lengths_are}
use Rattle.mcf_lengths.proofs.round.make_round.Goals as goal

pub least_paths-requires-clause-lengths : goal.least_paths-requires-clause-lengths
least_paths-requires-clause-lengths c =
    (lengths_are c.args.net.now c.args.multipliers.now c.deref.result.now c.requires.network c.requires.count c.requires.some (c.deref.ensures.value ∙ c.in_ok-lengths.ensures)).count

pub least_paths-requires-clause-limit : goal.least_paths-requires-clause-limit
least_paths-requires-clause-limit c =
    (lengths_are c.args.net.now c.args.multipliers.now c.deref.result.now c.requires.network c.requires.count c.requires.some (c.deref.ensures.value ∙ c.in_ok-lengths.ensures)).limit

pub least_paths-requires-clause-positive : goal.least_paths-requires-clause-positive
least_paths-requires-clause-positive c =
    (lengths_are c.args.net.now c.args.multipliers.now c.deref.result.now c.requires.network c.requires.count c.requires.some (c.deref.ensures.value ∙ c.in_ok-lengths.ensures)).some
