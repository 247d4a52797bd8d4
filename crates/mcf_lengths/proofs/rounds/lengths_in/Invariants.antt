use Rattle.std.proofs.Common.{◌≡◌, map}
use Rattle.mcf_lengths.specs.declared.round.FlowRound.{FlowRound}
use Rattle.mcf_lengths.proofs.rounds.lengths_in.Given as goal

abbrev pub invariant-loop-round : goal.invariant-loop-round
invariant-loop-round l = l.lengths.items ≡ map (λ (r : FlowRound). r.lengths) l.yielded
