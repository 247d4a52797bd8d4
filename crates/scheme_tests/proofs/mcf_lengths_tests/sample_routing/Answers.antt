use Rattle.scheme_tests.proofs.McfLengthsLaws.{sample_reached}
use Rattle.scheme_tests.proofs.mcf_lengths_tests.sample_routing.Goals as goal

pub rounds_routing-requires-clause-reached : goal.rounds_routing-requires-clause-reached
rounds_routing-requires-clause-reached c =
    sample_reached c.args.commodities.now.net c.args.commodities.now.pairs.list c.requires.net c.requires.pairs
