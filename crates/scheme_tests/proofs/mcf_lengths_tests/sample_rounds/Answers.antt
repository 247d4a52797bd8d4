use Rattle.scheme_tests.proofs.McfLengthsLaws.{sample_reached}
use Rattle.scheme_tests.proofs.mcf_lengths_tests.sample_rounds.Goals as goal

pub make_rounds-requires-clause-reached : goal.make_rounds-requires-clause-reached
make_rounds-requires-clause-reached c =
    sample_reached c.args.commodities.now.net c.args.commodities.now.pairs.list c.requires.net c.requires.pairs
