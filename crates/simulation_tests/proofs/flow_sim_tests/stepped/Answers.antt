use Rattle.std.proofs.Common.{length, sym, ap, ◌∙◌}
use Rattle.std.proofs.lemmas.List.{length-map}
use Rattle.simulation_tests.proofs.flow_sim_tests.stepped.Goals as goal

pub step-requires-clause-demands : goal.step-requires-clause-demands
step-requires-clause-demands c =
    ap length c.in_ok-matrix.ensures ∙ (sym (ap length c.requires.pairs) ∙ length-map c.args.rates.now.routes (λ r. r.pair))
