use Rattle.std.proofs.Common.{◌∙◌}
use Rattle.ratio_witness.proofs.Ratios.{shown_by}
use Rattle.ratio_witness.proofs.verdict.ratio_shown.Goals as goal

pub returns : goal.returns
returns c =
    c.utilisation_ratio.ensures
    ∙ shown_by c.args.head.now c.args.witness.now c.loads_by_routes-loads.result c.loads_by_rival-by_rival.result c.loads_by_routes-loads.ensures.loads
    c.loads_by_rival-by_rival.ensures.loads
