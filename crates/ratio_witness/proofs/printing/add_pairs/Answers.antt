use Rattle.std.proofs.Common.{◌∙◌, ◌++◌, List, ap}
use Rattle.te_model.specs.declared.route.PathShare.{PathShare}
use Rattle.ratio_witness.specs.Text.{pair_lines}
use Rattle.ratio_witness.proofs.PutLines.{one_more}
use Rattle.te_model.proofs.Lists.{all_put}
use Rattle.ratio_witness.proofs.printing.add_pairs.Goals as goal

pub loop-paths-preserved : goal.loop-paths-preserved
loop-paths-preserved c =
    one_more pair_lines _ c.loop-paths.lines.items _ c.args.rival.now c.loop-paths.paths-index c.paths-item.result c.loop-paths-test.true c.paths-item.is
    c.loop-paths.invariant (c.in_ok-add_pair.ensures ∙ ap (λ (ps : List PathShare). c.loop-paths.lines.items ++ pair_lines ps) c.as_slice.ensures)

pub returns : goal.returns
returns c = all_put pair_lines _ _ c.args.rival.now c.loop-paths.paths-index c.loop-paths-test.false c.loop-paths.invariant
