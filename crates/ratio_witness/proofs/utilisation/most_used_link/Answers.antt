use Rattle.std.proofs.Common.{◌∙◌, List, length, arith, ap, slice_index}
use Rattle.te_model.specs.declared.network.Link.{Link}
use Rattle.ratio_witness.specs.Witness.{most_used_link}
use Rattle.ratio_witness.proofs.Ratios.{most_used_more}
use Rattle.ratio_witness.proofs.utilisation.most_used_link.Goals as goal

pub loop-h-preserved : goal.loop-h-preserved
loop-h-preserved c = record {
  same = most_used_more c.args.net.now (slice_index c.args.loads.now) c.loop-h.h c.loop-h.most c.more_used_link-most.result c.loop-h.invariant.same
      c.more_used_link-most.ensures.more;
  within = c.more_used_link-most.ensures.within;
}

pub returns-clause-most : goal.returns-clause-most
returns-clause-most c =
    let count = ap (λ (ls : List Link). length ls) c.as_slice-count.ensures in
    c.loop-h.invariant.same ∙ ap (most_used_link c.args.net.now (slice_index c.args.loads.now)) (omega (arith, count))
