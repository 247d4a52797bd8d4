use Rattle.std.proofs.Common.{◌≡◌, ◌<◌, slice_index}
use Rattle.te_model.specs.Network.{link_count}
use Rattle.ratio_witness.specs.Witness.{most_used_link}
use Rattle.ratio_witness.proofs.utilisation.most_used_link.Given as goal

abbrev pub invariant-loop-h : goal.invariant-loop-h
invariant-loop-h l = record {
  same : l.most ≡ most_used_link l.net (slice_index l.loads) l.h;
  within : l.most < link_count l.net;
}
