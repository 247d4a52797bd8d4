use Rattle.std.proofs.Common.{◌<◌}
use Rattle.std.specs.Prelude.{IfSome}
use Rattle.te_model.specs.Network.{link_count}
use Rattle.te_model.specs.Validity.{block_at}
use Rattle.worst_matrices.specs.Neediest.{need_on}
use Rattle.worst_matrices.proofs.FirstGreatest.{IsFoundBelow}
use Rattle.worst_matrices.proofs.neediest.neediest_link.Given as goal

abbrev pub invariant-loop-block : goal.invariant-loop-block
invariant-loop-block l = record {
  within : IfSome l.found (λ e. e < link_count l.net);
  neediest :
      IsFoundBelow (λ k. need_on l.net l.shares (block_at l.blocks k)) (λ k. (block_at l.blocks k).link) l.block-index l.most l.found;
}
