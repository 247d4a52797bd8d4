use Rattle.std.proofs.Common.{subst, sym}
use Rattle.std.specs.Prelude.{All}
use Rattle.best_blocks.specs.Need.{HasNumbers}
use Rattle.best_blocks.proofs.ValidNumbers.{certificate_numbers}
use Rattle.ratio_tightening.proofs.offering.offer_all_matrices.Goals as goal

pub offer_blocks-requires-clause-blocks : goal.offer_blocks-requires-clause-blocks
offer_blocks-requires-clause-blocks c =
    let all = c.in_ok-all.all in
    let made = c.in_ok-all.ensures.made in
    subst (All (HasNumbers c.args.net.now)) (sym c.as_slice.ensures)
    (subst (λ n. All (HasNumbers n) all.blocks) made.network (certificate_numbers all made.valid))
