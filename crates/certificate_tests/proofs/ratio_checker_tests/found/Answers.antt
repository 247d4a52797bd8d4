use Rattle.std.proofs.Common.{◌≡◌, ◌∙◌, ◌+◌, ◌<◌, suc, [], ◌∷◌, ◌++◌, length, get_or, arith, ap, subst, sym}
use Rattle.std.proofs.lemmas.List.{get_or_read}
use Rattle.te_model.specs.Certificate.{empty_block}
use Rattle.te_model.specs.Validity.{IsValidBlock}
use Rattle.te_model.proofs.ValidParts.{valid_parts}
use Rattle.ratio_checker.proofs.Ascending.{ascends_next}
use Rattle.ratio_checker.proofs.Validity.{blocks_in_order}
use Rattle.certificate_tests.proofs.ratio_checker_tests.found.Goals as goal

pub new-requires : goal.new-requires
new-requires c = ((valid_parts c.args.cert).0 c.requires).head

pub loop-block-init : goal.loop-block-init
loop-block-init c =
    let first = c.in_ok-feed.ensures in
    record { stands = ([], first.0); next = λ some. omega (arith, first.2) }

pub block-requires-clause-fed : goal.block-requires-clause-fed
block-requires-clause-fed c = let stands = c.loop-block.invariant.stands in (c.args.cert.head, stands.0, stands.1)

pub block-requires-clause-block : goal.block-requires-clause-block
block-requires-clause-block c =
    let cert = c.args.cert in
    let b = c.block-item.result in
    let i = c.loop-block.block-index in
    let stands = c.loop-block.invariant.stands in
    let same = c.as_slice-block-items.ensures in
    let below = subst (λ xs. i < length xs) same c.loop-block-test.true in
    let is : b ≡ get_or cert.blocks i b = c.block-item.is ∙ ap (λ xs. get_or xs i b) same in
    let valid = ((valid_parts cert).0 c.requires).blocks i b below in
    subst (λ h. IsValidBlock h b) (sym stands.1.same) (subst (IsValidBlock cert.head) (sym is) valid)

pub block-requires-clause-above : goal.block-requires-clause-above
block-requires-clause-above c =
    let blocks = c.args.cert.blocks in
    let b = c.block-item.result in
    let i = c.loop-block.block-index in
    let same = c.as_slice-block-items.ensures in
    let below = subst (λ xs. i < length xs) same c.loop-block-test.true in
    let is : b ≡ get_or blocks i b = c.block-item.is ∙ ap (λ xs. get_or xs i b) same in
    let here = ap (λ x. x.link) (get_or_read blocks i b below is (empty_block 0)) in
    omega (arith, c.loop-block.invariant.next below, here)

pub loop-block-preserved : goal.loop-block-preserved
loop-block-preserved c =
    let cert = c.args.cert in
    let blocks = cert.blocks in
    let b = c.block-item.result in
    let i = c.loop-block.block-index in
    let d = empty_block 0 in
    let same = c.as_slice-block-items.ensures in
    let below = subst (λ xs. i < length xs) same c.loop-block-test.true in
    let is : b ≡ get_or blocks i b = c.block-item.is ∙ ap (λ xs. get_or xs i b) same in
    let stands = c.loop-block.invariant.stands in
    record {
      stands = (stands.0 ++ b ∷ [], c.block.ensures.fed cert.head stands.0 stands.1);
      next = λ more.
          let up = ascends_next (λ x. x.link) 0 blocks i d (blocks_in_order cert c.requires) (omega (arith, more)) in
          let one : suc i ≡ i + 1 = omega arith in
          let upper = subst (λ k. (get_or blocks i d).link < (get_or blocks k d).link) one up in
          let here = ap (λ x. x.link) (get_or_read blocks i b below is d) in
          omega (arith, c.block.ensures.rest.1, upper, here);
    }

pub finish-requires : goal.finish-requires
finish-requires c = let stands = c.loop-block.invariant.stands in (c.args.cert.head, stands.0, stands.1)
