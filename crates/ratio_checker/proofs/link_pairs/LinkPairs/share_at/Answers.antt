use Rattle.std.proofs.Common.{◌≡◌, ◌∙◌, ◌<◌, length, slice_index, arith}
use Rattle.std.proofs.lemmas.List.{get_or_read}
use Rattle.ratio_checker.proofs.LinkPairLists.{place_passed, no_share_at}
use Rattle.ratio_checker.proofs.link_pairs.LinkPairs.share_at.Goals as goal
use Rattle.ratio_checker.proofs.link_pairs.LinkPairs.share_at.Goals.{else-place-len-via-then-place-len+else-index-pair, else-place-len-via-else-place-len}

pub returns-else-place-len-clause-next : goal.returns-else-place-len-clause-next
returns-else-place-len-clause-next c =
    let own = c.args.self.now in
    let pairs = own.pairs.items in
    let place = c.args.place in
    let (routes, e, are) = c.requires.shares in
    let other : place < length pairs → slice_index pairs place ≡ c.args.pair → ⊥ = λ inside here. elim c.else-place-len.branch [
      | else-place-len-via-then-place-len+else-index-pair w ↦ w.if-index-pair.false (get_or_read pairs place w.index.result.now inside w.index.ensures 0 ∙ here)
      | else-place-len-via-else-place-len w ↦ omega (arith, w.if-place-len.false, c.len.ensures, own.pairs.ok.0, inside)
    ]
    in
    place_passed routes e pairs own.shares.items place c.args.pair are c.requires.place other

pub returns-else-place-len-clause-share : goal.returns-else-place-len-clause-share
returns-else-place-len-clause-share c = λ routes e are below.
    let own = c.args.self.now in
    let pairs = own.pairs.items in
    let place = c.args.place in
    let other : place < length pairs → slice_index pairs place ≡ c.args.pair → ⊥ = λ inside here. elim c.else-place-len.branch [
      | else-place-len-via-then-place-len+else-index-pair w ↦ w.if-index-pair.false (get_or_read pairs place w.index.result.now inside w.index.ensures 0 ∙ here)
      | else-place-len-via-else-place-len w ↦ omega (arith, w.if-place-len.false, c.len.ensures, own.pairs.ok.0, inside)
    ]
    in
    no_share_at routes e pairs own.shares.items place c.args.pair are c.requires.place other below
