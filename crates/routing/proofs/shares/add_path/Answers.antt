use Rattle.std.proofs.Common.{◌≡◌, ◌+◌, ◌<◌, List, [], arith, ap, refl, sym, ◌∙◌, get_or, slice_index, length, ℕ, subst}
use Rattle.std.proofs.lemmas.List.{get_or_read, take_all}
use Rattle.std.proofs.lemmas.List.Elements.{All-get_or, All-set}
use Rattle.routing.specs.declared.shares.PairShare.{PairShare}
use Rattle.te_model.specs.Path.{amount_on}
use Rattle.routing.specs.Shares.{share_in, shares_on, IsShareList, IsAddition}
use Rattle.routing.proofs.Sharing.{link_more, no_addition, not_added, place_inside}
use Rattle.routing.proofs.shares.add_path.Goals as goal

-- its list
lent : (c : goal.After-index-table-link) →
    get_or c.loop-link.table (slice_index c.args.links.now c.loop-link.link-index) c.index-table-link.result
    ≡ shares_on c.loop-link.table (slice_index c.args.links.now c.loop-link.link-index)
lent c =
    let h = slice_index c.args.links.now c.loop-link.link-index in
    let inside = place_inside c.args.table.now c.loop-link.table c.args.links.now c.loop-link.link-index c.requires.links.1 c.loop-link-test.true c.loop-link.auto.table in
    sym c.index-table-link.is ∙ get_or_read c.loop-link.table h c.index-table-link.result inside c.index-table-link.is []

pub loop-link-init : goal.loop-link-init
loop-link-init c = record {
  order = c.requires.order;
  sums = no_addition c.args.table.now c.args.pair (amount_on [] c.args.share) (λ e. refl);
}

pub add-requires-clause-order : goal.add-requires-clause-order
add-requires-clause-order c =
    c.loop-link.invariant.order (slice_index c.args.links.now c.loop-link.link-index) c.index-table-link.result
    (place_inside c.args.table.now c.loop-link.table c.args.links.now c.loop-link.link-index c.requires.links.1 c.loop-link-test.true c.loop-link.auto.table)

pub add-requires-clause-room : goal.add-requires-clause-room
add-requires-clause-room c =
    let h = slice_index c.args.links.now c.loop-link.link-index in
    omega (
      arith,
      ap (λ (l : List PairShare). share_in l c.args.pair) (lent c),
      not_added c.args.table.now c.loop-link.table c.args.links.now c.args.pair c.args.share c.loop-link.link-index c.requires.links c.loop-link-test.true c.loop-link.invariant.sums,
      c.requires.room h (All-get_or (λ e. e < length c.args.table.now) c.args.links.now c.loop-link.link-index 0 c.loop-link-test.true c.requires.links.1),
    )

pub loop-link-preserved : goal.loop-link-preserved
loop-link-preserved c =
    let h = slice_index c.args.links.now c.loop-link.link-index in
    let inside = place_inside c.args.table.now c.loop-link.table c.args.links.now c.loop-link.link-index c.requires.links.1 c.loop-link-test.true c.loop-link.auto.table in
    let here : get_or c.loop-link.table h c.index-table-link.result ≡ shares_on c.loop-link.table h =
    sym c.index-table-link.is ∙ get_or_read c.loop-link.table h c.index-table-link.result inside c.index-table-link.is []
    in
    record {
      order = All-set (IsShareList (c.args.pair + 1)) c.loop-link.table h c.add.new.self c.in_ok-add.ensures.order c.loop-link.invariant.order;
      sums = link_more c.args.table.now c.loop-link.table c.args.links.now c.add.new.self c.args.pair c.args.share c.loop-link.link-index c.requires.links
          c.loop-link-test.true c.loop-link.invariant.sums
          (λ q. omega (arith, c.in_ok-add.ensures.sums q, ap (λ (l : List PairShare). share_in l q) here));
    }

pub returns-clause-sums : goal.returns-clause-sums
returns-clause-sums c =
    subst (λ (l : List ℕ). IsAddition c.args.table.now c.loop-link.table c.args.pair (amount_on l c.args.share))
    (take_all c.loop-link.link-index c.args.links.now c.loop-link-test.false) c.loop-link.invariant.sums
