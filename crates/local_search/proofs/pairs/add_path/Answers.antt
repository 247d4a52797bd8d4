use Rattle.std.proofs.Common.{◌≡◌, ℕ, ◌+◌, ◌||◌, ◌==◌, List, [], ap, sym, ◌∙◌, get_or, slice_index}
use Rattle.std.proofs.lemmas.List.{get_or_read}
use Rattle.std.proofs.lemmas.List.Elements.{All-set}
use Rattle.te_model.specs.Path.{has_number}
use Rattle.routing.proofs.Sharing.{place_inside}
use Rattle.local_search.specs.Pairs.{IsPairList, pairs_on}
use Rattle.local_search.proofs.Entering.{link_entered}
use Rattle.local_search.proofs.pairs.add_path.Goals as goal

pub add-requires : goal.add-requires
add-requires c = record {
  order = c.loop-link.invariant.order (slice_index c.args.links.now c.loop-link.link-index) c.index-table-link.result
      (place_inside c.args.table.now c.loop-link.table c.args.links.now c.loop-link.link-index c.requires.links c.loop-link-test.true c.loop-link.auto.table);
}

pub loop-link-preserved : goal.loop-link-preserved
loop-link-preserved c =
    let h = slice_index c.args.links.now c.loop-link.link-index in
    let inside = place_inside c.args.table.now c.loop-link.table c.args.links.now c.loop-link.link-index c.requires.links c.loop-link-test.true c.loop-link.auto.table in
    let here : get_or c.loop-link.table h c.index-table-link.result ≡ pairs_on c.loop-link.table h =
    sym c.index-table-link.is ∙ get_or_read c.loop-link.table h c.index-table-link.result inside c.index-table-link.is []
    in
    record {
      order = All-set (IsPairList (c.args.pair + 1)) c.loop-link.table h c.add.new.self c.in_ok-add.ensures.order c.loop-link.invariant.order;
      entered = link_entered c.args.table.now c.loop-link.table c.args.links.now c.add.new.self c.args.pair c.loop-link.link-index c.requires.links
          c.loop-link-test.true c.loop-link.invariant.entered
          (λ q. c.in_ok-add.ensures.entered q ∙ ap (λ (l : List ℕ). has_number l q || c.args.pair == q) here);
    }
