use Rattle.std.proofs.Common.{◌≡◌, [], sym, subst, ◌∙◌}
use Rattle.std.proofs.lemmas.List.{get_or_read}
use Rattle.shortest_path.specs.Paths.{AreDistances}
use Rattle.best_blocks.specs.Rows.{distances_from}
use Rattle.best_blocks.proofs.RowsFrom.{row_stays}
use Rattle.best_blocks.proofs.rows.next_row.Goals as goal

pub returns-then-are_slack-clause-distances : goal.returns-then-are_slack-clause-distances
returns-then-are_slack-clause-distances c =
    let net = c.args.net.now in
    let old = c.args.old.now in
    let new = c.args.new.now in
    let node = c.args.node in
    let rows = c.args.rows.now in
    let row = c.as_slice-row.result.now in
    let is : row ≡ distances_from rows node = c.as_slice-row.ensures ∙ get_or_read rows node c.index-rows-node.result c.requires.inside c.index-rows-node.is [] in
    subst (AreDistances net new node) (sym c.in_ok-kept.ensures.items)
    (row_stays net old new c.args.changed.now row node c.requires.network c.requires.node c.requires.weights.others (c.are_slack.ensures c.if-are_slack.true)
    (subst (AreDistances net old node) (sym is) c.requires.row))

pub returns-clause-distances : goal.returns-clause-distances
returns-clause-distances c = c.in_ok-found.ensures.distances

pub row_from-requires-clause-along : goal.row_from-requires-clause-along
row_from-requires-clause-along c = c.in_ok-made.ensures.along
