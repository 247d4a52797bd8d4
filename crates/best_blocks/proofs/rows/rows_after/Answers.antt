use Rattle.std.proofs.Common.{◌+◌, List, ℕ, Option, sym, subst, ◌∙◌}
use Rattle.shortest_path.specs.Paths.{AreDistances}
use Rattle.best_blocks.specs.Rows.{AreRowsFrom}
use Rattle.best_blocks.proofs.RowsFrom.{no_rows_from, row_pushed}
use Rattle.best_blocks.proofs.rows.rows_after.Goals as goal

pub loop-i-preserved : goal.loop-i-preserved
loop-i-preserved c =
    let net = c.args.net.now in
    let new = c.args.new.now in
    let marks = c.args.marks.now in
    let i = c.loop-i.i in (
      c.in_ok-row.ensures.along,
      subst (λ (rows : List (List (Option ℕ))). AreRowsFrom (i + 1) net new marks rows) (sym {A = List (List (Option ℕ))} c.in_ok-push.ensures.items)
          (row_pushed i net new marks c.loop-i.next.items c.new.result c.loop-i.invariant.1
          (λ marked. subst (AreDistances net new i) (sym c.new.ensures) (c.in_ok-row.ensures.marked marked))
          (λ unmarked. c.new.ensures ∙ c.in_ok-row.ensures.other unmarked)),
    )

pub loop-i-init : goal.loop-i-init
loop-i-init c =
    let net = c.args.net.now in
    let new = c.args.new.now in
    let marks = c.args.marks.now in
    (c.requires.along, subst (λ (rows : List (List (Option ℕ))). AreRowsFrom 0 net new marks rows) (sym c.in_ok-next.ensures.items) (no_rows_from net new marks))
