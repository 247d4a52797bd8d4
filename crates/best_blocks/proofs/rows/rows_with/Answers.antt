use Rattle.std.proofs.Common.{◌≡◌, ◌+◌, List, ℕ, Option, arith, refl, sym, subst, ◌∙◌}
use Rattle.te_model.specs.Network.{node_count}
use Rattle.shortest_path.specs.declared.rows.Direction.TheVariants.{Forward}
use Rattle.shortest_path.specs.Paths.{AreDistances}
use Rattle.shortest_path.specs.Rows.{IsSearchGraph}
use Rattle.best_blocks.specs.Rows.{AreRowsFrom}
use Rattle.best_blocks.proofs.RowsFrom.{no_rows_from, row_pushed}
use Rattle.best_blocks.proofs.rows.rows_with.Goals as goal

pub row_if_marked-requires-clause-along : goal.row_if_marked-requires-clause-along
row_if_marked-requires-clause-along c = subst (IsSearchGraph c.args.net.now Forward) (sym c.loop-i.invariant.0) c.requires.along

pub loop-i-preserved : goal.loop-i-preserved
loop-i-preserved c =
    let net = c.args.net.now in
    let weights = c.args.weights.now in
    let marks = c.args.marks.now in
    let i = c.loop-i.i in
    let kept = c.loop-i.invariant in (
      c.in_ok-row.ensures.same ∙ kept.0,
      subst (λ (rows : List (List (Option ℕ))). AreRowsFrom (i + 1) net weights marks rows) (sym {A = List (List (Option ℕ))} c.in_ok-push.ensures.items)
          (row_pushed i net weights marks c.loop-i.rows.items c.new.result kept.1
          (λ marked. subst (AreDistances net weights i) (sym c.new.ensures) (c.in_ok-row.ensures.marked marked))
          (λ unmarked. c.new.ensures ∙ c.in_ok-row.ensures.other unmarked)),
    )

pub loop-i-init : goal.loop-i-init
loop-i-init c =
    let net = c.args.net.now in
    let weights = c.args.weights.now in
    let marks = c.args.marks.now in (
      refl,
      subst (λ (rows : List (List (Option ℕ))). AreRowsFrom 0 net weights marks rows) (sym c.in_ok-rows.ensures.items) (no_rows_from net weights marks),
    )

pub returns-clause-rows : goal.returns-clause-rows
returns-clause-rows c =
    let net = c.args.net.now in
    let all : c.loop-i.i ≡ node_count net = omega (arith, c.loop-i-test.false, c.loop-i.auto.i-end, c.requires.marks) in
    subst (λ n. AreRowsFrom n net c.args.weights.now c.args.marks.now c.loop-i.rows.items) all c.loop-i.invariant.1

pub returns-clause-same : goal.returns-clause-same
returns-clause-same c = c.loop-i.invariant.0
