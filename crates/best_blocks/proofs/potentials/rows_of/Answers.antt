use Rattle.std.proofs.Common.{◌+◌, ◌<◌, List, arith, sym, subst}
use Rattle.te_model.specs.declared.certificate.Row.{Row}
use Rattle.te_model.specs.Network.{node_count}
use Rattle.best_blocks.specs.Potentials.{ArePotentialRows}
use Rattle.best_blocks.proofs.PotentialRows.{no_potential_rows, potential_row_left_out, row_of_distances}
use Rattle.best_blocks.proofs.potentials.rows_of.Goals as goal
use Rattle.best_blocks.proofs.potentials.rows_of.Goals.{in-Some+in_ok-push-in-Some, in-None}

pub loop-i-init : goal.loop-i-init
loop-i-init c = rw c.new-potentials.ensures.items (no_potential_rows c.args.net.now c.args.weights.now c.args.marks.now)

pub loop-i-preserved : goal.loop-i-preserved
loop-i-preserved c =
    let net = c.args.net.now in
    let weights = c.args.weights.now in
    let marks = c.args.marks.now in
    let i = c.loop-i.i in
    let so_far = c.loop-i.invariant in
    let inside : i < node_count net = omega (arith, c.loop-i-test.true, c.requires.marks) in
    elim c.match-branch-2.branch [
      | in-Some+in_ok-push-in-Some w ↦
          let facts = rw w.in-Some.is at c.in_ok-row.ensures.some in
          rw w.potentials-is
          (subst (λ (xs : List Row). ArePotentialRows (i + 1) net weights marks xs) (sym w.in_ok-push-in-Some.ensures.items)
          (row_of_distances i net weights marks c.args.rows.now c.loop-i.potentials.items w.in-Some.row c.requires.network c.requires.rows inside so_far facts.0 facts.1))
      | in-None w ↦
          let none = rw w.in-None.is at c.in_ok-row.ensures.none in
          rw w.potentials-is (potential_row_left_out i net weights marks c.loop-i.potentials.items so_far none)
    ]
