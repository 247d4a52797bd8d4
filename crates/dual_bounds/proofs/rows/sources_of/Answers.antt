use Rattle.std.proofs.Common.{sym, ◌∙◌}
use Rattle.dual_bounds.specs.Rows.{sends_from}
use Rattle.dual_bounds.proofs.SourceRows.{source_added, source_left_out}
use Rattle.dual_bounds.proofs.rows.sources_of.Goals as goal
use Rattle.dual_bounds.proofs.rows.sources_of.Goals.{then-sends_from+in_ok-push, else-sends_from}

pub loop-node-preserved : goal.loop-node-preserved
loop-node-preserved c =
    let test = sends_from c.args.routes.now in
    let node = c.loop-node.node in
    let sources = c.loop-node.sources.items in
    elim c.if-sends_from.branch [
      | then-sends_from+in_ok-push w ↦
          rw w.sources-is (w.in_ok-push.ensures.items ∙ source_added test node sources c.loop-node.invariant (sym c.sends_from.ensures ∙ w.if-sends_from.true))
      | else-sends_from w ↦ rw w.sources-is (source_left_out test node sources c.loop-node.invariant (sym c.sends_from.ensures ∙ w.if-sends_from.false))
    ]
