use Rattle.std.proofs.Common.{subst, sym}
use Rattle.fault_rates.specs.Tables.{CanAdd}
use Rattle.fault_rates.proofs.Judged.{can_add}
use Rattle.fault_rates.proofs.answers.protect_text.Goals as goal

pub made_rates-requires-clause-can : goal.made_rates-requires-clause-can
made_rates-requires-clause-can c =
    let head = c.args.head.now in
    subst (CanAdd head.network) (sym c.as_slice-routes.ensures)
    (can_add head.network head.routes c.requires.network c.requires.routing c.requires.few c.requires.count)
