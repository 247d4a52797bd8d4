use Rattle.std.proofs.Common.{List, length, subst, sym}
use Rattle.std.specs.Prelude.{IfOk}
use Rattle.te_model.specs.declared.route.PairRoutes.{PairRoutes}
use Rattle.te_model.specs.Pairs.{AreDemands}
use Rattle.fault_rates.specs.Making.{IsProtection}
use Rattle.fault_rates.specs.Tables.{CanAdd}
use Rattle.fault_rates.proofs.Judged.{can_add}
use Rattle.fault_rates.proofs.maker.protect.Goals as goal

pub made_rates-requires-clause-can : goal.made_rates-requires-clause-can
made_rates-requires-clause-can c =
    subst (CanAdd c.args.net.now) (sym c.as_slice-routes.ensures)
    (can_add c.args.net.now c.args.routing.now.routes c.requires.network c.requires.routing c.requires.few c.requires.pairs)

pub made_rates-requires-clause-demands : goal.made_rates-requires-clause-demands
made_rates-requires-clause-demands c =
    subst (λ (rs : List PairRoutes). AreDemands (length rs) c.as_slice-demands.result.now) (sym c.as_slice-routes.ensures)
    (subst (AreDemands (length c.args.routing.now.routes)) (sym c.as_slice-demands.ensures) c.requires.demands)

pub returns : goal.returns
returns c =
    subst (λ (rs : List PairRoutes). IfOk c.made_rates.result (IsProtection c.args.net.now rs c.args.matrix.now.demand c.args.failures)) c.as_slice-routes.ensures
    (subst (λ ds. IfOk c.made_rates.result (IsProtection c.args.net.now c.as_slice-routes.result.now ds c.args.failures)) c.as_slice-demands.ensures c.made_rates.ensures)
