use Rattle.std.proofs.Common.{List, subst}
use Rattle.std.specs.Prelude.{IfOk}
use Rattle.te_model.specs.declared.route.PairRoutes.{PairRoutes}
use Rattle.fault_rates.specs.Plan.{IsValidPlan}
use Rattle.fault_rates.specs.Reading.{GivesRates}
use Rattle.fault_rates.proofs.reader.read.Goals as goal

pub returns-clause-rates : goal.returns-clause-rates
returns-clause-rates c =
    subst (λ (rs : List PairRoutes). GivesRates rs c.args.bytes.now c.read_by_routes.result) c.as_slice.ensures c.read_by_routes.ensures.rates

pub returns-clause-valid : goal.returns-clause-valid
returns-clause-valid c =
    subst (λ (rs : List PairRoutes). IfOk c.read_by_routes.result (IsValidPlan rs)) c.as_slice.ensures c.read_by_routes.ensures.valid
