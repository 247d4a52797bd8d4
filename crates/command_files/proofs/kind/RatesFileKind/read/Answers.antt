use Rattle.std.proofs.Common.{List, Ok, Err, refl, subst}
use Rattle.te_model.specs.declared.route.PairRoutes.{PairRoutes}
use Rattle.fault_rates.specs.declared.fault.RateFault.TheVariants.{Shape, Rule, Memory}
use Rattle.fault_rates.specs.Reading.{MeansRates}
use Rattle.command_files.proofs.MeantFiles.{fault_meant, value_meant}
use Rattle.command_files.proofs.kind.RatesFileKind.read.Goals as goal

pub returns-in-Ok-clause-reads : goal.returns-in-Ok-clause-reads
returns-in-Ok-clause-reads c =
    subst (λ (rs : List PairRoutes). MeansRates rs c.args.bytes.now (Ok c.in-Ok.plan)) c.as_slice.ensures
    (value_meant (MeansRates c.as_slice.result.now c.args.bytes.now) Memory c.in-Ok.plan c.in-Ok.ensures.rates)

pub returns-in-Err-Shape-clause-reads : goal.returns-in-Err-Shape-clause-reads
returns-in-Err-Shape-clause-reads c =
    let fault = Shape c.in-Err-Shape.line in (
      fault,
      subst (λ (rs : List PairRoutes). MeansRates rs c.args.bytes.now (Err fault)) c.as_slice.ensures
          (fault_meant (MeansRates c.as_slice.result.now c.args.bytes.now) Memory c.in-Err-Shape.field-0 fault c.in-Err-Shape.field-0-is (λ e. cc)
          c.in-Err-Shape.ensures.rates),
      refl,
    )

pub returns-in-Err-Rule-clause-reads : goal.returns-in-Err-Rule-clause-reads
returns-in-Err-Rule-clause-reads c =
    let fault = Rule c.in-Err-Rule.rule in (
      fault,
      subst (λ (rs : List PairRoutes). MeansRates rs c.args.bytes.now (Err fault)) c.as_slice.ensures
          (fault_meant (MeansRates c.as_slice.result.now c.args.bytes.now) Memory c.in-Err-Rule.field-0 fault c.in-Err-Rule.field-0-is (λ e. cc)
          c.in-Err-Rule.ensures.rates),
      refl,
    )
