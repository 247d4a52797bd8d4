use Rattle.plan.specs.declared.scheme_name.SchemeName.TheVariants.{Spf, Ecmp, Ksp, Mcf, Racke, Smore, Valiant, Robust}
use Rattle.step_detail.proofs.Steps.{step_by_name}
use Rattle.step_detail.proofs.scheme_step.scheme_step.Goals as goal

pub returns-in-Spf-clause-step : goal.returns-in-Spf-clause-step
returns-in-Spf-clause-step c =
    step_by_name c.args.name Spf c.args.plan.now c.args.network.now c.args.traffic.now c.args.failures.now c.args.step c.in-Spf.is c.step_by.result
    c.step_by.ensures.step

pub returns-in-Spf-clause-rates : goal.returns-in-Spf-clause-rates
returns-in-Spf-clause-rates c = c.step_by.ensures.rates

pub returns-in-Ecmp-clause-step : goal.returns-in-Ecmp-clause-step
returns-in-Ecmp-clause-step c =
    step_by_name c.args.name Ecmp c.args.plan.now c.args.network.now c.args.traffic.now c.args.failures.now c.args.step c.in-Ecmp.is c.step_by-in-Ecmp.result
    c.step_by-in-Ecmp.ensures.step

pub returns-in-Ecmp-clause-rates : goal.returns-in-Ecmp-clause-rates
returns-in-Ecmp-clause-rates c = c.step_by-in-Ecmp.ensures.rates

pub returns-in-Ksp-clause-step : goal.returns-in-Ksp-clause-step
returns-in-Ksp-clause-step c =
    step_by_name c.args.name Ksp c.args.plan.now c.args.network.now c.args.traffic.now c.args.failures.now c.args.step c.in-Ksp.is c.step_by-in-Ksp.result
    c.step_by-in-Ksp.ensures.step

pub returns-in-Ksp-clause-rates : goal.returns-in-Ksp-clause-rates
returns-in-Ksp-clause-rates c = c.step_by-in-Ksp.ensures.rates

pub returns-in-Mcf-clause-step : goal.returns-in-Mcf-clause-step
returns-in-Mcf-clause-step c =
    step_by_name c.args.name Mcf c.args.plan.now c.args.network.now c.args.traffic.now c.args.failures.now c.args.step c.in-Mcf.is c.step_by-in-Mcf.result
    c.step_by-in-Mcf.ensures.step

pub returns-in-Mcf-clause-rates : goal.returns-in-Mcf-clause-rates
returns-in-Mcf-clause-rates c = c.step_by-in-Mcf.ensures.rates

pub returns-in-Racke-clause-step : goal.returns-in-Racke-clause-step
returns-in-Racke-clause-step c =
    step_by_name c.args.name Racke c.args.plan.now c.args.network.now c.args.traffic.now c.args.failures.now c.args.step c.in-Racke.is c.step_by-in-Racke.result
    c.step_by-in-Racke.ensures.step

pub returns-in-Racke-clause-rates : goal.returns-in-Racke-clause-rates
returns-in-Racke-clause-rates c = c.step_by-in-Racke.ensures.rates

pub returns-in-Smore-clause-step : goal.returns-in-Smore-clause-step
returns-in-Smore-clause-step c =
    step_by_name c.args.name Smore c.args.plan.now c.args.network.now c.args.traffic.now c.args.failures.now c.args.step c.in-Smore.is c.step_by-in-Smore.result
    c.step_by-in-Smore.ensures.step

pub returns-in-Smore-clause-rates : goal.returns-in-Smore-clause-rates
returns-in-Smore-clause-rates c = c.step_by-in-Smore.ensures.rates

pub returns-in-Valiant-clause-step : goal.returns-in-Valiant-clause-step
returns-in-Valiant-clause-step c =
    step_by_name c.args.name Valiant c.args.plan.now c.args.network.now c.args.traffic.now c.args.failures.now c.args.step c.in-Valiant.is c.step_by-in-Valiant.result
    c.step_by-in-Valiant.ensures.step

pub returns-in-Valiant-clause-rates : goal.returns-in-Valiant-clause-rates
returns-in-Valiant-clause-rates c = c.step_by-in-Valiant.ensures.rates

pub returns-in-Robust-clause-step : goal.returns-in-Robust-clause-step
returns-in-Robust-clause-step c =
    step_by_name c.args.name Robust c.args.plan.now c.args.network.now c.args.traffic.now c.args.failures.now c.args.step c.in-Robust.is c.step_by-in-Robust.result
    c.step_by-in-Robust.ensures.step

pub returns-in-Robust-clause-rates : goal.returns-in-Robust-clause-rates
returns-in-Robust-clause-rates c = c.step_by-in-Robust.ensures.rates
