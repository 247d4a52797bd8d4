use Rattle.std.proofs.Common.{◌∙◌, sym}
use Rattle.std.proofs.lemmas.Result.{err_from_is_err_and}
use Rattle.fault_rates.proofs.OneRates.{print_of_read}
use Rattle.fault_rates.proofs.spelling.read_and_print.Goals as goal

pub print-requires : goal.print-requires
print-requires c = c.in_ok-plan.ensures.valid.shaped.grants ∙ sym c.in_ok-plan.ensures.valid.shaped.pairs

pub returns-in_err-plan-clause-refused : goal.returns-in_err-plan-clause-refused
returns-in_err-plan-clause-refused c =
    let p = err_from_is_err_and c.from_residual.result c.from_residual.ensures.1 in
    rw (p.1, p.2) c.in_err-plan.ensures.rates

pub returns : goal.returns
returns c = record { same = c.in_ok-print.ensures ∙ sym (print_of_read c.args.routing.now.routes c.args.bytes.now c.in_ok-plan.plan c.in_ok-plan.ensures.rates); refused = tt }
