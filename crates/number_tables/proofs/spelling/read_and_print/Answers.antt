-- Who prints what was read refuses as who reads does.
use Rattle.std.proofs.Common.{Vec, Global, ℕ}
use Rattle.std.proofs.lemmas.Result.{err_from_is_err_and}
use Rattle.number_tables.specs.declared.fault.TableFault.TheVariants as faults
use Rattle.number_tables.specs.declared.line.NumLine.{NumLine}
use Rattle.number_tables.proofs.Whole.{same_refusal}
use Rattle.number_tables.proofs.spelling.read_and_print.Goals as goal

pub returns-in_err-lines-clause-misshaped : goal.returns-in_err-lines-clause-misshaped
returns-in_err-lines-clause-misshaped c = λ k leaves.
    let p = err_from_is_err_and c.from_residual.result c.from_residual.ensures.1 in
    rw (p.1, p.2) (same_refusal (Vec NumLine Global) (Vec ℕ Global) c.in_err-lines.field-0.0 (faults.Shape k) (c.in_err-lines.ensures.misshaped k leaves))
