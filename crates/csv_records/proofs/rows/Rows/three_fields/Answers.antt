use Rattle.std.proofs.Common.{◌∙◌, sym, arith}
use Rattle.csv_records.proofs.FieldFacts.{absent, three, none-of, nothing}
use Rattle.csv_records.proofs.rows.Rows.three_fields.Goals as goal

pub returns-in_err-first-clause-none : goal.returns-in_err-first-clause-none
returns-in_err-first-clause-none c = none-of _ _ (absent c.args.self.now.current 0 3 (omega arith) (sym (rw c.in_err-first.was at c.field.ensures)))

pub returns-in_err-second-clause-none : goal.returns-in_err-second-clause-none
returns-in_err-second-clause-none c = none-of _ _ (absent c.args.self.now.current 1 3 (omega arith) (sym (rw c.in_err-second.was at c.field-2.ensures)))

pub returns-in_err-third-clause-none : goal.returns-in_err-third-clause-none
returns-in_err-third-clause-none c = none-of _ _ (absent c.args.self.now.current 2 3 (omega arith) (sym (rw c.in_err-third.was at c.field-3.ensures)))

pub returns-then-len-eq3-clause-some : goal.returns-then-len-eq3-clause-some
returns-then-len-eq3-clause-some c = three c.args.self.now.current _ _ _ (sym c.len.ensures ∙ c.if-len-eq3.true)
    (rw c.in_ok-first.was at c.field.ensures) (rw c.in_ok-second.was at c.field-2.ensures) (rw c.in_ok-third.was at c.field-3.ensures)

pub returns-in_err-first-clause-some : goal.returns-in_err-first-clause-some
returns-in_err-first-clause-some c = nothing _ _ c.from_residual.ensures

pub returns-in_err-second-clause-some : goal.returns-in_err-second-clause-some
returns-in_err-second-clause-some c = nothing _ _ c.from_residual-in_err-second.ensures

pub returns-in_err-third-clause-some : goal.returns-in_err-third-clause-some
returns-in_err-third-clause-some c = nothing _ _ c.from_residual-in_err-third.ensures
