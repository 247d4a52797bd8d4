use Rattle.std.proofs.Common.{◌∙◌, sym, arith}
use Rattle.csv_records.proofs.FieldFacts.{absent, four, none-of, nothing}
use Rattle.csv_records.proofs.rows.Rows.four_fields.Goals as goal

pub returns-in_err-first-clause-none : goal.returns-in_err-first-clause-none
returns-in_err-first-clause-none c = none-of _ _ (absent c.args.self.now.current 0 4 (omega arith) (sym (rw c.in_err-first.was at c.field.ensures)))

pub returns-in_err-second-clause-none : goal.returns-in_err-second-clause-none
returns-in_err-second-clause-none c = none-of _ _ (absent c.args.self.now.current 1 4 (omega arith) (sym (rw c.in_err-second.was at c.field-2.ensures)))

pub returns-in_err-third-clause-none : goal.returns-in_err-third-clause-none
returns-in_err-third-clause-none c = none-of _ _ (absent c.args.self.now.current 2 4 (omega arith) (sym (rw c.in_err-third.was at c.field-3.ensures)))

pub returns-in_err-fourth-clause-none : goal.returns-in_err-fourth-clause-none
returns-in_err-fourth-clause-none c = none-of _ _ (absent c.args.self.now.current 3 4 (omega arith) (sym (rw c.in_err-fourth.was at c.field-4.ensures)))

pub returns-then-len-eq4-clause-some : goal.returns-then-len-eq4-clause-some
returns-then-len-eq4-clause-some c = four c.args.self.now.current _ _ _ _ (sym c.len.ensures ∙ c.if-len-eq4.true)
    (rw c.in_ok-first.was at c.field.ensures) (rw c.in_ok-second.was at c.field-2.ensures) (rw c.in_ok-third.was at c.field-3.ensures) (rw c.in_ok-fourth.was at c.field-4.ensures)

pub returns-in_err-first-clause-some : goal.returns-in_err-first-clause-some
returns-in_err-first-clause-some c = nothing _ _ c.from_residual.ensures

pub returns-in_err-second-clause-some : goal.returns-in_err-second-clause-some
returns-in_err-second-clause-some c = nothing _ _ c.from_residual-in_err-second.ensures

pub returns-in_err-third-clause-some : goal.returns-in_err-third-clause-some
returns-in_err-third-clause-some c = nothing _ _ c.from_residual-in_err-third.ensures

pub returns-in_err-fourth-clause-some : goal.returns-in_err-fourth-clause-some
returns-in_err-fourth-clause-some c = nothing _ _ c.from_residual-in_err-fourth.ensures
