use Rattle.std.proofs.lemmas.Result.{err_from_is_err_and}
use Rattle.number_tables.specs.Due.{has_count}
use Rattle.number_tables.proofs.TakingDue.{line_fails}
use Rattle.number_tables.proofs.due.DueLines.numbers.Goals as goal

pub returns-in_err-numbers-clause-takes : goal.returns-in_err-numbers-clause-takes
returns-in_err-numbers-clause-takes c = λ ls is.
    let p = err_from_is_err_and c.from_residual.result c.from_residual.ensures.1 in
    let fails = c.in_err-numbers.ensures ls is in
    rw (p.1, p.2) (line_fails c.args.self.now c.word_numbers.new.self c.args.word.now (has_count c.args.count) c.in_err-numbers.field-0.0 ls fails)
