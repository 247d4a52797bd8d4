use Rattle.std.proofs.Common.{◌∙◌, ◌+◌, [], length, sym}
use Rattle.std.proofs.lemmas.Result.{err_from_is_err_and}
use Rattle.number_tables.specs.Due.{has_count}
use Rattle.number_tables.specs.TakingDue.{BeginsWithLine, LeavesAtLine}
use Rattle.number_tables.proofs.TakingDue.{fails_as}
use Rattle.fault_rates.specs.PairLines.{BeginsWithPair}
use Rattle.fault_rates.proofs.PairLines.{pair_taken}
use Rattle.fault_rates.proofs.reader.take_pair.Goals as goal

pub returns-in_err-numbers : goal.returns-in_err-numbers
returns-in_err-numbers c = λ ls is.
    let n = length c.args.paths.now in
    let p = err_from_is_err_and c.from_residual.result c.from_residual.ensures.1 in
    rw (p.1, p.2)
    (fails_as (BeginsWithLine [] (has_count (1 + n))) (LeavesAtLine [] (has_count (1 + n))) (BeginsWithPair n) (LeavesAtLine [] (has_count (1 + n)))
    c.in_err-numbers.field-0.0 c.args.lines.now c.numbers.new.self c.numbers.new.self ls (λ j leaves. leaves) (c.in_err-numbers.ensures.takes ls is))

pub returns : goal.returns
returns c = λ ls is.
    pair_taken c.args.lines.now c.numbers.new.self (length c.args.paths.now) c.in_ok-numbers.numbers c.in_ok-grant_and_allocation.field-0 ls
    (sym c.as_slice.ensures ∙ c.in_ok-grant_and_allocation.ensures) (c.in_ok-numbers.ensures.takes ls is)
