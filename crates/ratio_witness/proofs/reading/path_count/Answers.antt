use Rattle.std.proofs.Common.{◌∙◌, ℕ, List, [], ap, sym, slice_index}
use Rattle.std.proofs.lemmas.Result.{err_from_is_err_and}
use Rattle.number_tables.specs.TakingDue.{BeginsWithWord, LeavesAtLine, LeavesAtWord}
use Rattle.number_tables.proofs.TakingDue.{fails_as}
use Rattle.ratio_witness.specs.Reading.{BeginsWithPathCount}
use Rattle.ratio_witness.specs.Text.{is_path_count}
use Rattle.ratio_witness.proofs.TakenLines.{count_read, numbers_fail}
use Rattle.ratio_witness.proofs.reading.path_count.Goals as goal

pub returns-in_err-numbers : goal.returns-in_err-numbers
returns-in_err-numbers c = λ ls is.
    let p = err_from_is_err_and c.from_residual.result c.from_residual.ensures.1 in
    let after = c.word_numbers.new.self in
    rw (p.1, p.2) (fails_as (BeginsWithWord []) (LeavesAtWord []) BeginsWithPathCount (LeavesAtLine [] is_path_count) c.in_err-numbers.field-0.0
    c.args.lines.now after after ls (λ j leaves. leaves is_path_count) (c.in_err-numbers.ensures ls is))

pub returns-then-is_path_count : goal.returns-then-is_path_count
returns-then-is_path_count c = λ ls is.
    let list = c.as_slice-list.ensures in
    let passes = sym (c.is_path_count.ensures ∙ ap is_path_count list) ∙ c.if-is_path_count.true in
    count_read c.in_ok-numbers.numbers c.number_at.result c.args.lines.now c.word_numbers.new.self ls passes
    (c.number_at.ensures ∙ ap (λ (ns : List ℕ). slice_index ns 0) list) (c.in_ok-numbers.ensures ls is)

pub returns : goal.returns
returns c = λ ls is.
    let fails = sym (c.is_path_count.ensures ∙ ap is_path_count c.as_slice-list.ensures) ∙ c.if-is_path_count.false in
    let after = c.word_numbers.new.self in
    numbers_fail BeginsWithPathCount [] is_path_count c.in_ok-numbers.numbers c.line-line.result c.args.lines.now after after ls fails c.line-line.ensures
    (c.in_ok-numbers.ensures ls is)
