use Rattle.std.proofs.Common.{◌∙◌, ℕ, List, ap, sym, slice_index}
use Rattle.std.specs.Prelude.{codes}
use Rattle.std.proofs.lemmas.Result.{err_from_is_err_and}
use Rattle.number_tables.specs.TakingDue.{BeginsWithWord, LeavesAtLine, LeavesAtWord}
use Rattle.number_tables.proofs.TakingDue.{fails_as}
use Rattle.ratio_witness.proofs.TakenLines.{numbers_fail}
use Rattle.hose_bound.specs.Files.{is_block_count}
use Rattle.hose_bound.specs.Lines.{BeginsWithBlockCount}
use Rattle.hose_bound.proofs.TakenLines.{count_read}
use Rattle.hose_bound.proofs.reader.take_block_count.Goals as goal

pub returns-in_err-numbers : goal.returns-in_err-numbers
returns-in_err-numbers c = λ ls is.
    let p = err_from_is_err_and c.from_residual.result c.from_residual.ensures.1 in
    let after = c.word_numbers.new.self in
    rw (p.1, p.2) (fails_as (BeginsWithWord (codes "blocks")) (LeavesAtWord (codes "blocks")) BeginsWithBlockCount (LeavesAtLine (codes "blocks") is_block_count)
    c.in_err-numbers.field-0.0 c.args.lines.now after after ls (λ j leaves. leaves is_block_count) (c.in_err-numbers.ensures ls is))

pub returns-then-is_block_count : goal.returns-then-is_block_count
returns-then-is_block_count c = λ ls is.
    let list = c.as_slice-list.ensures in
    let passes = sym (c.is_block_count.ensures ∙ ap is_block_count list) ∙ c.if-is_block_count.true in
    count_read c.in_ok-numbers.numbers c.number_at.result c.args.lines.now c.word_numbers.new.self ls passes
    (c.number_at.ensures ∙ ap (λ (ns : List ℕ). slice_index ns 0) list) (c.in_ok-numbers.ensures ls is)

pub returns : goal.returns
returns c = λ ls is.
    let fails = sym (c.is_block_count.ensures ∙ ap is_block_count c.as_slice-list.ensures) ∙ c.if-is_block_count.false in
    let after = c.word_numbers.new.self in
    numbers_fail BeginsWithBlockCount (codes "blocks") is_block_count c.in_ok-numbers.numbers c.line-line.result c.args.lines.now after after ls fails c.line-line.ensures
    (c.in_ok-numbers.ensures ls is)
