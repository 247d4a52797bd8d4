use Rattle.std.proofs.Common.{◌∙◌, ℕ, List, [], map, drop, ap, sym, slice_index}
use Rattle.std.proofs.lemmas.Result.{err_from_is_err_and}
use Rattle.te_model.specs.declared.route.PathShare.{PathShare}
use Rattle.cert_text.specs.Reading.{narrow_number}
use Rattle.number_tables.specs.TakingDue.{BeginsWithWord, LeavesAtLine, LeavesAtWord}
use Rattle.number_tables.proofs.TakingDue.{fails_as}
use Rattle.ratio_witness.specs.Reading.{BeginsWithPath}
use Rattle.ratio_witness.specs.Text.{is_path_line}
use Rattle.ratio_witness.proofs.TakenLines.{numbers_fail, path_line_long, path_read}
use Rattle.ratio_witness.proofs.reading.path_share.Goals as goal

pub returns-in_err-numbers : goal.returns-in_err-numbers
returns-in_err-numbers c = λ ls is.
    let p = err_from_is_err_and c.from_residual.result c.from_residual.ensures.1 in
    let after = c.word_numbers.new.self in
    rw (p.1, p.2) (fails_as (BeginsWithWord []) (LeavesAtWord []) BeginsWithPath (LeavesAtLine [] is_path_line) c.in_err-numbers.field-0.0
    c.args.lines.now after after ls (λ j leaves. leaves is_path_line) (c.in_err-numbers.ensures ls is))

pub path_of_numbers-requires : goal.path_of_numbers-requires
path_of_numbers-requires c = path_line_long c.as_slice-list.result.now (sym c.is_path_line.ensures ∙ c.if-is_path_line.true)

pub returns-then-is_path_line : goal.returns-then-is_path_line
returns-then-is_path_line c = λ ls is.
    let list = c.as_slice-list.ensures in
    let passes = sym (c.is_path_line.ensures ∙ ap is_path_line list) ∙ c.if-is_path_line.true in
    let same = c.in_ok-path_of_numbers.ensures ∙ ap (λ (ns : List ℕ). spelled_path ns) list in
    path_read c.in_ok-numbers.numbers c.in_ok-path_of_numbers.field-0 c.args.lines.now c.word_numbers.new.self ls is.0 passes same (c.in_ok-numbers.ensures ls is)
  where
    spelled_path : List ℕ → PathShare
    spelled_path ns = record { links = map narrow_number (drop 2 ns); weight = slice_index ns 0 }

pub returns : goal.returns
returns c = λ ls is.
    let fails = sym (c.is_path_line.ensures ∙ ap is_path_line c.as_slice-list.ensures) ∙ c.if-is_path_line.false in
    let after = c.word_numbers.new.self in
    numbers_fail BeginsWithPath [] is_path_line c.in_ok-numbers.numbers c.line-line.result c.args.lines.now after after ls fails c.line-line.ensures
    (c.in_ok-numbers.ensures ls is)
