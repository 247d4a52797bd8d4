use Rattle.std.proofs.Common.{◌∙◌, ℕ, List, Err, ap, subst}
use Rattle.std.proofs.lemmas.Result.{err_from_is_err_and}
use Rattle.te_model.specs.Faults.{line_ends, LeavesAt}
use Rattle.number_tables.specs.declared.fault.TableFault.{TableFault}
use Rattle.number_tables.specs.Table.{AreLines, table_text}
use Rattle.ratio_witness.proofs.SpelledLines.{bytes_spell, no_table}
use Rattle.ratio_witness.proofs.reading.witness_of_file.Goals as goal

pub new-requires : goal.new-requires
new-requires c = ap line_ends c.first_line.ensures

pub returns-in_err-lines : goal.returns-in_err-lines
returns-in_err-lines c =
    let p = err_from_is_err_and c.from_residual.result c.from_residual.ensures.1 in
    let bytes = c.args.bytes.now in
    rw (p.1, p.2) (no_table c.args.pairs bytes c.in_err-lines.field-0.0 (λ k is.
    subst (λ (first : List ℕ). LeavesAt AreLines (table_text first) bytes k) c.first_line.ensures (c.in_err-lines.ensures.shape k (ap (λ (f : TableFault). Err f) is))))

pub returns : goal.returns
returns c =
    let t = c.in_ok-lines.ensures.table in
    let same = t.1 ∙ ap (λ (first : List ℕ). table_text first t.0) c.first_line.ensures in
    bytes_spell c.args.pairs c.args.bytes.now t.0 c.witness_of_lines.result c.in_ok-lines.lines c.witness_of_lines.new.lines same t.2.0 c.in_ok-lines.ensures.next
    (c.witness_of_lines.ensures t.0 t.2)
