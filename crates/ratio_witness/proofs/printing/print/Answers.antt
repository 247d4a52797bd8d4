use Rattle.std.proofs.Common.{◌≡◌, ◌∙◌, ℕ, List, ap, subst}
use Rattle.std.specs.Prelude.{IfOk}
use Rattle.number_tables.specs.Table.{table_text}
use Rattle.ratio_witness.specs.Text.{witness_first}
use Rattle.ratio_witness.proofs.printing.print.Goals as goal

pub returns : goal.returns
returns c =
    subst (λ (text : List ℕ). IfOk c.print_table.result (λ file. file.items ≡ text))
    (ap (λ (first : List ℕ). table_text first c.as_slice.result.now) c.first_line.ensures ∙ ap (table_text witness_first) (c.as_slice.ensures.value ∙ c.in_ok-lines.ensures))
    c.print_table.ensures
