use Rattle.std.proofs.Common.{◌≡◌, ℕ, List, [], subst}
use Rattle.std.specs.Prelude.{IfOk}
use Rattle.number_tables.specs.Due.{word_line}
use Rattle.ratio_witness.proofs.printing.share_line.Goals as goal

pub returns : goal.returns
returns c = subst (λ (ns : List ℕ). IfOk c.new.result (λ l. l ≡ word_line [] ns)) c.in_ok-numbers.ensures c.new.ensures
