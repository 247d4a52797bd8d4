use Rattle.number_tables.proofs.FirstUndue.{first_undue_leaves}
use Rattle.number_tables.proofs.laws.first_undue_line_leaves.Goals as goal

pub returns : goal.returns
returns c = first_undue_leaves
