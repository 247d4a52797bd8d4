-- That there are summaries, as a statement.
use Rattle.std.specs.Prelude.{ℕ, ◌≤◌, List}
use Rattle.generation.specs.Summary.{IsSummary}

-- of 2 to 64 nodes and a seed there is a summary
abbrev pub SummariesExist : Type 0
SummariesExist = (n seed : ℕ) → 2 ≤ n → n ≤ 64 → (text : List ℕ) × IsSummary n seed text
