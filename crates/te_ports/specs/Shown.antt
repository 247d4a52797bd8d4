-- What a depot shows of its files.
use Rattle.std.specs.Prelude.{ℕ, List, Option}
use Rattle.te_ports.specs.Record.{Read}

-- what it tells of each file, what its reads gave, and how often they failed
pub record Shown : Type 0 where
  pub content : List ℕ → Option (List ℕ)
  pub gave : List Read
  pub faults : List ℕ → ℕ

abbrev pub shown_by : {D : Type 0} → (D → List ℕ → Option (List ℕ)) → (D → List Read) → (D → List ℕ → ℕ) → D → Shown
shown_by content gave faults depot = record { content = content depot; gave = gave depot; faults = faults depot }
