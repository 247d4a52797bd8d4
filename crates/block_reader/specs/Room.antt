-- Lists of rows that are filled in place.
use Rattle.std.specs.Prelude.{◌≡◌, ℕ, Bool, true, false, All, List, length}
use Rattle.te_model.specs.declared.certificate.Row.{Row}

-- a row with this many potentials
abbrev pub HasWidth : ℕ → Row → Type 0
HasWidth nodes row = length row.potential ≡ nodes

-- this many rows with a potential for each node
pub record IsShelf (n nodes : ℕ) (rows : List Row) : Type 0 where
  pub count : length rows ≡ n
  pub widths : All (HasWidth nodes) rows

-- how many numbers `plus` and `minus` have
abbrev pub sides_of : Bool → ℕ → ℕ
sides_of false pairs = 0
sides_of true pairs = pairs
