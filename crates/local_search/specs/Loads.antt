-- What a move makes of the loads of the links.
use Rattle.std.specs.Prelude.{ℕ, ◌+◌, ◌-◌, ◌*◌, ◌<◌, ◌≤◌, IsTrue, List, if◌then◌else◌}
use Rattle.te_model.specs.declared.network.Network.{Network}
use Rattle.te_model.specs.Network.{link_count, capacity_of}
use Rattle.te_model.specs.Path.{has_number}

-- the load of link e once this amount has gone from the links of one path to those of another
abbrev pub load_after : ℕ → List ℕ → List ℕ → ℕ → ℕ → ℕ
load_after load from to amount e = load + (if has_number to e then amount else 0) - (if has_number from e then amount else 0)

-- no link carries more than so many times its capacity
abbrev pub AreWithin : Network → ℕ → (ℕ → ℕ) → Type 0
AreWithin net times load = (e : ℕ) → e < link_count net → load e ≤ times * capacity_of net e

-- none of these links carries more than so many times its capacity
abbrev pub AreWithinOn : Network → ℕ → (ℕ → ℕ) → List ℕ → Type 0
AreWithinOn net times load links = (e : ℕ) → e < link_count net → IsTrue (has_number links e) → load e ≤ times * capacity_of net e

-- each link that carries more than so many times its capacity is one of these
abbrev pub HasAbove : Network → ℕ → (ℕ → ℕ) → List ℕ → Type 0
HasAbove net times load links = (e : ℕ) → e < link_count net → times * capacity_of net e < load e → IsTrue (has_number links e)

-- x is the greatest load over capacity of the first n links, rounded up, and this link has it
pub record IsPeakBelow (net : Network) (load : ℕ → ℕ) (n link x : ℕ) : Type 0 where
  pub within : (e : ℕ) → e < n → load e ≤ x * capacity_of net e
  pub reached : 0 < x → (link < n) × ((x - 1) * capacity_of net link < load link)
