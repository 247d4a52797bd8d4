-- The bracket that lengths of 1 give.
use Rattle.std.proofs.Common.{ℕ, ◌^◌, ◌≤◌, List, arith, refl}
use Rattle.std.specs.Prelude.{max}
use Rattle.std.proofs.lemmas.List.{length-replicate}
use Rattle.std.proofs.lemmas.List.Elements.{All-replicate}
use Rattle.te_model.specs.declared.network.Network.{Network}
use Rattle.te_model.specs.declared.certificate.Row.{Row}
use Rattle.te_model.specs.declared.bracket.Bracket.{Bracket}
use Rattle.te_model.specs.Inequalities.{capacity_by}
use Rattle.te_model.specs.Network.{link_count}
use Rattle.dual_bounds.specs.Dual.{unit_lengths, demand_by, IsBoundBy, IsBoundOf}

-- by distances of n pairs, with the bound from above and the rows
abbrev pub unit_bracket : Network → ℕ → List ℕ → ℕ → (ℕ → ℕ) → List Row → Bracket
unit_bracket net n demand most distance rows = record {
  low_num = demand_by n demand distance;
  low_den = max 1 (capacity_by net (unit_lengths net));
  lengths = unit_lengths net;
  rows = rows;
  parts = most;
}

pub unit_bound : (net : Network) (n : ℕ) (demand : List ℕ) (most : ℕ) (distance : ℕ → ℕ) (rows : List Row) →
    IsBoundBy net n demand most distance (unit_bracket net n demand most distance rows)
unit_bound net n demand most distance rows = record {
  count = length-replicate (link_count net) 1;
  small = All-replicate (λ l. l ≤ 2 ^ 28) (link_count net) 1 (omega arith);
  low_num_is = refl;
  low_den_is = refl;
  parts_are = refl;
}

-- the same by distances that the lengths make
pub unit_bound_of : (net : Network) (n : ℕ) (demand : List ℕ) (most : ℕ) (makes : List ℕ → (ℕ → ℕ) → Type 0) (distance : ℕ → ℕ) (rows : List Row) →
    makes (unit_lengths net) distance → IsBoundOf net n demand most makes (unit_bracket net n demand most distance rows)
unit_bound_of net n demand most makes distance rows made =
    record { distance = distance; made = made; bound = unit_bound net n demand most distance rows }
