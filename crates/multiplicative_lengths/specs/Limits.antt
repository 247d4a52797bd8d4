-- How far lengths and multipliers go, as statements.
use Rattle.std.specs.Prelude.{ℕ, ◌≡◌, ◌*◌, ◌<◌, ◌≤◌, ◌^◌, IsTrue, All, List, length, slice_index}
use Rattle.te_model.specs.declared.network.Network.{Network}
use Rattle.te_model.specs.Network.{is_well_formed, link_count}
use Rattle.multiplicative_lengths.specs.Growth.{greatest_usage, grown_multipliers, lengths_of}

-- By multipliers of at least 1, each link of a network has a length of 1 to 2^28.
abbrev pub LengthsAreModerate : Type 0
LengthsAreModerate =
    (net : Network) (multipliers : List ℕ) → IsTrue (is_well_formed net) → length multipliers ≡ link_count net →
    All (λ m. 1 ≤ m) multipliers → All (λ l. (1 ≤ l) × (l ≤ 2 ^ 28)) (lengths_of net multipliers)

-- In a round no multiplier falls, and each at most doubles.
abbrev pub MultipliersAtMostDouble : Type 0
MultipliersAtMostDouble =
    (net : Network) (loads : List ℕ) (divisor : ℕ) (multipliers : List ℕ) → greatest_usage net loads ≤ divisor →
    (h : ℕ) → h < link_count net →
    (slice_index multipliers h ≤ slice_index (grown_multipliers net loads divisor multipliers) h)
    × (slice_index (grown_multipliers net loads divisor multipliers) h ≤ 2 * slice_index multipliers h)
