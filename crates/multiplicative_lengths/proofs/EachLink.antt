-- Lists of one number for each link.
use Rattle.std.proofs.Common.{◌≡◌, ℕ, ◌<◌, All, length, get_or, arith}
use Rattle.std.proofs.lemmas.List.Elements.{All-from_get_or}
use Rattle.std.proofs.lemmas.List.FromFn.{get_or-map-range_with_len, length-map-range_with_len}
use Rattle.te_model.specs.declared.network.Network.{Network}
use Rattle.te_model.specs.Network.{link_count}
use Rattle.multiplicative_lengths.specs.Growth.{for_each_link}

pub count_each : (net : Network) (number : ℕ → ℕ) → length (for_each_link net number) ≡ link_count net
count_each net number = length-map-range_with_len number 0 (link_count net)

pub at_link : (net : Network) (number : ℕ → ℕ) (h : ℕ) → h < link_count net → get_or (for_each_link net number) h 0 ≡ number h
at_link net number h below = get_or-map-range_with_len number 0 (link_count net) h h 0 below (omega arith)

-- what holds of the number of each link
pub all_links : (P : ℕ → Type 0) (net : Network) (number : ℕ → ℕ) → ((h : ℕ) → h < link_count net → (n : ℕ) → n ≡ number h → P n) → All P (for_each_link net number)
all_links P net number each = All-from_get_or P (for_each_link net number) 0 (λ h below.
    let inside : h < link_count net = omega (arith, below, count_each net number) in
    each h inside (get_or (for_each_link net number) h 0) (at_link net number h inside))
