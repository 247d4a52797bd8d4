-- The way back from a node by last links.
use Rattle.std.proofs.Common.{◌≡◌, ℕ, zero, suc, ◌+◌, ◌-◌, ◌^◌, ◌<◌, ◌≤◌, List, [], ◌∷◌, Option, Some, None, get_or, arith, ap, ◌∙◌}
use Rattle.te_model.specs.declared.network.Network.{Network}
use Rattle.te_model.specs.Network.{tail_of}
use Rattle.centred_steps.specs.Ways.{least_capacity, link_and_on, way_to}

-- where a way goes on, and where it ends
pub way_on : (net : Network) (lasts : List (Option ℕ)) (n k v h : ℕ) → k < n → get_or lasts v None ≡ Some h →
    way_to net lasts (n - k) v ≡ h ∷ way_to net lasts (n - (k + 1)) (tail_of net h)
way_on net lasts n k v h below last =
    let next : n - k ≡ suc (n - (k + 1)) = omega arith in
    ap (λ m. way_to net lasts m v) next ∙ ap (λ o. link_and_on o (λ g. way_to net lasts (n - (k + 1)) (tail_of net g))) last

pub way_ends : (net : Network) (lasts : List (Option ℕ)) (n v : ℕ) → get_or lasts v None ≡ None → way_to net lasts n v ≡ []
way_ends net lasts zero v last = cc
way_ends net lasts (suc n) v last = ap (λ o. link_and_on o (λ g. way_to net lasts n (tail_of net g))) last

pub least_small : (net : Network) (links : List ℕ) → least_capacity net links ≤ 2 ^ 32
least_small net [] = omega arith
least_small net (h ∷ hs) = omega (arith, least_small net hs)
