-- The links with which ways end.
use Rattle.std.specs.Prelude.{◌≡◌, ℕ, zero, suc, ◌^◌, ◌<◌, List, [], ◌∷◌, Option, Some, None, length, min, slice_index_or}
use Rattle.te_model.specs.declared.network.Network.{Network}
use Rattle.te_model.specs.Network.{capacity_of, link_count, node_count, tail_of}

-- a link of the network or none for each node
pub record AreLastLinks (net : Network) (lasts : List (Option ℕ)) : Type 0 where
  pub count : length lasts ≡ node_count net
  pub each : (v h : ℕ) → slice_index_or lasts v None ≡ Some h → h < link_count net

-- a link, where there is one, before those that go on from it
abbrev pub link_and_on : Option ℕ → (ℕ → List ℕ) → List ℕ
link_and_on None on = []
link_and_on (Some h) on = h ∷ on h

-- the links of the way to node v from its end back, and at most n of them
abbrev pub way_to : Network → List (Option ℕ) → ℕ → ℕ → List ℕ
way_to net lasts zero v = []
way_to net lasts (suc n) v = link_and_on (slice_index_or lasts v None) (λ h. way_to net lasts n (tail_of net h))

-- the least capacity of the links, or 2^32 where there is none
abbrev pub least_capacity : Network → List ℕ → ℕ
least_capacity net [] = 2 ^ 32
least_capacity net (h ∷ hs) = min (capacity_of net h) (least_capacity net hs)
