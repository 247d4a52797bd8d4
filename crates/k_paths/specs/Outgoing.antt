-- The links that leave each node, one after another.
use Rattle.std.specs.Prelude.{◌≡◌, ℕ, ◌+◌, ◌<◌, ◌≤◌, List, length, slice_index}
use Rattle.te_model.specs.declared.network.Network.{Network}
use Rattle.te_model.specs.Network.{node_count, link_count, tail_of}
use Rattle.k_paths.specs.declared.outgoing.Outgoing.{Outgoing}

-- h is the first link, from a number on, that leaves v, or the number of links where none does
pub record IsNextLink (net : Network) (v from h : ℕ) : Type 0 where
  pub low : from ≤ h
  pub high : h ≤ link_count net
  pub leaves : h < link_count net → tail_of net h ≡ v
  pub none : (k : ℕ) → from ≤ k → k < h → tail_of net k ≡ v → ⊥

-- .. of the links from number m on
pub record AreOutgoingFrom (net : Network) (m : ℕ) (firsts nexts : List ℕ) : Type 0 where
  pub nodes : length firsts ≡ node_count net
  pub links : length nexts ≡ link_count net
  pub first : (v : ℕ) → v < node_count net → IsNextLink net v m (slice_index firsts v)
  pub next : (h : ℕ) → m ≤ h → h < link_count net → IsNextLink net (tail_of net h) (h + 1) (slice_index nexts h)

-- for each node the first link that leaves it, and for each link the next that leaves its tail
abbrev pub AreOutgoing : Network → Outgoing → Type 0
AreOutgoing net outgoing = AreOutgoingFrom net 0 outgoing.firsts outgoing.nexts
