-- Networks that differ in capacities and costs alone.
use Rattle.std.specs.Prelude.{ℕ, ◌≡◌, ◌<◌, ◌↔◌, Bool, ◌&&◌, IsTrue, ◌==◌, bytes_eq}
use Rattle.std.specs.Cmp.Lexicographic.{pointwise}
use Rattle.te_model.specs.declared.network.Network.{Network}
use Rattle.te_model.specs.Counting.{all_below}
use Rattle.te_model.specs.Network.{link_count, tail_of, head_of}

-- the same nodes by name and the same links by their ends, in order
pub record AreSameLinks (a b : Network) : Type 0 where
  pub names : a.names ≡ b.names
  pub count : link_count a ≡ link_count b
  pub tails : (h : ℕ) → h < link_count a → tail_of a h ≡ tail_of b h
  pub heads : (h : ℕ) → h < link_count a → head_of a h ≡ head_of b h

-- whether link h leads from and to the same nodes in both
abbrev pub has_same_ends : Network → Network → ℕ → Bool
has_same_ends a b h = tail_of a h == tail_of b h && head_of a h == head_of b h

-- whether they have the same nodes by name and the same links by their ends, in order
abbrev pub has_same_links : Network → Network → Bool
has_same_links a b = pointwise bytes_eq a.names b.names && link_count a == link_count b && all_below (link_count a) (has_same_ends a b)

-- The test decides it.
abbrev pub SameLinksAreDecided : Type 0
SameLinksAreDecided = (a b : Network) → IsTrue (has_same_links a b) ↔ AreSameLinks a b
