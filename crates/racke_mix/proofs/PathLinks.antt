-- The links of paths.
use Rattle.std.proofs.Common.{ℕ, ◌<◌, ◌&&◌, [], ◌∷◌, arith, refl, ◌==◌, nat_lt}
use Rattle.std.proofs.lemmas.Bool.{and_from, eq-eqb, lt-ltb}
use Rattle.te_model.specs.declared.network.Network.{Network}
use Rattle.te_model.specs.Network.{link_count, tail_of, head_of}
use Rattle.shortest_path.specs.Paths.{HasPath}

-- a link leads from its tail to its head
pub link_is_path : (net : Network) (h : ℕ) → h < link_count net → HasPath net (tail_of net h) (head_of net h)
link_is_path net h inside = (
  h ∷ [],
  omega arith,
  and_from (nat_lt h (link_count net) && tail_of net h == tail_of net h) (head_of net h == head_of net h)
      (and_from (nat_lt h (link_count net)) (tail_of net h == tail_of net h) (lt-ltb h (link_count net) inside) (eq-eqb (tail_of net h) (tail_of net h) refl))
      (eq-eqb (head_of net h) (head_of net h) refl),
)
