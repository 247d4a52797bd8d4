-- Two nodes have one distance and one least path.
use Rattle.std.proofs.Common.{inl, inr, ◌≡◌, ℕ, List, Option, Some, None, arith, refl, ap, sym}
use Rattle.te_model.specs.declared.network.Network.{Network}
use Rattle.te_model.proofs.ListOrder.{list_below-irrefl, list_below-trans}
use Rattle.te_model.proofs.Chains.{chains_of_path}
use Rattle.shortest_path.specs.Paths.{IsBelow, IsDistance, IsLeastPath}

-- two distances that are known are one
pub distance_unique : (net : Network) (lengths : List ℕ) (s t d e : ℕ) → IsDistance net lengths s t (Some d) → IsDistance net lengths s t (Some e) → d ≡ e
distance_unique net lengths s t d e ((p, path_p, sum_p), least_d) ((q, path_q, sum_q), least_e) =
    omega (arith, least_d q (chains_of_path net s t q path_q), least_e p (chains_of_path net s t p path_p), sum_p, sum_q)

pub distance_only : (net : Network) (lengths : List ℕ) (s t : ℕ) (a b : Option ℕ) →
    IsDistance net lengths s t a → IsDistance net lengths s t b → a ≡ b
distance_only net lengths s t None None one two = refl
distance_only net lengths s t None (Some y) one ((p, path, sum), least) = absurd (one p (chains_of_path net s t p path))
distance_only net lengths s t (Some x) None ((p, path, sum), least) two = absurd (two p (chains_of_path net s t p path))
distance_only net lengths s t (Some x) (Some y) one two = ap Some (distance_unique net lengths s t x y one two)

-- neither of two lists of links is below the other by turns
below_both : (lengths p q : List ℕ) → IsBelow lengths p q → IsBelow lengths q p → ⊥
below_both lengths p q one two = elim one [
  | inl lt ↦ elim two [ inl gt ↦ omega (arith, lt, gt) | inr same ↦ omega (arith, lt, same.0) ]
  | inr same ↦ elim two [
    | inl gt ↦ omega (arith, gt, same.0)
    | inr same' ↦ list_below-irrefl p (list_below-trans p q p same.1 same'.1)
  ]
]

pub least_path_only : (net : Network) (lengths : List ℕ) (s t : ℕ) (p q : Option (List ℕ)) →
    IsLeastPath net lengths s t p → IsLeastPath net lengths s t q → p ≡ q
least_path_only net lengths s t None None one two = refl
least_path_only net lengths s t None (Some q) one two = absurd (one q (chains_of_path net s t q two.0))
least_path_only net lengths s t (Some p) None one two = absurd (two p (chains_of_path net s t p one.0))
least_path_only net lengths s t (Some p) (Some q) one two = elim (one.1 q (chains_of_path net s t q two.0)) [
  | inl e ↦ ap Some (sym e)
  | inr below ↦ elim (two.1 p (chains_of_path net s t p one.0)) [
    | inl e ↦ ap Some e
    | inr above ↦ absurd (below_both lengths p q below above)
  ]
]
