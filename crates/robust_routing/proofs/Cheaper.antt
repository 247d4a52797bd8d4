-- The least path of a pair by lengths, where it is cheaper than the mean.
use Rattle.std.proofs.Common.{◌≡◌, inl, inr, ℕ, ◌+◌, ◌<◌, ◌≤◌, Bool, true, false, All, List, [], ◌∷◌, Option, Some, None, length, take, get_or, arith, ap, refl, sym, ◌∙◌, subst}
use Rattle.std.specs.Prelude.{if◌then◌else◌}
use Rattle.std.proofs.lemmas.List.{take_more}
use Rattle.te_model.specs.declared.network.Network.{Network}
use Rattle.te_model.specs.Network.{is_well_formed, link_count, node_count}
use Rattle.shortest_path.specs.Graph.{AtMost, distance_at}
use Rattle.shortest_path.specs.Least.{AreLeastSums, IsLeastWalk}
use Rattle.shortest_path.specs.Paths.{sum_along}
use Rattle.shortest_path.proofs.Existence.{least_walks_exist}
use Rattle.shortest_path.proofs.Relaxing.{is-at_most}
use Rattle.shortest_path.proofs.Walks.{sum_along-append}
use Rattle.robust_routing.specs.Offers.{cheaper_of, is_cheaper}

-- the sum along one link more
pub sum_along_more : (lengths links : List ℕ) (i d : ℕ) → i < length links →
    sum_along lengths (take (i + 1) links) ≡ sum_along lengths (take i links) + get_or lengths (get_or links i d) 0
sum_along_more lengths links i d below =
    ap (sum_along lengths) (take_more links i d below)
    ∙ (sum_along-append lengths (take i links) (get_or links i d ∷ []) ∙ omega arith)

-- a least walk is as long as the least sum, and there is a least sum where there is a walk
walk_sum : (net : Network) (lengths : List ℕ) (marks : List Bool) (s t : ℕ) (sums : List (Option ℕ)) (r : List ℕ) →
    AreLeastSums net lengths marks t sums → IsLeastWalk net lengths marks s t (Some r) → distance_at sums s ≡ Some (sum_along lengths r)
walk_sum net lengths marks s t sums r are (walk, least) = go (distance_at sums s) refl
  where
    go : (o : Option ℕ) → distance_at sums s ≡ o → distance_at sums s ≡ Some (sum_along lengths r)
    go None is = absurd (subst (λ (o : Option ℕ). AtMost o (sum_along lengths r)) is (are.below s r walk))
    go (Some x) is =
        let low = is-at_most (distance_at sums s) (sum_along lengths r) x is (are.below s r walk) in
        let (w, walk_w, sum) = are.reached s x is in
        let high : sum_along lengths r ≤ x = elim (least w walk_w) [
          | inl e ↦ omega (arith, ap (sum_along lengths) e, sum)
          | inr below ↦ elim below [ inl lt ↦ omega (arith, lt, sum) | inr same ↦ omega (arith, same.0, sum) ]
        ]
        in
        let e : x ≡ sum_along lengths r = omega (arith, low, high) in
        is ∙ ap (λ (k : ℕ). Some k) e

-- a least walk whose sum is cheaper is taken, and one whose sum is not is left
pub cheaper_walk : (net : Network) (lengths : List ℕ) (marks : List Bool) (s t mean : ℕ) (sums : List (Option ℕ)) (o : Option (List ℕ)) →
    AreLeastSums net lengths marks t sums → IsLeastWalk net lengths marks s t o → is_cheaper (distance_at sums s) mean ≡ true →
    o ≡ cheaper_of lengths mean o
cheaper_walk net lengths marks s t mean sums None are least is = refl
cheaper_walk net lengths marks s t mean sums (Some r) are least is =
    let e : is_cheaper (Some (sum_along lengths r)) mean ≡ true =
    ap (λ (k : Option ℕ). is_cheaper k mean) (sym (walk_sum net lengths marks s t sums r are least)) ∙ is
    in
    ap (λ (b : Bool). if b then Some r else None) (sym e)

pub no_cheaper_walk : (net : Network) (lengths : List ℕ) (marks : List Bool) (s t mean : ℕ) (sums : List (Option ℕ)) →
    is_well_formed net ≡ true → length lengths ≡ link_count net → All (λ l. 1 ≤ l) lengths → s < node_count net → t < node_count net →
    AreLeastSums net lengths marks t sums → is_cheaper (distance_at sums s) mean ≡ false →
    (walk : Option (List ℕ)) × IsLeastWalk net lengths marks s t walk × (None ≡ cheaper_of lengths mean walk)
no_cheaper_walk net lengths marks s t mean sums formed count positive inside inside_t are is =
    let (walk, least) = least_walks_exist net lengths formed count positive marks s t inside inside_t in
    (walk, least, go walk least)
  where
    go : (walk : Option (List ℕ)) → IsLeastWalk net lengths marks s t walk → None ≡ cheaper_of lengths mean walk
    go None least = refl
    go (Some r) least =
        let e : is_cheaper (Some (sum_along lengths r)) mean ≡ false =
        ap (λ (k : Option ℕ). is_cheaper k mean) (sym (walk_sum net lengths marks s t sums r are least)) ∙ is
        in
        ap (λ (b : Bool). if b then Some r else None) (sym e)
