-- Lengths may change along slack links, and every distance stays.
use Rattle.std.proofs.Common.{◌⊎◌, inl, inr, ◌≡◌, ℕ, ◌+◌, ◌<◌, ◌≤◌, true, List, [], ◌∷◌, Option, Some, None, arith, refl, ap, sym, ◌∙◌, subst, slice_index}
use Rattle.std.proofs.lemmas.Bool.{eqb-true}
use Rattle.te_model.specs.declared.network.Network.{Network}
use Rattle.te_model.specs.Network.{link_count, tail_of, head_of}
use Rattle.te_model.specs.Laws.{LinksJoinNodes}
use Rattle.te_model.specs.Path.{chains}
use Rattle.te_model.proofs.Chains.{chains_of_path, first_link}
use Rattle.shortest_path.specs.Graph.{distance_at}
use Rattle.shortest_path.specs.Laws.{DistancesStay, IsSlack}
use Rattle.shortest_path.specs.Paths.{AreDistances, IsDistance, sum_along}
use Rattle.shortest_path.proofs.Filling.{rises_by, zero_at_start}

-- along each link from a node within reach, the distance rises by its length at most
abbrev RisesBy : Network → List ℕ → List (Option ℕ) → Type 0
RisesBy net lengths distances =
    (h x : ℕ) → h < link_count net → distance_at distances (tail_of net h) ≡ Some x →
    (y : ℕ) × (distance_at distances (head_of net h) ≡ Some y) × (y ≤ x + slice_index lengths h)

rises : (net : Network) (lengths : List ℕ) (s : ℕ) (distances : List (Option ℕ)) → LinksJoinNodes net → AreDistances net lengths s distances →
    RisesBy net lengths distances
rises net lengths s distances joins are h x inside is =
    let ends = joins h inside in
    rises_by net lengths s h x (distance_at distances (head_of net h)) inside
    (subst (IsDistance net lengths s (tail_of net h)) is (are.each (tail_of net h) ends.0)) (are.each (head_of net h) ends.1)

-- lengths by which no link is a short cut bound each chain from below
no_short_cut : (net : Network) (new : List ℕ) (distances : List (Option ℕ)) → RisesBy net new distances →
    (links : List ℕ) (u t x d : ℕ) → chains net u t links ≡ true → distance_at distances u ≡ Some x → distance_at distances t ≡ Some d →
    d ≤ x + sum_along new links
no_short_cut net new distances each [] u t x d chain from to =
    let same = eqb-true u t chain in
    let one : Some x ≡ Some d = sym from ∙ ap (distance_at distances) same ∙ to in
    let e : x ≡ d = cc in
    omega (arith, e)
no_short_cut net new distances each (h ∷ hs) u t x d chain from to =
    let first = first_link net u t h hs chain in
    let (y, at_head, near) = each h x first.inside (ap (distance_at distances) first.from ∙ from) in
    let rest = no_short_cut net new distances each hs (head_of net h) t y d first.rest at_head to in
    omega (arith, near, rest)

-- the lengths of each link are the same, or the link is slack
abbrev ChangesSlack : Network → List ℕ → List ℕ → List (Option ℕ) → Type 0
ChangesSlack net old new distances =
    (h : ℕ) → h < link_count net → (slice_index new h ≡ slice_index old h) ⊎ IsSlack net distances (slice_index old h) (slice_index new h) h

-- a shortest chain has no slack link, so its sum stays
shortest_stays : (net : Network) (old new : List ℕ) (s : ℕ) (distances : List (Option ℕ)) → LinksJoinNodes net → AreDistances net old s distances →
    ChangesSlack net old new distances →
    (links : List ℕ) (u t x d : ℕ) → chains net u t links ≡ true → distance_at distances u ≡ Some x → distance_at distances t ≡ Some d →
    x + sum_along old links ≡ d → sum_along new links ≡ sum_along old links
shortest_stays net old new s distances joins are slack [] u t x d chain from to sum = refl
shortest_stays net old new s distances joins are slack (h ∷ hs) u t x d chain from to sum =
    let first = first_link net u t h hs chain in
    let at_tail = ap (distance_at distances) first.from ∙ from in
    let (y, at_head, near) = rises net old s distances joins are h x first.inside at_tail in
    let rest = no_short_cut net old distances (rises net old s distances joins are) hs (head_of net h) t y d first.rest at_head to in
    let tight : y ≡ x + slice_index old h = omega (arith, near, rest, sum) in
    let same : slice_index new h ≡ slice_index old h = elim (slack h first.inside) [
      | inl e ↦ e
      | inr loose ↦ absurd ((loose x y at_tail at_head).0 tight)
    ]
    in
    let others = shortest_stays net old new s distances joins are slack hs (head_of net h) t y d first.rest at_head to (omega (arith, sum, tight)) in
    omega (arith, same, others)

pub distances_stay : DistancesStay
distances_stay net joins old new s distances inside slack are = record {
  count = are.count;
  each = λ v below. go v (distance_at distances v) refl (are.each v below);
}
  where
    start : distance_at distances s ≡ Some 0
    start = zero_at_start net old s (distance_at distances s) (are.each s inside)

    near : RisesBy net new distances
    near h x within at_tail =
        let (y, at_head, close) = rises net old s distances joins are h x within at_tail in (
          y,
          at_head,
          elim (slack h within) [
            | inl e ↦ omega (arith, close, e)
            | inr loose ↦ (loose x y at_tail at_head).1
          ],
        )

    go : (v : ℕ) (o : Option ℕ) → distance_at distances v ≡ o → IsDistance net old s v o → IsDistance net new s v o
    go v None none is = is
    go v (Some d) some ((p, path, sum), least) =
        let chain = chains_of_path net s v p path in
        let same = shortest_stays net old new s distances joins are slack p s v 0 d chain start some (omega (arith, sum)) in
        ((p, path, same ∙ sum), λ links other. omega (arith, no_short_cut net new distances near links s v 0 d other start some))
