-- The weights of a round are one list, and they grow by a quarter at most.
use Rattle.std.proofs.Common.{◌≡◌, ℕ, ◌+◌, ◌*◌, ◌/◌, ◌<◌, ◌≤◌, true, List, Some, None, length, arith, sym, subst, ◌∙◌, inl, inr}
use Rattle.std.specs.Prelude.{All}
use Rattle.std.proofs.lemmas.Bool.{cases_lt}
use Rattle.std.proofs.lemmas.Grind.{same_number_lists}
use Rattle.std.proofs.lemmas.List.Elements.{All-get_or}
use Rattle.std.proofs.lemmas.Nat.{mul-le}
use Rattle.std.proofs.Math.Nat.{mul-le-mul_left}
use Rattle.te_model.specs.declared.network.Network.{Network}
use Rattle.te_model.specs.declared.route.PairRoutes.{PairRoutes}
use Rattle.te_model.specs.Network.{capacity_of}
use Rattle.te_model.specs.Path.{has_number, share, source_of, destination_of}
use Rattle.te_model.proofs.Amounts.{has_at}
use Rattle.te_model.proofs.Quotients.{quotient_up-least}
use Rattle.shortest_path.specs.Paths.{IsDistance, IsLeastPath}
use Rattle.shortest_path.proofs.Unique.{distance_unique, least_path_only}
use Rattle.best_blocks.specs.Best.{IsGreatestQuotient}
use Rattle.ratio_certificate.specs.Rounds.{raised_weight, AreRaised, IsNarrowest, IsNextRound}

-- a round adds a quarter of the weight at most, rounded up
pub raised_more : (least capacity weight : ℕ) → 1 ≤ capacity → least ≤ capacity →
    (weight ≤ raised_weight least capacity weight) × (raised_weight least capacity weight ≤ (5 * weight + 3) / 4)
raised_more least capacity weight some less =
    let product : weight * least ≤ weight * capacity = mul-le-mul_left weight less in
    let quarter : weight ≤ (weight + 3) / 4 * 4 = omega arith in
    let enough : weight * capacity ≤ (weight + 3) / 4 * 4 * capacity = mul-le weight capacity ((weight + 3) / 4 * 4) capacity quarter (omega arith) in
    let bound = quotient_up-least (weight * least) (4 * capacity) ((weight + 3) / 4) (omega (arith, some)) (omega (arith, product, enough)) in
    (omega arith, omega (arith, bound))

-- what holds of each number of a list holds of one that is in it
pub all_has : (P : ℕ → Type 0) (xs : List ℕ) (x : ℕ) → All P xs → has_number xs x ≡ true → P x
all_has P xs x all has = let (k, below, at) = has_at xs x has in subst P at (All-get_or P xs k 0 below all)

-- a path has one least capacity
narrowest_only : (net : Network) (path : List ℕ) (x y : ℕ) → IsNarrowest net path x → IsNarrowest net path y → x ≡ y
narrowest_only net path x y one two =
    let (h, in_one, at_one) = one.reached in
    let (k, in_two, at_two) = two.reached in
    let first = all_has (λ h. x ≤ capacity_of net h) path k one.bound in_two in
    let second = all_has (λ h. y ≤ capacity_of net h) path h two.bound in_one in
    omega (arith, first, second, at_one, at_two)

-- the first pair with the greatest share by distance is one
pub dearest_only : (n : ℕ) (shares distance shares' distance' : ℕ → ℕ) (a b a' b' : ℕ) →
    ((p : ℕ) → p < n → shares' p ≡ shares p) → ((p : ℕ) → p < n → 0 < shares p → distance' p ≡ distance p) →
    (one : IsGreatestQuotient n shares distance a b) (two : IsGreatestQuotient n shares' distance' a' b') → one.pair ≡ two.pair
dearest_only n shares distance shares' distance' a b a' b' same far one two =
    let p = one.pair in
    let q = two.pair in
    let some_q : 0 < shares q = omega (arith, two.positive, same q two.within) in
    let share_p : shares' p ≡ a = same p one.within ∙ sym one.share_is in
    let far_p : distance' p ≡ b = far p one.within one.positive ∙ sym one.distance_is in
    let share_q : shares q ≡ a' = sym (same q two.within) ∙ sym two.share_is in
    let far_q : distance q ≡ b' = sym (far q two.within some_q) ∙ sym two.distance_is in
    elim (cases_lt p q) [
      | inl lt ↦
          let first : a * b' < a' * b = rw (share_p, far_p) at (two.first p lt (omega (arith, one.positive, same p one.within))) in
          let second : a' * b ≤ a * b' = rw (share_q, far_q) at (one.greatest q two.within) in
          absurd (omega (arith, first, second))
      | inr ge ↦ elim (cases_lt q p) [
        | inl lt ↦
            let first : a' * b < a * b' = rw (share_q, far_q) at (one.first q lt some_q) in
            let second : a * b' ≤ a' * b = rw (share_p, far_p) at (two.greatest p one.within) in
            absurd (omega (arith, first, second))
        | inr le ↦ omega (arith, ge, le)
      ]
    ]

-- raised weights are one list
raised_only : (net : Network) (path old new new' : List ℕ) (least : ℕ) → AreRaised net path least old new → AreRaised net path least old new' → new ≡ new'
raised_only net path old new new' least one two =
    same_number_lists new new' (one.count ∙ sym two.count)
    (λ h below. let inside : h < length old = omega (arith, below, one.count) in one.each h inside ∙ sym (two.each h inside))

-- the weights that a round makes are the only ones
pub next_only : (net : Network) (routes : List PairRoutes) (e : ℕ) (old new weights : List ℕ) (shares distance : ℕ → ℕ) (a b least : ℕ) (path : List ℕ) →
    ((p : ℕ) → p < length routes → shares p ≡ share routes p e) →
    ((p : ℕ) → p < length routes → 0 < shares p → IsDistance net old (source_of routes p) (destination_of routes p) (Some (distance p))) →
    (dearest : IsGreatestQuotient (length routes) shares distance a b) →
    IsLeastPath net old (source_of routes dearest.pair) (destination_of routes dearest.pair) (Some path) →
    IsNarrowest net path least → AreRaised net path least old new → IsNextRound net routes e old weights → weights ≡ new
next_only net routes e old new weights shares distance a b least path are known dearest shortest narrow raised' next =
    let n = length routes in
    let same : (p : ℕ) → p < n → next.shares p ≡ shares p = λ p below. next.shares_are p below ∙ sym (are p below) in
    let far : (p : ℕ) → p < n → 0 < shares p → next.distance p ≡ distance p = λ p below some.
    distance_unique net old (source_of routes p) (destination_of routes p) (next.distance p) (distance p)
    (next.distances_are p below (omega (arith, some, same p below))) (known p below some)
    in
    let pair : dearest.pair ≡ next.dearest.pair = dearest_only n shares distance next.shares next.distance a b next.a next.b same far dearest next.dearest in
    let found : Some path ≡ Some next.path =
    least_path_only net old (source_of routes next.dearest.pair) (destination_of routes next.dearest.pair) (Some path) (Some next.path)
    (subst (λ k. IsLeastPath net old (source_of routes k) (destination_of routes k) (Some path)) pair shortest) next.least_path
    in
    let path_is : next.path ≡ path = cc in
    let narrow' : IsNarrowest net path next.least = subst (λ (p : List ℕ). IsNarrowest net p next.least) path_is next.narrowest in
    let least_is : next.least ≡ least = narrowest_only net path next.least least narrow' narrow in
    let other : AreRaised net path least old weights =
    subst (λ (p : List ℕ). AreRaised net p least old weights) path_is (subst (λ x. AreRaised net next.path x old weights) least_is next.raised_are)
    in
    raised_only net path old weights new least other raised'

-- where no path leads from the pair's source to its destination there is no next round
pub next_none : (net : Network) (routes : List PairRoutes) (e : ℕ) (old weights : List ℕ) (shares distance : ℕ → ℕ) (a b : ℕ) →
    ((p : ℕ) → p < length routes → shares p ≡ share routes p e) →
    ((p : ℕ) → p < length routes → 0 < shares p → IsDistance net old (source_of routes p) (destination_of routes p) (Some (distance p))) →
    (dearest : IsGreatestQuotient (length routes) shares distance a b) →
    IsLeastPath net old (source_of routes dearest.pair) (destination_of routes dearest.pair) None → IsNextRound net routes e old weights → ⊥
next_none net routes e old weights shares distance a b are known dearest none next =
    let n = length routes in
    let same : (p : ℕ) → p < n → next.shares p ≡ shares p = λ p below. next.shares_are p below ∙ sym (are p below) in
    let far : (p : ℕ) → p < n → 0 < shares p → next.distance p ≡ distance p = λ p below some.
    distance_unique net old (source_of routes p) (destination_of routes p) (next.distance p) (distance p)
    (next.distances_are p below (omega (arith, some, same p below))) (known p below some)
    in
    let pair : dearest.pair ≡ next.dearest.pair = dearest_only n shares distance next.shares next.distance a b next.a next.b same far dearest next.dearest in
    let found : None ≡ Some next.path =
    least_path_only net old (source_of routes next.dearest.pair) (destination_of routes next.dearest.pair) None (Some next.path)
    (subst (λ k. IsLeastPath net old (source_of routes k) (destination_of routes k) None) pair none) next.least_path
    in
    cc
