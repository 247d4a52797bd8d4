-- Weights that are taken off the links of a path.
use Rattle.std.proofs.Common.{◌≡◌, inl, inr, ℕ, suc, ◌+◌, ◌<◌, ◌≤◌, Bool, true, false, not, ◌-◌, ◌≢◌, min, List, [], ◌∷◌, length, take, slice_index, slice_set, get_or-set_same, get_or-set_other, arith, refl, ap, sym, ◌∙◌, subst, ◌==◌, All}
use Rattle.std.specs.Prelude.{if◌then◌else◌}
use Rattle.std.proofs.lemmas.Bool.{and_from, cases_lt, eq-eqb, eqb-true, false≢true, or_cases}
use Rattle.te_model.specs.declared.network.Network.{Network}
use Rattle.te_model.specs.Network.{link_count, tail_of, head_of}
use Rattle.te_model.specs.Path.{has_number, is_distinct, amount_on}
use Rattle.te_model.proofs.Amounts.{all_of_numbers, amount_on-more, amount_on-next, has_at, has_number_at}
use Rattle.routing.specs.Decomposition.{IsNumbering, IsAcyclicFlow, IsLeastOn, IsLowestPath, IsTakenOff}
use Rattle.routing.proofs.LowestPaths.{lowest_flows}

-- the links of a path are numbered upwards by their tails
tails_above : (net : Network) (flow number : ℕ → ℕ) (v t k : ℕ) (path : List ℕ) → IsNumbering net flow number → IsLowestPath net flow v t path →
    has_number path k ≡ true → number v ≤ number (tail_of net k)
tails_above net flow number v t k [] numbers e used = absurd (false≢true used)
tails_above net flow number v t k (h ∷ hs) numbers (apart, link, rest) used =
    let rises = numbers.rises h link.inside link.some in
    let from = ap number link.leaves in
    elim (or_cases (h == k) (has_number hs k) used) [
      | inl here ↦ let same = ap (λ h. number (tail_of net h)) (eqb-true h k here) in omega (arith, from, same)
      | inr later ↦ omega (arith, rises, from, tails_above net flow number (head_of net h) t k hs numbers rest later)
    ]

-- so no link stands in it twice
pub lowest_links : (net : Network) (flow number : ℕ → ℕ) (v t : ℕ) (path : List ℕ) → IsNumbering net flow number → IsLowestPath net flow v t path →
    is_distinct path ≡ true
lowest_links net flow number v t [] numbers e = refl
lowest_links net flow number v t (h ∷ hs) numbers (apart, link, rest) =
    and_from (not (has_number hs h)) (is_distinct hs) (once (has_number hs h) refl) (lowest_links net flow number (head_of net h) t hs numbers rest)
  where
    once : (b : Bool) → has_number hs h ≡ b → not b ≡ true
    once true e =
        let rises = numbers.rises h link.inside link.some in
        absurd (omega (arith, rises, tails_above net flow number (head_of net h) t h hs numbers rest e))
    once false e = refl

-- the weight is taken off one link more
pub take_step : (old flow path : List ℕ) (w i h : ℕ) → slice_index old h ≡ slice_index flow h + amount_on (take i path) w h →
    is_distinct path ≡ true → i < length path → slice_index path i < length flow → w ≤ slice_index flow (slice_index path i) →
    slice_index old h ≡ slice_index (slice_set flow (slice_index path i) (slice_index flow (slice_index path i) - w)) h + amount_on (take (i + 1) path) w h
take_step old flow path w i h before distinct below inside enough = go (slice_index path i == h) refl
  where
    more : amount_on (take (i + 1) path) w h ≡ amount_on (take i path) w h + (if slice_index path i == h then w else 0)
    more = let e : i + 1 ≡ suc i = omega arith in ap (λ n. amount_on (take n path) w h) e ∙ amount_on-more path w h i distinct below

    go : (b : Bool) → (slice_index path i == h) ≡ b →
        slice_index old h ≡ slice_index (slice_set flow (slice_index path i) (slice_index flow (slice_index path i) - w)) h + amount_on (take (i + 1) path) w h
    go true e =
        let same : slice_index path i ≡ h = eqb-true (slice_index path i) h e in
        let here : slice_index (slice_set flow (slice_index path i) (slice_index flow (slice_index path i) - w)) h ≡ slice_index flow (slice_index path i) - w =
        subst (λ n. slice_index (slice_set flow (slice_index path i) (slice_index flow (slice_index path i) - w)) n ≡ slice_index flow (slice_index path i) - w) same
        (get_or-set_same flow (slice_index path i) (slice_index flow (slice_index path i) - w) 0 inside)
        in
        let was : slice_index flow (slice_index path i) ≡ slice_index flow h = ap (slice_index flow) same in
        let takes : (if slice_index path i == h then w else 0) ≡ w = ap (λ (b : Bool). if b then w else 0) e in
        omega (arith, before, more, here, was, takes, enough)
    go false e =
        let apart : h ≢ slice_index path i = λ same. false≢true (sym e ∙ eq-eqb (slice_index path i) h (sym same)) in
        let kept : slice_index (slice_set flow (slice_index path i) (slice_index flow (slice_index path i) - w)) h ≡ slice_index flow h =
        get_or-set_other flow (slice_index path i) h (slice_index flow (slice_index path i) - w) 0 apart
        in
        let takes : (if slice_index path i == h then w else 0) ≡ 0 = ap (λ (b : Bool). if b then w else 0) e in
        omega (arith, before, more, kept, takes)

-- the next link has the weight still
pub enough_left : (old flow path : List ℕ) (w i : ℕ) → slice_index old (slice_index path i) ≡ slice_index flow (slice_index path i) + amount_on (take i path) w (slice_index path i) →
    is_distinct path ≡ true → i < length path → w ≤ slice_index old (slice_index path i) → w ≤ slice_index flow (slice_index path i)
enough_left old flow path w i before distinct below enough = omega (arith, before, amount_on-next path w i distinct below, enough)

-- what the lowest path gives to those who read its links
pub lowest_some : (net : Network) (flow : ℕ → ℕ) (s t : ℕ) (path : List ℕ) → IsLowestPath net flow s t path → (s ≡ t → ⊥) → 0 < length path
lowest_some net flow s t [] e apart = absurd (apart e)
lowest_some net flow s t (h ∷ hs) is apart = omega arith

pub lowest_inside : (net : Network) (flow : ℕ → ℕ) (s t count : ℕ) (path : List ℕ) → IsLowestPath net flow s t path → count ≡ link_count net →
    All (λ h. h < count) path
lowest_inside net flow s t count path is same =
    all_of_numbers (λ h. h < count) path (λ h used. let on = lowest_flows net flow s t h path is used in omega (arith, on.0, same))

pub lowest_once : (net : Network) (flow : ℕ → ℕ) (amount s t : ℕ) (path : List ℕ) → IsAcyclicFlow net flow amount s t → IsLowestPath net flow s t path →
    is_distinct path ≡ true
lowest_once net flow amount s t path is path_is = lowest_links net flow is.acyclic.0 s t path is.acyclic.1 path_is

-- a path is taken off
pub taken_off : (net : Network) (flow left : ℕ → ℕ) (s t weight : ℕ) (path links : List ℕ) → path ≡ links → IsLowestPath net flow s t path →
    IsLeastOn flow path weight → ((h : ℕ) → flow h ≡ left h + amount_on path weight h) →
    IsTakenOff net s t flow (record { links = links; weight = weight }) left
taken_off net flow left s t weight path links same is least rest = record {
  path = subst (IsLowestPath net flow s t) same is;
  weight = subst (λ p. IsLeastOn flow p weight) same least;
  rest = λ h inside. subst (λ p. flow h ≡ left h + amount_on p weight h) same (rest h);
}

-- the least flow on the links, from that at their places
pub least_of_places : (flow path : List ℕ) (weight : ℕ) → ((k : ℕ) → k < length path → weight ≤ slice_index flow (slice_index path k)) →
    ((k : ℕ) × (k < length path) × (slice_index flow (slice_index path k) ≡ weight)) → IsLeastOn (slice_index flow) path weight
least_of_places flow path weight least (k, below, at) = record {
  least = λ h used. let (i, inside, same) = has_at path h used in subst (λ x. weight ≤ slice_index flow x) same (least i inside);
  reached = (slice_index path k, has_number_at path k below, at);
}

-- one link more is read
pub least_more : (flow path : List ℕ) (least next i : ℕ) → next ≡ min least (slice_index flow (slice_index path i)) →
    ((k : ℕ) → k < i → least ≤ slice_index flow (slice_index path k)) → (k : ℕ) → k < i + 1 → next ≤ slice_index flow (slice_index path k)
least_more flow path least next i is each k below = elim (cases_lt k i) [
  | inl lt ↦ omega (arith, is, each k lt)
  | inr ge ↦
      let e : k ≡ i = omega arith in
      let same : slice_index flow (slice_index path k) ≡ slice_index flow (slice_index path i) = ap (λ n. slice_index flow (slice_index path n)) e in
      omega (arith, is, same)
]

pub reached_more : (flow path : List ℕ) (least next i : ℕ) → next ≡ min least (slice_index flow (slice_index path i)) → i < length path →
    ((k : ℕ) × (k < length path) × (slice_index flow (slice_index path k) ≡ least)) →
    (k : ℕ) × (k < length path) × (slice_index flow (slice_index path k) ≡ next)
reached_more flow path least next i is inside (k, below, at) = elim (cases_lt (slice_index flow (slice_index path i)) least) [
  | inl lt ↦ (i, inside, omega (arith, is, lt))
  | inr ge ↦ (k, below, omega (arith, is, ge, at))
]
