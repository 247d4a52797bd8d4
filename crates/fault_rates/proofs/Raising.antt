-- Raising the allocations of the pairs, one after the other.
use Rattle.std.proofs.Common.{◌≡◌, ◌∙◌, ℕ, suc, ◌+◌, ◌-◌, ◌*◌, ◌/◌, ◌<◌, ◌≤◌, List, length, slice_index, min, arith, refl, ap, sym, subst, inl, inr}
use Rattle.std.proofs.lemmas.Bool.{cases_eq, cases_lt}
use Rattle.std.proofs.lemmas.Bool.Decides.{nat_tests}
use Rattle.std.proofs.lemmas.Nat.{mul-le}
use Rattle.te_model.specs.declared.network.Network.{Network}
use Rattle.te_model.specs.declared.route.PairRoutes.{PairRoutes}
use Rattle.te_model.specs.Network.{capacity_of, link_count}
use Rattle.te_model.specs.Path.{routes_at}
use Rattle.fault_rates.specs.Making.{AreFull, AreValues, EvenFits, IsRoom, even_on, room_on_link}
use Rattle.fault_rates.specs.Tables.{paths_on}
use Rattle.fault_rates.proofs.Making.{even_on_raised}

-- ---- the room on the links

pub no_link_yet : (net : Network) (sums counts : List ℕ) (limit : ℕ) → IsRoom net sums counts limit 0 limit
no_link_yet net sums counts limit = record {
  within = omega arith;
  fits = λ e below. absurd (omega (arith, below));
  most = inl refl;
}

-- a link that no path holds
pub room_passes : (net : Network) (sums counts : List ℕ) (limit n most : ℕ) → IsRoom net sums counts limit n most → slice_index sums n ≤ capacity_of net n →
    slice_index counts n ≡ 0 → IsRoom net sums counts limit (suc n) most
room_passes net sums counts limit n most room fit none = record {
  within = room.within;
  fits = λ e below. elim (cases_lt e n) [
    | inl lt ↦ room.fits e lt
    | inr ge ↦
        let here : e ≡ n = omega (arith, below, ge) in
        subst (λ k. slice_index sums k + most * slice_index counts k ≤ capacity_of net k) (sym here) (rw none (omega (arith, fit)))
  ];
  most = elim room.most [
    | inl all ↦ inl all
    | inr over ↦ inr (over.0, (let o = over.1 in omega (arith, o)), over.2)
  ];
}

div_low : (x y : ℕ) → 1 ≤ y → x / y * y ≤ x
div_low x y some = omega (arith, some)

div_high : (x y : ℕ) → 1 ≤ y → x < (x / y + 1) * y
div_high x y some = omega (arith, some)

-- one that some of them hold
pub room_narrows : (net : Network) (sums counts : List ℕ) (limit n most less : ℕ) → IsRoom net sums counts limit n most → slice_index sums n ≤ capacity_of net n →
    0 < slice_index counts n → less ≡ min most ((capacity_of net n - slice_index sums n) / slice_index counts n) → IsRoom net sums counts limit (suc n) less
room_narrows net sums counts limit n most less room fit some is =
    let free = capacity_of net n - slice_index sums n in
    let q = free / slice_index counts n in
    let low = div_low free (slice_index counts n) (omega (arith, some)) in
    let high = div_high free (slice_index counts n) (omega (arith, some)) in
    let fewer : less ≤ most = omega (arith, is) in
    let within : less ≤ q = omega (arith, is) in
    record {
      within = omega (arith, fewer, room.within);
      fits = λ e below. elim (cases_lt e n) [
        | inl lt ↦
            let before = room.fits e lt in
            let smaller = mul-le less (slice_index counts e) most (slice_index counts e) fewer (omega arith) in
            omega (arith, before, smaller)
        | inr ge ↦
            let here : e ≡ n = omega (arith, below, ge) in
            let smaller = mul-le less (slice_index counts n) q (slice_index counts n) within (omega arith) in
            subst (λ k. slice_index sums k + less * slice_index counts k ≤ capacity_of net k) (sym here) (omega (arith, low, smaller, fit))
      ];
      most = elim (cases_lt q most) [
        | inl lt ↦
            let at : less ≡ q = omega (arith, is, lt) in
            inr (n, omega arith, subst (λ k. capacity_of net n < slice_index sums n + (k + 1) * slice_index counts n) (sym at) (omega (arith, high)))
        | inr ge ↦
            let at : most ≡ less = omega (arith, is, ge) in
            elim room.most [
              | inl all ↦ inl (sym at ∙ all)
              | inr over ↦ inr (over.0, (let o = over.1 in omega (arith, o)), subst (λ k. capacity_of net over.0 < slice_index sums over.0 + (k + 1) * slice_index counts over.0) at over.2)
            ]
      ];
    }

room_none : (capacity sum count limit : ℕ) → count ≡ 0 → room_on_link capacity sum count limit ≡ limit
room_none capacity sum count limit none = rw none refl

room_some : (capacity sum count limit : ℕ) → 0 < count → room_on_link capacity sum count limit ≡ min limit ((capacity - sum) / count)
room_some capacity sum count limit some = grind (arith, nat_tests)

-- one link more
pub room_more : (net : Network) (sums counts : List ℕ) (limit n most less : ℕ) → IsRoom net sums counts limit n most → slice_index sums n ≤ capacity_of net n →
    less ≡ room_on_link (capacity_of net n) (slice_index sums n) (slice_index counts n) most → IsRoom net sums counts limit (suc n) less
room_more net sums counts limit n most less room fit is = elim (cases_lt 0 (slice_index counts n)) [
  | inl some ↦ room_narrows net sums counts limit n most less room fit some (is ∙ room_some (capacity_of net n) (slice_index sums n) (slice_index counts n) most some)
  | inr le ↦
      let none : slice_index counts n ≡ 0 = omega (arith, le) in
      subst (λ k. IsRoom net sums counts limit (suc n) k) (sym (is ∙ room_none (capacity_of net n) (slice_index sums n) (slice_index counts n) most none))
      (room_passes net sums counts limit n most room fit none)
]

-- ---- one pair after the other

pub record HasRaised (net : Network) (routes : List PairRoutes) (caps even sums : List ℕ) (n : ℕ) : Type 0 where
  pub count : length even ≡ length routes
  pub within : (p : ℕ) → p < length routes → slice_index even p ≤ slice_index caps p
  pub on_links : AreValues (link_count net) (even_on routes (slice_index even)) sums
  pub fits : EvenFits net routes (slice_index even)
  pub full : AreFull net routes (slice_index caps) (slice_index even) n

pub one_pair_raised : (net : Network) (routes : List PairRoutes) (caps even sums counts even' sums' : List ℕ) (p more : ℕ) → p < length routes →
    HasRaised net routes caps even sums p →
    ((e : ℕ) → slice_index counts e ≡ paths_on (routes_at routes p).paths e) →
    IsRoom net sums counts (slice_index caps p - slice_index even p) (link_count net) more →
    length even' ≡ length even → length sums' ≡ length sums →
    slice_index even' p ≡ slice_index even p + more → ((q : ℕ) → (q ≡ p → ⊥) → slice_index even' q ≡ slice_index even q) →
    ((e : ℕ) → e < length sums → slice_index sums' e ≡ slice_index sums e + more * slice_index counts e) →
    HasRaised net routes caps even' sums' (suc p)
one_pair_raised net routes caps even sums counts even' sums' p more p_in before counted room same_length same_count here others added =
    let raised = λ (e : ℕ). even_on_raised routes (slice_index even) (slice_index even') p more e p_in here others in
    let held = λ (e : ℕ). ap (λ k. more * k) (counted e) in
    record {
      count = same_length ∙ before.count;
      within = λ q q_in. elim (cases_eq q p) [
        | inl same ↦
            let w = before.within p p_in in
            subst (λ k. slice_index even' k ≤ slice_index caps k) (sym same) (omega (arith, here, room.within, w))
        | inr other ↦ let o = others q other in omega (arith, o, before.within q q_in)
      ];
      on_links = (
        same_count ∙ before.on_links.0,
        λ e e_in.
            let count = before.on_links.0 in
            omega (arith, added e (omega (arith, e_in, count)), before.on_links.1 e e_in, raised e, held e),
      );
      fits = λ e e_in. omega (arith, room.fits e e_in, before.on_links.1 e e_in, raised e, held e);
      full = λ q q_in below. elim (cases_eq q p) [
        | inl same ↦
            subst (λ k. (e : ℕ) × (e < link_count net) × (capacity_of net e < even_on routes (slice_index even') e + paths_on (routes_at routes k).paths e)) (sym same)
            (blocked (subst (λ k. slice_index even' k < slice_index caps k) same below))
        | inr other ↦
            let o = others q other in
            let found = before.full q (omega (arith, q_in, not_p q other q_in)) (omega (arith, below, o)) in
            let over = found.2 in
            (found.0, found.1, omega (arith, over, raised found.0))
      ];
    }
  where
    not_p : (q : ℕ) → (q ≡ p → ⊥) → q < suc p → q < p
    not_p q other below = elim (cases_lt q p) [
      | inl lt ↦ lt
      | inr ge ↦ absurd (other (omega (arith, below, ge)))
    ]

    blocked : slice_index even' p < slice_index caps p → (e : ℕ) × (e < link_count net) × (capacity_of net e < even_on routes (slice_index even') e + paths_on (routes_at routes p).paths e)
    blocked below = elim room.most [
      | inl all ↦ absurd (omega (arith, all, below, here))
      | inr over ↦
          let e = over.0 in
          let o = over.2 in
          let is = before.on_links.1 e over.1 in
          let raised = even_on_raised routes (slice_index even) (slice_index even') p more e p_in here others in
          let c = counted e in
          let held : (more + 1) * slice_index counts e ≡ more * paths_on (routes_at routes p).paths e + paths_on (routes_at routes p).paths e = rw c (omega arith) in
          (e, over.1, omega (arith, o, is, raised, held))
    ]
