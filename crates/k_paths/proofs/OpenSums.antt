-- The least sums over open links: those over all links where the least way is open, and the others lowered.
use Rattle.std.proofs.Common.{inl, inr, ◌≡◌, ℕ, ◌+◌, ◌^◌, ◌<◌, ◌≤◌, Bool, true, List, [], ◌∷◌, ◌++◌, Option, Some, None, length, set, arith, refl, ap, sym, ◌∙◌, subst, slice_index}
use Rattle.std.specs.Prelude.{All, unwrap_or}
use Rattle.std.specs.List.{Contains}
use Rattle.std.proofs.lemmas.Bool.{cases_eq, cases_lt}
use Rattle.std.proofs.lemmas.List.{length-append, length-set, get_or_append_left, get_or_past, get_or_push, get_or-set_same, get_or-set_other}
use Rattle.std.proofs.lemmas.List.Elements.{All-contains, All-get_or, All-push, Contains-append_left, Contains-push}
use Rattle.te_model.specs.declared.network.Network.{Network}
use Rattle.te_model.specs.Network.{node_count, link_count, tail_of, head_of}
use Rattle.shortest_path.specs.declared.ways.Ways.{Ways}
use Rattle.shortest_path.specs.Graph.{AtMost, distance_at}
use Rattle.shortest_path.specs.Least.{IsFirstTightBelow, first_at}
use Rattle.shortest_path.specs.Links.{HasSoundLinks, Walk, every_link, is_open}
use Rattle.shortest_path.specs.Paths.{IsDistance, sum_along}
use Rattle.shortest_path.specs.Ways.{AreWays}
use Rattle.shortest_path.proofs.LeastSums.{all_open, distance_of_sums}
use Rattle.shortest_path.proofs.PathLengths.{distance_small}
use Rattle.shortest_path.proofs.Relaxing.{at_most-is, at_most-le, at_most-some, is-at_most}
use Rattle.shortest_path.proofs.Tight.{tight_parts}
use Rattle.shortest_path.proofs.Walks.{chains_of_walk, walk_of_chains}
use Rattle.k_paths.specs.Sums.{AreOpenSums, AreWalkSums, HasUnsummed, IsOpenSum, IsTaut}
use Rattle.k_paths.proofs.WalkSums.{some_is}

-- the way from s, as far as a node, is open
pub record OpenSoFar (net : Network) (ways : Ways) (marks : List Bool) (s node : ℕ) : Type 0 where
  pub inside : node < node_count net
  pub known : (x : ℕ) × (distance_at ways.sums node ≡ Some x)
  pub gone : ℕ
  pub start : (x : ℕ) → distance_at ways.sums node ≡ Some x → distance_at ways.sums s ≡ Some (gone + x)
  pub extends : (rest : List ℕ) → Walk net marks node ways.dst rest →
      (links : List ℕ) × Walk net marks s ways.dst links × (sum_along ways.costs links ≡ gone + sum_along ways.costs rest)

pub open_start : (net : Network) (ways : Ways) (marks : List Bool) (s x : ℕ) → s < node_count net → distance_at ways.sums s ≡ Some x → OpenSoFar net ways marks s s
open_start net ways marks s x inside is = record {
  inside = inside;
  known = (x, is);
  gone = 0;
  start = λ z at. let e : z ≡ 0 + z = omega arith in subst (λ y. distance_at ways.sums s ≡ Some y) e at;
  extends = λ rest walk. (rest, walk, omega arith);
}

-- the first link of the least way from a node
pub first_of_way : (net : Network) (ways : Ways) (v : ℕ) (o : Option ℕ) → AreWays net ways → v < node_count net → o ≡ first_at ways.firsts v →
    IsFirstTightBelow net ways.costs (every_link net) ways.sums (link_count net) v o
first_of_way net ways v o are inside is =
    subst (λ p. IsFirstTightBelow net ways.costs (every_link net) ways.sums (link_count net) v p) (sym is) (are.firsts.each v inside)

pub open_more : (net : Network) (ways : Ways) (marks : List Bool) (s v h : ℕ) → HasSoundLinks net → OpenSoFar net ways marks s v →
    IsFirstTightBelow net ways.costs (every_link net) ways.sums (link_count net) v (Some h) → is_open marks h ≡ true → OpenSoFar net ways marks s (head_of net h)
open_more net ways marks s v h sound so first open_h =
    let (y, tight) = tight_parts net ways.costs (every_link net) ways.sums v h first.1 in
    let cost = slice_index ways.costs h in
    record {
      inside = sound.heads h first.0;
      known = (y, tight.to);
      gone = so.gone + cost;
      start = λ x is.
          let x_is : x ≡ y = some_is (distance_at ways.sums (head_of net h)) y x tight.to is in
          let e : so.gone + (cost + y) ≡ so.gone + cost + x = omega (arith, x_is) in
          subst (λ z. distance_at ways.sums s ≡ Some z) e (so.start (cost + y) tight.from);
      extends = λ rest walk. let (links, all, sum) = so.extends (h ∷ rest) (first.0, tight.starts, open_h, walk) in (links, all, omega (arith, sum));
    }

-- the sum from the head of the link is less
pub open_smaller : (net : Network) (ways : Ways) (v h : ℕ) → AreWays net ways → IsFirstTightBelow net ways.costs (every_link net) ways.sums (link_count net) v (Some h) →
    unwrap_or (distance_at ways.sums (head_of net h)) 0 < unwrap_or (distance_at ways.sums v) 0
open_smaller net ways v h are first =
    let (y, tight) = tight_parts net ways.costs (every_link net) ways.sums v h first.1 in
    let at_head = ap (λ o. unwrap_or o 0) tight.to in
    let at_tail = ap (λ o. unwrap_or o 0) tight.from in
    let long : 1 ≤ slice_index ways.costs h = All-get_or (λ c. 1 ≤ c) ways.costs h 0 (omega (arith, first.0, are.costs.count)) are.costs.positive in
    omega (arith, at_head, at_tail, long)

zero_there : (net : Network) (ways : Ways) → AreWays net ways → distance_at ways.sums ways.dst ≡ Some 0
zero_there net ways are =
    let (x, at, le) = at_most-some (distance_at ways.sums ways.dst) 0 (are.sums.below ways.dst [] refl) in
    let e : x ≡ 0 = omega (arith, le) in
    subst (λ y. distance_at ways.sums ways.dst ≡ Some y) e at

pub open_end : (net : Network) (ways : Ways) (marks : List Bool) (s v d : ℕ) → AreWays net ways → OpenSoFar net ways marks s v → v ≡ ways.dst →
    distance_at ways.sums s ≡ Some d → IsOpenSum net ways marks s d
open_end net ways marks s v d are so e is =
    let at = so.start 0 (subst (λ u. distance_at ways.sums u ≡ Some 0) (sym e) (zero_there net ways are)) in
    let d_is : d ≡ so.gone + 0 = some_is (distance_at ways.sums s) (so.gone + 0) d at is in
    let (links, walk, sum) = so.extends [] e in
    (is, (links, walk, omega (arith, sum, d_is)))

-- one node more
pub open_push : (net : Network) (ways : Ways) (marks : List Bool) (sums : List (Option ℕ)) (v : ℕ) (o : Option ℕ) → length sums ≡ v →
    ((k d : ℕ) → distance_at sums k ≡ Some d → IsOpenSum net ways marks k d) → ((d : ℕ) → o ≡ Some d → IsOpenSum net ways marks v d) →
    (k d : ℕ) → distance_at (sums ++ o ∷ []) k ≡ Some d → IsOpenSum net ways marks k d
open_push net ways marks sums v o count so more k d is = elim (cases_lt k v) [
  | inl lt ↦ so k d (sym (get_or_append_left sums (o ∷ []) None k (omega (arith, lt, count))) ∙ is)
  | inr ge ↦ elim (cases_eq k v) [
    | inl e ↦
        let at : distance_at (sums ++ o ∷ []) v ≡ o = get_or_push sums o None v count in
        subst (λ u. IsOpenSum net ways marks u d) (sym e) (more d (sym at ∙ subst (λ u. distance_at (sums ++ o ∷ []) u ≡ Some d) e is))
    | inr ne ↦
        let past : distance_at (sums ++ o ∷ []) k ≡ None = get_or_past (sums ++ o ∷ []) k None (omega (arith, ge, ne, count, length-append sums (o ∷ []))) in
        let never : None ≡ Some d = sym past ∙ is in
        cc
  ]
]

pub open_set : (net : Network) (ways : Ways) (marks : List Bool) (sums : List (Option ℕ)) → AreWays net ways → length sums ≡ node_count net →
    ((v d : ℕ) → distance_at sums v ≡ Some d → IsOpenSum net ways marks v d) → AreOpenSums net ways marks (set sums ways.dst (Some 0))
open_set net ways marks sums are count each =
    let t = ways.dst in
    let same : distance_at (set sums t (Some 0)) t ≡ Some 0 = get_or-set_same sums t (Some 0) None (omega (arith, count, are.dst)) in
    record {
      count = length-set sums t (Some 0) ∙ count;
      start = at_most-is (distance_at (set sums t (Some 0)) t) 0 0 same (omega arith);
      each = λ v d is. elim (cases_eq v t) [
        | inl e ↦
            let d_is : d ≡ 0 = some_is (distance_at (set sums t (Some 0)) t) 0 d same (subst (λ u. distance_at (set sums t (Some 0)) u ≡ Some d) e is) in (
              subst (λ u. distance_at ways.sums u ≡ Some d) (sym e) (subst (λ x. distance_at ways.sums t ≡ Some x) (sym d_is) (zero_there net ways are)),
              ([], e, sym d_is),
            )
        | inr ne ↦ each v d (sym (get_or-set_other sums t v (Some 0) None ne) ∙ is)
      ];
    }

-- a least sum of costs is far from the greatest number
sum_small : (net : Network) (ways : Ways) (v d : ℕ) → HasSoundLinks net → AreWays net ways → distance_at ways.sums v ≡ Some d → d ≤ 2 ^ 24
sum_small net ways v d sound are is = elim (cases_lt v (length ways.sums)) [
  | inl lt ↦
      let far = subst (λ o. IsDistance net ways.costs v ways.dst o) is (distance_of_sums net ways.costs ways.dst ways.sums are.sums v) in
      let bound = distance_small net ways.costs 65535 v ways.dst d (λ h below. (sound.tails h below, sound.heads h below)) (omega (arith, lt, are.sums.count)) are.costs.small far in
      omega (arith, bound, sound.few)
  | inr past ↦ let none = get_or_past ways.sums v None past in let never : None ≡ Some d = sym none ∙ is in cc
]

pub walks_of_open : (net : Network) (ways : Ways) (marks : List Bool) (sums : List (Option ℕ)) → HasSoundLinks net → AreWays net ways → AreOpenSums net ways marks sums →
    AreWalkSums net ways.costs marks ways.dst (2 ^ 24) sums
walks_of_open net ways marks sums sound are so = record {
  count = so.count;
  start = so.start;
  reached = λ v d is. (so.each v d is).1;
  small = λ v d is. sum_small net ways v d sound are (so.each v d is).0;
}

-- no link lowers a sum where none of those does that leave nodes without a sum at first
pub all_taut : (net : Network) (ways : Ways) (marks : List Bool) (list : List ℕ) (n : ℕ) (first sums : List (Option ℕ)) → AreWays net ways → AreOpenSums net ways marks first →
    HasUnsummed net first list → AreWalkSums net ways.costs marks ways.dst n sums →
    ((v x : ℕ) → AtMost (distance_at first v) x → AtMost (distance_at sums v) x) → All (IsTaut net ways.costs marks sums) list →
    (h : ℕ) → h < link_count net → IsTaut net ways.costs marks sums h
all_taut net ways marks list n first sums are kept has walks falls taut h below = λ open_h y at_head. go open_h y at_head (distance_at first (tail_of net h)) refl
  where
    go : is_open marks h ≡ true → (y : ℕ) → distance_at sums (head_of net h) ≡ Some y → (o : Option ℕ) → distance_at first (tail_of net h) ≡ o →
        AtMost (distance_at sums (tail_of net h)) (slice_index ways.costs h + y)
    go open_h y at_head None none = All-contains (IsTaut net ways.costs marks sums) list h taut (has h below none) open_h y at_head
    go open_h y at_head (Some d) is =
        let u = tail_of net h in
        let (links, walk, sum) = walks.reached (head_of net h) y at_head in
        let every : Walk net (every_link net) (head_of net h) ways.dst links =
        walk_of_chains net (every_link net) (head_of net h) ways.dst links (all_open net) (chains_of_walk net marks (head_of net h) ways.dst links walk)
        in
        let over = are.sums.below u (h ∷ links) (below, refl, all_open net h below, every) in
        let low : d ≤ slice_index ways.costs h + sum_along ways.costs links = is-at_most (distance_at ways.sums u) (slice_index ways.costs h + sum_along ways.costs links) d (kept.each u d is).0 over in
        at_most-le (distance_at sums u) d (slice_index ways.costs h + y) (omega (arith, low, sum))
        (falls u d (at_most-is (distance_at first u) d d is (omega arith)))

-- the links below h that leave nodes without a sum
pub record UnsummedSoFar (net : Network) (sums : List (Option ℕ)) (h : ℕ) (list : List ℕ) : Type 0 where
  pub few : length list ≤ h
  pub links : All (λ k. k < link_count net) list
  pub has : (k : ℕ) → k < h → distance_at sums (tail_of net k) ≡ None → Contains list k

pub unsummed_skip : (net : Network) (sums : List (Option ℕ)) (h : ℕ) (list : List ℕ) → UnsummedSoFar net sums h list → (distance_at sums (tail_of net h) ≡ None → ⊥) →
    UnsummedSoFar net sums (h + 1) list
unsummed_skip net sums h list so some = record {
  few = omega (arith, so.few);
  links = so.links;
  has = λ k below none. elim (cases_lt k h) [
    | inl lt ↦ so.has k lt none
    | inr ge ↦ let e : k ≡ h = omega arith in absurd (some (subst (λ j. distance_at sums (tail_of net j) ≡ None) e none))
  ];
}

pub unsummed_more : (net : Network) (sums : List (Option ℕ)) (h : ℕ) (list : List ℕ) → UnsummedSoFar net sums h list → h < link_count net →
    UnsummedSoFar net sums (h + 1) (list ++ h ∷ [])
unsummed_more net sums h list so inside = record {
  few = omega (arith, so.few, length-append list (h ∷ []));
  links = All-push (λ k. k < link_count net) list h so.links inside;
  has = λ k below none. elim (cases_lt k h) [
    | inl lt ↦ Contains-append_left list (h ∷ []) k (so.has k lt none)
    | inr ge ↦ let e : k ≡ h = omega arith in subst (λ j. Contains (list ++ h ∷ []) j) (sym e) (Contains-push list h)
  ];
}
