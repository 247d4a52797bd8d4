-- The bound of a class is at most the cost of each of its paths, and the search by bounds.
use Rattle.std.proofs.Common.{◌⊎◌, inl, inr, ◌≡◌, ℕ, ◌+◌, ◌<◌, ◌≤◌, true, ◌&&◌, ◌==◌, List, [], ◌∷◌, ◌++◌, length, take, get_or, arith, ap, sym, ◌∙◌, subst, slice_index}
use Rattle.std.specs.List.{Contains}
use Rattle.std.specs.List.Sorted.{IsPermutation}
use Rattle.std.proofs.lemmas.Bool.{and_parts, eqb-true}
use Rattle.std.proofs.lemmas.List.{get_or_read}
use Rattle.std.proofs.lemmas.List.Elements.{Contains-append_cases, Contains-append_left, Contains-append_right, Contains-push, Contains-push_cases, Contains-get_or}
use Rattle.std.proofs.lemmas.List.Sorted.{Contains-permutation, IsPermutation-sym}
use Rattle.te_model.specs.declared.network.Network.{Network}
use Rattle.te_model.specs.Network.{link_count, head_of, tail_of}
use Rattle.te_model.specs.Path.{is_path}
use Rattle.shortest_path.specs.declared.ways.Ways.{Ways}
use Rattle.shortest_path.specs.Costs.{IsBefore}
use Rattle.shortest_path.specs.Graph.{distance_at}
use Rattle.shortest_path.specs.Paths.{sum_along}
use Rattle.shortest_path.specs.Ways.{AreWays}
use Rattle.shortest_path.proofs.Walks.{sum_along-append}
use Rattle.k_paths.specs.declared.candidate.Candidate.{Candidate}
use Rattle.k_paths.specs.declared.candidate.BoundedClass.{BoundedClass}
use Rattle.k_paths.specs.Classes.{InClass, IsLeastOfClass, IsPrefix, is_allowed_link}
use Rattle.k_paths.specs.Search.{IsOf, IsWithin, IsBounded, IsLeastCandidate, AreFirst, AreBounded, AreLeastCandidates, AreBehind, IsPathSearch, bound_at, no_candidate, no_class}
use Rattle.k_paths.specs.Ways.{IsFirstLeastAt, sum_over}
use Rattle.k_paths.proofs.DirectPaths.{goes_on, sum_of_rest, sum_parts}
use Rattle.k_paths.proofs.Prefixes.{prefix_of_path}

-- no path of the class costs less than its bound
pub bound_below : (net : Network) (s : ℕ) (ways : Ways) (c : BoundedClass) (q : List ℕ) → AreWays net ways → IsBounded net s ways c → IsWithin net s ways.dst c q →
    c.bound ≤ sum_along ways.costs q
bound_below net s ways c q are bounded in' =
    let v = tail_of net c.first in
    let on = goes_on net s ways.dst v c.prefix c.excluded q bounded.prefix.chain in' in
    let (z, is_z, le) = sum_of_rest net ways s v c.prefix c.excluded in'.next in'.rest are on in
    let low : bounded.sum ≤ slice_index ways.costs in'.next + z = elim (bounded.first.least in'.next (slice_index ways.costs in'.next + z) on.inside is_z) [
      | inl lt ↦ omega (arith, lt)
      | inr same ↦ omega (arith, same.0)
    ]
    in
    let whole = ap (sum_along ways.costs) in'.is ∙ sum_along-append ways.costs c.prefix (in'.next ∷ in'.rest) in
    omega (arith, whole, low, le, bounded.is)

-- the first of the candidates comes before each path of a class where a candidate costs less than the class's bound
pub before_bounded : (net : Network) (s : ℕ) (ways : Ways) (best : List ℕ) (candidates : List Candidate) (classes : List BoundedClass) (d : BoundedClass) (q : List ℕ) →
    AreWays net ways → AreFirst net best candidates → AreBehind ways.costs candidates classes → Contains classes d → IsBounded net s ways d → IsWithin net s ways.dst d q →
    IsBefore net best q
before_bounded net s ways best candidates classes d q are first behind (k, below, at_k) bounded of_d =
    let (j, inside, less) = behind k below in
    let at_bound : bound_at classes k ≡ d.bound = sym (ap (λ (c : BoundedClass). c.bound) (get_or_read classes k d below (sym at_k) no_class)) in
    let c = get_or candidates j no_candidate in
    let high = bound_below net s ways d q are bounded of_d in
    let least : sum_along ways.costs best ≤ sum_along ways.costs c.links = elim (first c (Contains-get_or candidates j no_candidate inside)) [
      | inl e ↦ omega (arith, ap (sum_along ways.costs) e)
      | inr below_c ↦ subst (λ x. sum_along x best ≤ sum_along x c.links) (sym are.costs.are)
          (elim below_c [ inl lt ↦ omega (arith, lt) | inr same ↦ omega (arith, same.0) ])
    ]
    in
    let lt : sum_along ways.costs best < sum_along ways.costs q = omega (arith, less, at_bound, high, least) in
    inl (subst (λ x. sum_along x best < sum_along x q) are.costs.are lt)

-- what is in a list, once an element is taken out of it
out_or_left : {X : Type 0} (old rest : List X) (x d : X) → IsPermutation old (x ∷ rest) → Contains old d → (x ≡ d) ⊎ Contains rest d
out_or_left old rest x d same has = elim (Contains-append_cases (x ∷ []) rest d (Contains-permutation old (x ∷ rest) d same has)) [
  | inl (k, below, at_k) ↦ inl (only x d k below at_k)
  | inr left ↦ inr left
]
  where
    only : {X : Type 0} (x d : X) (k : ℕ) → k < 1 → get_or (x ∷ []) k d ≡ d → x ≡ d
    only x d k below at_k = let e : k ≡ 0 = omega (arith, below) in subst (λ i. get_or (x ∷ []) i d ≡ d) e at_k

left_in : {X : Type 0} (old rest : List X) (x d : X) → IsPermutation old (x ∷ rest) → Contains rest d → Contains old d
left_in old rest x d same has = Contains-permutation (x ∷ rest) old d (IsPermutation-sym old (x ∷ rest) same) (Contains-append_right (x ∷ []) rest d has)

pub taken_in : {X : Type 0} (old rest : List X) (x : X) → IsPermutation old (x ∷ rest) → Contains old x
taken_in old rest x same = Contains-permutation (x ∷ rest) old x (IsPermutation-sym old (x ∷ rest) same) (Contains-append_left (x ∷ []) rest x (Contains-push [] x))

-- how far the search of bounded classes has come
pub record DueSoFar (net : Network) (s : ℕ) (ways : Ways) (old : List Candidate) (was : List BoundedClass) (candidates : List Candidate) (bounded : List BoundedClass) : Type 0 where
  pub least : AreLeastCandidates net s ways.dst candidates
  pub bounds : AreBounded net s ways bounded
  pub search' : (found : List (List ℕ)) → IsPathSearch net s ways found old was → IsPathSearch net s ways found candidates bounded

pub due_start : (net : Network) (s : ℕ) (ways : Ways) (old : List Candidate) (was : List BoundedClass) → AreLeastCandidates net s ways.dst old → AreBounded net s ways was →
    DueSoFar net s ways old was old was
due_start net s ways old was least bounds = record { least = least; bounds = bounds; search' = λ found is. is }

pub due_none : (net : Network) (s : ℕ) (ways : Ways) (old : List Candidate) (was : List BoundedClass) (candidates : List Candidate) (bounded rest : List BoundedClass) (c : BoundedClass) →
    DueSoFar net s ways old was candidates bounded → IsPermutation bounded (c ∷ rest) →
    ((q : List ℕ) → IsWithin net s ways.dst c q → ⊥) → DueSoFar net s ways old was candidates rest
due_none net s ways old was candidates bounded rest c so same none = record {
  least = so.least;
  bounds = λ d has. so.bounds d (left_in bounded rest c d same has);
  search' = λ found is.
      let now = so.search' found is in
      record {
        least = now.least;
        bounds = λ d has. now.bounds d (left_in bounded rest c d same has);
        after = now.after;
        later = λ d has. now.later d (left_in bounded rest c d same has);
        cover = λ q path. elim (now.cover q path) [
          | inl there ↦ inl there
          | inr open' ↦ elim open' [
            | inl candidate ↦ inr (inl candidate)
            | inr (d, has, of_d) ↦ elim (out_or_left bounded rest c d same has) [
              | inl e ↦ absurd (none q (subst (λ x. IsWithin net s ways.dst x q) (sym e) of_d))
              | inr left ↦ inr (inr (d, left, of_d))
            ]
          ]
        ];
      };
}

pub due_some : (net : Network) (s : ℕ) (ways : Ways) (old : List Candidate) (was : List BoundedClass) (candidates : List Candidate) (bounded rest : List BoundedClass) (c : BoundedClass)
    (m : List ℕ) → DueSoFar net s ways old was candidates bounded → IsPermutation bounded (c ∷ rest) →
    IsLeastOfClass net s ways.dst m (length c.prefix) c.excluded → take (length c.prefix) m ≡ c.prefix →
    DueSoFar net s ways old was (candidates ++ (record { links = m; fixed = length c.prefix; excluded = c.excluded }) ∷ []) rest
due_some net s ways old was candidates bounded rest c m so same least begins =
    let t = ways.dst in
    let new : Candidate = record { links = m; fixed = length c.prefix; excluded = c.excluded } in
    let to_class : (q : List ℕ) → IsOf net s t new q → IsWithin net s t c q = λ q in'. subst (λ p. InClass net s t p c.excluded q) begins in' in
    let of_class : (q : List ℕ) → IsWithin net s t c q → IsOf net s t new q = λ q in'. subst (λ p. InClass net s t p c.excluded q) (sym begins) in' in
    let all_least : ((d : Candidate) → Contains candidates d → IsLeastCandidate net s t d) → (d : Candidate) → Contains (candidates ++ new ∷ []) d → IsLeastCandidate net s t d =
    λ each d has. elim (Contains-push_cases candidates new d has) [
      | inl before ↦ each d before
      | inr is ↦ subst (λ x. IsLeastCandidate net s t x) is least
    ]
    in
    record {
      least = all_least so.least;
      bounds = λ d has. so.bounds d (left_in bounded rest c d same has);
      search' = λ found is.
          let now = so.search' found is in
          record {
            least = all_least now.least;
            bounds = λ d has. now.bounds d (left_in bounded rest c d same has);
            after = λ d has q of_d. elim (Contains-push_cases candidates new d has) [
              | inl before ↦ now.after d before q of_d
              | inr is ↦ now.later c (taken_in bounded rest c same) q (to_class q (subst (λ x. IsOf net s t x q) (sym is) of_d))
            ];
            later = λ d has. now.later d (left_in bounded rest c d same has);
            cover = λ q path. elim (now.cover q path) [
              | inl there ↦ inl there
              | inr open' ↦ elim open' [
                | inl (d, has, of_d) ↦ inr (inl (d, Contains-append_left candidates (new ∷ []) d has, of_d))
                | inr (d, has, of_d) ↦ elim (out_or_left bounded rest c d same has) [
                  | inl e ↦ inr (inl (new, Contains-push candidates new, of_class q (subst (λ x. IsWithin net s t x q) (sym e) of_d)))
                  | inr left ↦ inr (inr (d, left, of_d))
                ]
              ]
            ];
          };
    }

-- the class of the paths that leave a path at a place, by the first link of the least sum there
pub class_of_first : (net : Network) (s : ℕ) (ways : Ways) (links excluded : List ℕ) (place first sum bound : ℕ) (p e : List ℕ) → AreWays net ways →
    is_path net s ways.dst links ≡ true → place < length links →
    IsFirstLeastAt (sum_over net ways s (take place links) excluded (tail_of net (slice_index links place))) (link_count net) first sum →
    p ≡ take place links → e ≡ excluded → bound ≡ sum_along ways.costs (take place links) + sum →
    IsBounded net s ways (record { prefix = p; excluded = e; first = first; bound = bound }) × (p ≡ take place links) × (e ≡ excluded)
class_of_first net s ways links excluded place first sum bound p e are path inside least p_is e_is bound_is =
    let v = tail_of net (slice_index links place) in
    let prefix = take place links in
    let (open_h, _) = sum_parts (tail_of net first == v && is_allowed_link net.links s prefix excluded v first) (slice_index ways.costs first) sum
    (distance_at ways.sums (head_of net first)) least.is
    in
    let starts : tail_of net first ≡ v = eqb-true (tail_of net first) v (and_parts (tail_of net first == v) (is_allowed_link net.links s prefix excluded v first) open_h).0 in
    let pre = prefix_of_path net s ways.dst links place path inside in (
      record {
        prefix = subst (λ l. IsPrefix net s ways.dst (tail_of net first) l) (sym p_is) (subst (λ u. IsPrefix net s ways.dst u prefix) (sym starts) pre);
        sum = sum;
        first = subst (λ l. IsFirstLeastAt (sum_over net ways s l e (tail_of net first)) (link_count net) first sum) (sym p_is)
            (subst (λ l. IsFirstLeastAt (sum_over net ways s prefix l (tail_of net first)) (link_count net) first sum) (sym e_is)
            (subst (λ u. IsFirstLeastAt (sum_over net ways s prefix excluded u) (link_count net) first sum) (sym starts) least));
        is = bound_is ∙ ap (λ l. sum_along ways.costs l + sum) (sym p_is);
      },
      p_is,
      e_is,
    )

-- what an index reads of a class
pub read_bound : (cs : List BoundedClass) (i : ℕ) (c : BoundedClass) → i < length cs → c ≡ get_or cs i c → (get_or cs i c).bound ≡ bound_at cs i
read_bound cs i c below is = sym (ap (λ (d : BoundedClass). d.bound) is) ∙ ap (λ (d : BoundedClass). d.bound) (get_or_read cs i c below is no_class)
