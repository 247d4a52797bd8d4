-- A least walk begins with the first tight link.
use Rattle.std.proofs.Common.{◌⊎◌, inl, inr, ◌≡◌, ℕ, ◌+◌, ◌<◌, ◌≤◌, Bool, true, ◌&&◌, List, [], ◌∷◌, ◌++◌, Option, Some, None, arith, refl, ap, sym, ◌∙◌, subst, slice_index, ◌==◌, nat_lt}
use Rattle.std.proofs.lemmas.Bool.{cases_lt, cases_order, and_from, and_parts, or_left, or_right, lt-ltb, eq-eqb, eqb-true}
use Rattle.std.proofs.lemmas.List.{append_assoc, append-nil}
use Rattle.te_model.specs.declared.network.Network.{Network}
use Rattle.te_model.specs.Network.{node_count, link_count, tail_of, head_of}
use Rattle.te_model.specs.Path.{is_distinct, nodes_visited}
use Rattle.te_model.specs.Validity.{list_below}
use Rattle.shortest_path.specs.Graph.{AtMost, distance_at}
use Rattle.shortest_path.specs.Paths.{sum_along, IsBelow}
use Rattle.shortest_path.specs.Links.{Walk, HasSoundLinks, is_open}
use Rattle.shortest_path.specs.Least.{AreLeastSums, IsLeastWalk, is_sum, is_tight, IsFirstTight}
use Rattle.shortest_path.proofs.Relaxing.{at_most-some, is-at_most}
use Rattle.shortest_path.proofs.Loops.{without_loops}

pub is_sum_at : (o p : Option ℕ) (x y l : ℕ) → o ≡ Some x → p ≡ Some y → x ≡ l + y → is_sum o p l ≡ true
is_sum_at None p x y l is_o is_p sum = cc
is_sum_at (Some a) None x y l is_o is_p sum = cc
is_sum_at (Some a) (Some b) x y l is_o is_p sum =
    let ea : a ≡ x = cc in
    let eb : b ≡ y = cc in
    eq-eqb a (l + b) (omega arith)

pub is_sum_parts : (o p : Option ℕ) (l : ℕ) → is_sum o p l ≡ true → (y : ℕ) × (p ≡ Some y) × (o ≡ Some (l + y))
is_sum_parts None p l is = cc
is_sum_parts (Some a) None l is = cc
is_sum_parts (Some a) (Some b) l is = (b, refl, ap Some (eqb-true a (l + b) is))

pub record TightAt (net : Network) (lengths : List ℕ) (marks : List Bool) (distances : List (Option ℕ)) (u h y : ℕ) : Type 0 where
  pub open_h : is_open marks h ≡ true
  pub starts : tail_of net h ≡ u
  pub to : distance_at distances (head_of net h) ≡ Some y
  pub from : distance_at distances u ≡ Some (slice_index lengths h + y)

pub tight_parts : (net : Network) (lengths : List ℕ) (marks : List Bool) (distances : List (Option ℕ)) (u h : ℕ) →
    is_tight net lengths marks distances u h ≡ true → (y : ℕ) × TightAt net lengths marks distances u h y
tight_parts net lengths marks distances u h is =
    let outer = and_parts (is_open marks h && tail_of net h == u) (is_sum (distance_at distances u) (distance_at distances (head_of net h)) (slice_index lengths h)) is in
    let inner = and_parts (is_open marks h) (tail_of net h == u) outer.0 in
    let (y, to, from) = is_sum_parts (distance_at distances u) (distance_at distances (head_of net h)) (slice_index lengths h) outer.1 in
    (y, record { open_h = inner.0; starts = eqb-true (tail_of net h) u inner.1; to = to; from = from })

-- the first link of a walk that is as short as the distance is tight
tight_of_walk : (net : Network) (lengths : List ℕ) (marks : List Bool) (t : ℕ) (distances : List (Option ℕ)) →
    AreLeastSums net lengths marks t distances →
    (u h x : ℕ) (hs : List ℕ) → Walk net marks u t (h ∷ hs) → distance_at distances u ≡ Some x → sum_along lengths (h ∷ hs) ≡ x →
    is_tight net lengths marks distances u h ≡ true
tight_of_walk net lengths marks t distances are u h x hs (below, starts, open_h, walk) at sum =
    let (z, is_z, le) = at_most-some (distance_at distances (head_of net h)) (sum_along lengths hs)
    (are.below (head_of net h) hs walk)
    in
    let (w, walk_w, sum_w) = are.reached (head_of net h) z is_z in
    let over : x ≤ slice_index lengths h + sum_along lengths w =
    is-at_most (distance_at distances u) (slice_index lengths h + sum_along lengths w) x at (are.below u (h ∷ w) (below, starts, open_h, walk_w))
    in
    let high : x ≤ z + slice_index lengths h = omega (arith, over, sum_w) in
    and_from (is_open marks h && tail_of net h == u) (is_sum (distance_at distances u) (distance_at distances (head_of net h)) (slice_index lengths h))
    (and_from (is_open marks h) (tail_of net h == u) open_h (eq-eqb (tail_of net h) u starts))
    (is_sum_at (distance_at distances u) (distance_at distances (head_of net h)) x z (slice_index lengths h) at is_z (omega arith))

-- a least walk is as long as the distance
least_sum : (net : Network) (lengths : List ℕ) (marks : List Bool) (t : ℕ) (distances : List (Option ℕ)) →
    AreLeastSums net lengths marks t distances →
    (u x : ℕ) (r : List ℕ) → distance_at distances u ≡ Some x → IsLeastWalk net lengths marks u t (Some r) → sum_along lengths r ≡ x
least_sum net lengths marks t distances are u x r at (walk, least) =
    let low = is-at_most (distance_at distances u) (sum_along lengths r) x at (are.below u r walk) in
    let (w, walk_w, sum) = are.reached u x at in
    let high : sum_along lengths r ≤ x = elim (least w walk_w) [
      | inl e ↦ omega (arith, ap (sum_along lengths) e, sum)
      | inr below ↦ elim below [ inl lt ↦ omega (arith, lt, sum) | inr same ↦ omega (arith, same.0, sum) ]
    ]
    in
    omega (arith, low, high)

pub least_none : (net : Network) (lengths : List ℕ) (marks : List Bool) (t : ℕ) → ((h : ℕ) → h < link_count net → 1 ≤ slice_index lengths h) →
    IsLeastWalk net lengths marks t t (Some [])
least_none net lengths marks t long = (refl, go)
  where
    go : (links : List ℕ) → Walk net marks t t links → (links ≡ []) ⊎ IsBelow lengths [] links
    go [] walk = inl refl
    go (h ∷ hs) walk = inr (inl (omega (arith, long h walk.0)))

-- the first tight link, and then a least walk
pub least_more : (net : Network) (lengths : List ℕ) (marks : List Bool) (t : ℕ) (distances : List (Option ℕ)) →
    AreLeastSums net lengths marks t distances →
    (u h : ℕ) (r : List ℕ) → (u ≡ t → ⊥) → IsFirstTight net lengths marks distances u (Some h) →
    IsLeastWalk net lengths marks (head_of net h) t (Some r) → IsLeastWalk net lengths marks u t (Some (h ∷ r))
least_more net lengths marks t distances are u h r apart first least =
    let (y, tight) = tight_parts net lengths marks distances u h first.1 in
    let sum_r : sum_along lengths r ≡ y = least_sum net lengths marks t distances are (head_of net h) y r tight.to least in
    ((first.0, tight.starts, tight.open_h, least.0), go y tight sum_r)
  where
    same_first : (k : ℕ) (ks : List ℕ) → h ≡ k → sum_along lengths (h ∷ r) ≡ sum_along lengths (k ∷ ks) → Walk net marks (head_of net k) t ks →
        ((k ∷ ks) ≡ (h ∷ r)) ⊎ IsBelow lengths (h ∷ r) (k ∷ ks)
    same_first k ks e sums walk =
        elim (least.1 ks (subst (λ j. Walk net marks (head_of net j) t ks) (sym e) walk)) [
          | inl same ↦ inl (ap (λ j. j ∷ ks) (sym e) ∙ ap (λ l. h ∷ l) same)
          | inr below ↦ elim below [
            | inl lt ↦ absurd (omega (arith, sums, lt, ap (slice_index lengths) e))
            | inr later ↦ inr (inr (sums, or_right (nat_lt h k) (h == k && list_below r ks) (and_from (h == k) (list_below r ks) (eq-eqb h k e) later.1)))
          ]
        ]

    go : (y : ℕ) → TightAt net lengths marks distances u h y → sum_along lengths r ≡ y →
        (links : List ℕ) → Walk net marks u t links → (links ≡ (h ∷ r)) ⊎ IsBelow lengths (h ∷ r) links
    go y tight sum_r [] walk = absurd (apart walk)
    go y tight sum_r (k ∷ ks) walk =
        let x = slice_index lengths h + y in
        let low : x ≤ sum_along lengths (k ∷ ks) =
        is-at_most (distance_at distances u) (sum_along lengths (k ∷ ks)) x tight.from
        (are.below u (k ∷ ks) walk)
        in
        elim (cases_lt x (sum_along lengths (k ∷ ks))) [
          | inl lt ↦ inr (inl (omega (arith, lt, sum_r)))
          | inr ge ↦
              let sums : sum_along lengths (h ∷ r) ≡ sum_along lengths (k ∷ ks) = omega (arith, low, ge, sum_r) in
              let tight_k = tight_of_walk net lengths marks t distances are u k x ks walk tight.from (omega (arith, low, ge)) in
              elim (cases_order h k) [
                | inl e ↦ same_first k ks e sums walk.3
                | inr other ↦ elim other [
                  | inl lt ↦ inr (inr (sums, or_left (nat_lt h k) (h == k && list_below r ks) (lt-ltb h k lt)))
                  | inr gt ↦ let slack = first.2 k gt in cc
                ]
              ]
        ]

-- where the distance is known, there is a tight link
pub some_tight : (net : Network) (lengths : List ℕ) (marks : List Bool) (t : ℕ) (distances : List (Option ℕ)) →
    AreLeastSums net lengths marks t distances →
    (u x : ℕ) → (u ≡ t → ⊥) → distance_at distances u ≡ Some x → IsFirstTight net lengths marks distances u None → ⊥
some_tight net lengths marks t distances are u x apart at none =
    let (w, walk, sum) = are.reached u x at in
    go w walk sum
  where
    go : (w : List ℕ) → Walk net marks u t w → sum_along lengths w ≡ x → ⊥
    go [] walk sum = apart walk
    go (h ∷ hs) walk sum =
        let tight = tight_of_walk net lengths marks t distances are u h x hs walk at sum in
        let slack = none h walk.0 in
        cc

-- how far the least walk has come
pub record GreedySoFar (net : Network) (lengths : List ℕ) (marks : List Bool) (distances : List (Option ℕ)) (s t node : ℕ) (links : List ℕ) : Type 0 where
  pub inside : node < node_count net
  pub known : (x : ℕ) × (distance_at distances node ≡ Some x)
  pub extends : (r : List ℕ) → IsLeastWalk net lengths marks node t (Some r) → IsLeastWalk net lengths marks s t (Some (links ++ r))

-- a least walk visits no node twice
pub least_walk_apart : (net : Network) (lengths : List ℕ) (marks : List Bool) (s t : ℕ) (p : List ℕ) →
    ((h : ℕ) → h < link_count net → 1 ≤ slice_index lengths h) → IsLeastWalk net lengths marks s t (Some p) → is_distinct (nodes_visited net s p) ≡ true
least_walk_apart net lengths marks s t p long (walk, least) =
    let (q, walk_q, apart, less) = without_loops net lengths marks 1 s t p long walk in
    elim less [
      | inl e ↦ subst (λ l. is_distinct (nodes_visited net s l) ≡ true) e apart
      | inr lt ↦ absurd (elim (least q walk_q) [
        | inl e ↦ omega (arith, lt, ap (sum_along lengths) e)
        | inr below ↦ elim below [ inl lt' ↦ omega (arith, lt, lt') | inr same ↦ omega (arith, lt, same.0) ]
      ])
    ]

pub greedy_step : (net : Network) (lengths : List ℕ) (marks : List Bool) (s t : ℕ) (distances : List (Option ℕ)) →
    HasSoundLinks net → AreLeastSums net lengths marks t distances →
    (node h : ℕ) (links : List ℕ) → GreedySoFar net lengths marks distances s t node links → (node ≡ t → ⊥) →
    IsFirstTight net lengths marks distances node (Some h) → GreedySoFar net lengths marks distances s t (head_of net h) (links ++ h ∷ [])
greedy_step net lengths marks s t distances sound are node h links far apart first =
    let (y, tight) = tight_parts net lengths marks distances node h first.1 in
    record {
      inside = sound.heads h first.0;
      known = (y, tight.to);
      extends = λ r least.
          subst (λ l. IsLeastWalk net lengths marks s t (Some l)) (sym (append_assoc links (h ∷ []) r))
          (far.extends (h ∷ r) (least_more net lengths marks t distances are node h r apart first least));
    }

-- no walk where the distance is not known
pub no_walk : (net : Network) (lengths : List ℕ) (marks : List Bool) (t : ℕ) (distances : List (Option ℕ)) →
    AreLeastSums net lengths marks t distances →
    (s : ℕ) → distance_at distances s ≡ None → (links : List ℕ) → Walk net marks s t links → ⊥
no_walk net lengths marks t distances are s none links walk =
    subst (λ o. AtMost o (sum_along lengths links)) none (are.below s links walk)

pub greedy_end : (net : Network) (lengths : List ℕ) (marks : List Bool) (distances : List (Option ℕ)) (s t node : ℕ) (links : List ℕ) →
    ((h : ℕ) → h < link_count net → 1 ≤ slice_index lengths h) →
    GreedySoFar net lengths marks distances s t node links → node ≡ t → IsLeastWalk net lengths marks s t (Some links)
greedy_end net lengths marks distances s t node links long far e =
    subst (λ l. IsLeastWalk net lengths marks s t (Some l)) (append-nil links)
    (far.extends [] (subst (λ v. IsLeastWalk net lengths marks v t (Some [])) (sym e) (least_none net lengths marks t long)))
