-- The least way over all links is the least path of a class where it meets none of the class's first nodes.
use Rattle.std.proofs.Common.{◌⊎◌, inl, inr, ◌≡◌, ℕ, ◌+◌, ◌<◌, ◌≤◌, Bool, true, false, not, ◌&&◌, List, [], ◌∷◌, ◌++◌, Option, Some, None, length, take, arith, refl, ap, sym, ◌∙◌, subst, slice_index, slice_index_or, ◌==◌, nat_lt}
use Rattle.std.specs.Prelude.{if◌then◌else◌, All}
use Rattle.std.specs.List.{list_any}
use Rattle.std.proofs.lemmas.Bool.{cases_Bool, cases_lt, cases_order, and_from, and_parts, and_right, or_from, or_left, or_parts, lt-ltb, ltb-true, eq-eqb, eqb-true, ne_eqb, not-true, not_from_false}
use Rattle.std.proofs.lemmas.List.{length-append}
use Rattle.std.proofs.lemmas.List.Elements.{All-get_or}
use Rattle.std.proofs.Math.Seq.{take-append_seam}
use Rattle.te_model.specs.declared.network.Network.{Network}
use Rattle.te_model.specs.Network.{link_count, tail_of, head_of, no_link}
use Rattle.te_model.specs.Path.{chains, is_distinct, has_number, nodes_visited, heads}
use Rattle.te_model.specs.Validity.{list_below}
use Rattle.te_model.proofs.Chains.{chains-append, walk_links}
use Rattle.shortest_path.specs.Costs.{costs_of, IsBefore}
use Rattle.shortest_path.specs.Graph.{distance_at}
use Rattle.shortest_path.specs.Least.{AreLeastSums, IsLeastWalk}
use Rattle.shortest_path.specs.Links.{Walk, every_link}
use Rattle.shortest_path.specs.Paths.{sum_along, IsBelow}
use Rattle.shortest_path.proofs.Relaxing.{at_most-some}
use Rattle.shortest_path.proofs.Tight.{least_walk_apart}
use Rattle.shortest_path.proofs.Walks.{chains_of_walk, walk_of_chains}
use Rattle.shortest_path.specs.declared.ways.Ways.{Ways}
use Rattle.k_paths.specs.Classes.{InClass, IsLeastOfClass, IsPrefix, is_allowed_link}
use Rattle.shortest_path.specs.Ways.{AreWays, IsLeastWay}
use Rattle.shortest_path.proofs.LeastSums.{all_open}
use Rattle.k_paths.specs.Ways.{IsFirstLeastAt, is_visited, sum_with, sum_over}
use Rattle.k_paths.proofs.Ordering.{below-append}
use Rattle.te_model.proofs.Marks.{nodes_visited-is}
use Rattle.k_paths.proofs.Visits.{distinct-apart, distinct-append, chains-before, visits-is}
use Rattle.k_paths.proofs.ClassLeast.{chains-same_end, visited-append}

pub sum_parts : (b : Bool) (cost x : ℕ) (o : Option ℕ) → (if b then sum_with cost o else None) ≡ Some x → (b ≡ true) × ((y : ℕ) × (o ≡ Some y) × (x ≡ cost + y))
sum_parts true cost x None is = cc
sum_parts true cost x (Some y) is = (refl, (y, refl, cc))
sum_parts false cost x o is = cc

sum_of_parts : (b : Bool) (cost y : ℕ) (o : Option ℕ) → b ≡ true → o ≡ Some y → (if b then sum_with cost o else None) ≡ Some (cost + y)
sum_of_parts b cost y o is at = rw (is, at) refl

-- how a path of the class goes on after the prefix
pub record GoesOn (net : Network) (s t v : ℕ) (prefix excluded : List ℕ) (k : ℕ) (ks : List ℕ) : Type 0 where
  pub inside : k < link_count net
  pub starts : tail_of net k ≡ v
  pub new : has_number (nodes_visited net s prefix) (head_of net k) ≡ false
  pub allowed : has_number excluded k ≡ false
  pub walk : Walk net (every_link net) (head_of net k) t ks

pub goes_on : (net : Network) (s t v : ℕ) (prefix excluded q : List ℕ) → chains net s v prefix ≡ true → (m : InClass net s t prefix excluded q) →
    GoesOn net s t v prefix excluded m.next m.rest
goes_on net s t v prefix excluded q chain m =
    let k = m.next in
    let links = k ∷ m.rest in
    let path = and_parts (chains net s t q) (is_distinct (nodes_visited net s q)) m.sound in
    let whole : chains net s t (prefix ++ links) ≡ true = subst (λ l. chains net s t l ≡ true) m.is path.0 in
    let apart : is_distinct (nodes_visited net s prefix ++ heads net links) ≡ true =
    subst (λ l. is_distinct l ≡ true) (visited-append net s prefix links) (subst (λ l. is_distinct (nodes_visited net s l) ≡ true) m.is path.1)
    in
    let parts = chains-before net s t k prefix m.rest whole in
    let outer = and_parts (nat_lt k (link_count net) && tail_of net k == tail_of net k) (chains net (head_of net k) t m.rest) parts.1 in
    let inner = and_parts (nat_lt k (link_count net)) (tail_of net k == tail_of net k) outer.0 in
    record {
      inside = ltb-true k (link_count net) inner.0;
      starts = sym (chains-same_end net s v (tail_of net k) prefix chain parts.0);
      new = elim (cases_Bool (has_number (nodes_visited net s prefix) (head_of net k))) [
        | inl on ↦ absurd (distinct-apart (nodes_visited net s prefix) (heads net links) (head_of net k) apart on
            (or_left (head_of net k == head_of net k) (has_number (heads net m.rest) (head_of net k)) (eq-eqb (head_of net k) (head_of net k) refl)))
        | inr off ↦ off
      ];
      allowed = m.allowed;
      walk = walk_of_chains net (every_link net) (head_of net k) t m.rest (all_open net) outer.1;
    }

-- the link has a sum, at most that of the rest of the path
pub sum_of_rest : (net : Network) (ways : Ways) (s v : ℕ) (prefix excluded : List ℕ) (k : ℕ) (ks : List ℕ) → AreWays net ways →
    GoesOn net s ways.dst v prefix excluded k ks →
    (z : ℕ) × (sum_over net ways s prefix excluded v k ≡ Some (slice_index ways.costs k + z)) × (z ≤ sum_along ways.costs ks)
sum_of_rest net ways s v prefix excluded k ks are on =
    let (z, is_z, le) = at_most-some (distance_at ways.sums (head_of net k)) (sum_along ways.costs ks) (are.sums.below (head_of net k) ks on.walk) in
    let unseen : is_visited net.links s prefix (head_of net k) ≡ false = sym (visits-is net s (head_of net k) prefix) ∙ on.new in
    let allowed : is_allowed_link net.links s prefix excluded v k ≡ true =
    and_from (not (is_visited net.links s prefix (head_of net k))) (not (tail_of net k == v && has_number excluded k))
    (not_from_false _ unseen) (not_from_false _ (and_right (tail_of net k == v) (has_number excluded k) on.allowed))
    in (
      z,
      sum_of_parts (tail_of net k == v && is_allowed_link net.links s prefix excluded v k) (slice_index ways.costs k) z (distance_at ways.sums (head_of net k))
          (and_from (tail_of net k == v) (is_allowed_link net.links s prefix excluded v k) (eq-eqb (tail_of net k) v on.starts) allowed) is_z,
      le,
    )

-- the links lead to no node of the prefix
apart_of_none : (net : Network) (s : ℕ) (prefix links : List ℕ) →
    list_any (λ k. is_visited net.links s prefix (slice_index_or net.links k no_link).head) links ≡ false →
    (y : ℕ) → has_number (nodes_visited net s prefix) y ≡ true → has_number (heads net links) y ≡ false
apart_of_none net s prefix [] none y on = refl
apart_of_none net s prefix (k ∷ ks) none y on =
    let parts = or_parts (is_visited net.links s prefix (head_of net k)) (list_any (λ k. is_visited net.links s prefix (slice_index_or net.links k no_link).head) ks) none in
    let off : has_number (nodes_visited net s prefix) (head_of net k) ≡ false = visits-is net s (head_of net k) prefix ∙ parts.0 in
    or_from (head_of net k == y) (has_number (heads net ks) y)
    (ne_eqb (head_of net k) y (λ e. let also = subst (λ u. has_number (nodes_visited net s prefix) u ≡ false) e off in cc))
    (apart_of_none net s prefix ks parts.1 y on)

-- a least walk is no longer than the least sum
sum_at_most : (net : Network) (lengths : List ℕ) (marks : List Bool) (t : ℕ) (sums : List (Option ℕ)) → AreLeastSums net lengths marks t sums →
    (u y : ℕ) (w : List ℕ) → distance_at sums u ≡ Some y → IsLeastWalk net lengths marks u t (Some w) → sum_along lengths w ≤ y
sum_at_most net lengths marks t sums are u y w at (walk, least) =
    let (r, walk_r, sum) = are.reached u y at in
    elim (least r walk_r) [
      | inl e ↦ omega (arith, ap (sum_along lengths) e, sum)
      | inr below ↦ elim below [ inl lt ↦ omega (arith, lt, sum) | inr same ↦ omega (arith, same.0, sum) ]
    ]

-- the first of the least sums, and then a least way, against another link and what follows it
first_before : (costs : List ℕ) (h y k z : ℕ) (w ks : List ℕ) → sum_along costs w ≤ y → z ≤ sum_along costs ks →
    (slice_index costs h + y < slice_index costs k + z) ⊎ ((slice_index costs h + y ≡ slice_index costs k + z) × (h ≤ k)) →
    (h ≡ k → ⊥) → IsBelow costs (h ∷ w) (k ∷ ks)
first_before costs h y k z w ks low high first ne = elim (cases_lt (sum_along costs (h ∷ w)) (sum_along costs (k ∷ ks))) [
  | inl lt ↦ inl lt
  | inr ge ↦ elim first [
    | inl less ↦ absurd (omega (arith, less, low, high, ge))
    | inr same ↦ inr (
      omega (arith, same.0, low, high, ge),
      or_left (nat_lt h k) (h == k && list_below w ks) (lt-ltb h k (elim (cases_order h k) [
        | inl e ↦ absurd (ne e)
        | inr other ↦ elim other [ inl lt ↦ lt | inr gt ↦ absurd (omega (arith, same.1, gt)) ]
      ])),
    )
  ]
]

long_costs : (net : Network) (ways : Ways) → AreWays net ways → (h : ℕ) → h < link_count net → 1 ≤ slice_index ways.costs h
long_costs net ways are h below = All-get_or (λ c. 1 ≤ c) ways.costs h 0 (omega (arith, are.costs.count)) are.costs.positive

pub direct_least : (net : Network) (ways : Ways) (s v : ℕ) (prefix excluded w : List ℕ) (h x : ℕ) → AreWays net ways → IsPrefix net s ways.dst v prefix →
    IsFirstLeastAt (sum_over net ways s prefix excluded v) (link_count net) h x → IsLeastWay net ways (head_of net h) (Some w) →
    list_any (λ k. is_visited net.links s prefix (slice_index_or net.links k no_link).head) w ≡ false →
    IsLeastOfClass net s ways.dst (prefix ++ h ∷ w) (length prefix) excluded
direct_least net ways s v prefix excluded w h x are pre first least none =
    let t = ways.dst in
    let (open_h, (y, at_y, x_is)) = sum_parts (tail_of net h == v && is_allowed_link net.links s prefix excluded v h) (slice_index ways.costs h) x
    (distance_at ways.sums (head_of net h)) first.is
    in
    let from_v = and_parts (tail_of net h == v) (is_allowed_link net.links s prefix excluded v h) open_h in
    let starts : tail_of net h ≡ v = eqb-true (tail_of net h) v from_v.0 in
    let allowed = and_parts (not (is_visited net.links s prefix (head_of net h))) (not (tail_of net h == v && has_number excluded h)) from_v.1 in
    let unseen : is_visited net.links s prefix (head_of net h) ≡ false = not-true (is_visited net.links s prefix (head_of net h)) allowed.0 in
    let sum_w : sum_along ways.costs w ≤ y = sum_at_most net ways.costs (every_link net) t ways.sums are.sums (head_of net h) y w at_y least in
    let walk : Walk net (every_link net) v t (h ∷ w) = (first.inside, starts, all_open net h first.inside, least.0) in
    let apart_w : is_distinct (heads net (h ∷ w)) ≡ true =
    subst (λ l. is_distinct l ≡ true) (nodes_visited-is net (head_of net h) w) (least_walk_apart net ways.costs (every_link net) (head_of net h) t w (long_costs net ways are) least)
    in
    let unmet = apart_of_none net s prefix (h ∷ w) (or_from (is_visited net.links s prefix (head_of net h)) _ unseen none) in
    let seam : take (length prefix) (prefix ++ h ∷ w) ≡ prefix = take-append_seam prefix (h ∷ w) in
    let member : InClass net s t prefix excluded (prefix ++ h ∷ w) = record {
      sound = and_from (chains net s t (prefix ++ h ∷ w)) (is_distinct (nodes_visited net s (prefix ++ h ∷ w)))
          (chains-append net s v t prefix (h ∷ w) pre.chain (chains_of_walk net (every_link net) v t (h ∷ w) walk))
          (subst (λ l. is_distinct l ≡ true) (sym (visited-append net s prefix (h ∷ w)))
          (distinct-append (nodes_visited net s prefix) (heads net (h ∷ w)) pre.apart apart_w unmet));
      next = h;
      rest = w;
      is = refl;
      allowed = not_excluded starts (not-true (tail_of net h == v && has_number excluded h) allowed.1);
    }
    in
    record {
      inside = omega (arith, length-append prefix (h ∷ w));
      member = subst (λ p. InClass net s t p excluded (prefix ++ h ∷ w)) (sym seam) member;
      least = λ q in'.
          let m = subst (λ p. InClass net s t p excluded q) seam in' in
          let on = goes_on net s t v prefix excluded q pre.chain m in
          elim (against y x_is sum_w m.next m.rest on) [
            | inl e ↦ inl (m.is ∙ ap (λ l. prefix ++ l) e)
            | inr below ↦ inr (subst (λ l. IsBefore net (prefix ++ h ∷ w) l) (sym m.is)
                (below-append (costs_of net) prefix (h ∷ w) (m.next ∷ m.rest) (subst (λ c. IsBelow c (h ∷ w) (m.next ∷ m.rest)) are.costs.are below)))
          ];
    }
  where
    not_excluded : tail_of net h ≡ v → (tail_of net h == v && has_number excluded h) ≡ false → has_number excluded h ≡ false
    not_excluded starts off = elim (cases_Bool (has_number excluded h)) [
      | inl has ↦ let on = and_from (tail_of net h == v) (has_number excluded h) (eq-eqb (tail_of net h) v starts) has in cc
      | inr none ↦ none
    ]

    against : (y : ℕ) → x ≡ slice_index ways.costs h + y → sum_along ways.costs w ≤ y → (k : ℕ) (ks : List ℕ) → GoesOn net s ways.dst v prefix excluded k ks →
        ((k ∷ ks) ≡ (h ∷ w)) ⊎ IsBelow ways.costs (h ∷ w) (k ∷ ks)
    against y x_is sum_w k ks on = elim (cases_order h k) [
      | inl e ↦
          elim (least.1 ks (subst (λ j. Walk net (every_link net) (head_of net j) ways.dst ks) (sym e) on.walk)) [
            | inl same ↦ inl (ap (λ j. j ∷ ks) (sym e) ∙ ap (λ l. h ∷ l) same)
            | inr below ↦ inr (subst (λ j. IsBelow ways.costs (h ∷ w) (j ∷ ks)) e (below-append ways.costs (h ∷ []) w ks below))
          ]
      | inr other ↦
          let ne : h ≡ k → ⊥ = λ e. elim other [ inl lt ↦ omega (arith, lt, e) | inr gt ↦ omega (arith, gt, e) ] in
          let (z, is_z, le) = sum_of_rest net ways s v prefix excluded k ks are on in
          inr (first_before ways.costs h y k z w ks sum_w le
          (subst (λ a. (a < slice_index ways.costs k + z) ⊎ ((a ≡ slice_index ways.costs k + z) × (h ≤ k))) x_is (first.least k (slice_index ways.costs k + z) on.inside is_z)) ne)
    ]

pub direct_none : (net : Network) (ways : Ways) (s v : ℕ) (prefix excluded : List ℕ) → AreWays net ways → IsPrefix net s ways.dst v prefix →
    ((k : ℕ) → k < link_count net → sum_over net ways s prefix excluded v k ≡ None) →
    (q : List ℕ) → InClass net s ways.dst prefix excluded q → ⊥
direct_none net ways s v prefix excluded are pre none q in' =
    let on = goes_on net s ways.dst v prefix excluded q pre.chain in' in
    let (z, is_z, le) = sum_of_rest net ways s v prefix excluded in'.next in'.rest are on in
    let is_none = none in'.next on.inside in
    cc

pub direct_some : (net : Network) (ways : Ways) (s v : ℕ) (prefix excluded w : List ℕ) (h x : ℕ) → AreWays net ways → IsPrefix net s ways.dst v prefix →
    IsFirstLeastAt (sum_over net ways s prefix excluded v) (link_count net) h x → IsLeastWay net ways (head_of net h) (Some w) →
    list_any (λ k. is_visited net.links s prefix (slice_index_or net.links k no_link).head) w ≡ false →
    IsLeastOfClass net s ways.dst (prefix ++ h ∷ w) (length prefix) excluded × (take (length prefix) (prefix ++ h ∷ w) ≡ prefix)
direct_some net ways s v prefix excluded w h x are pre first least none =
    (direct_least net ways s v prefix excluded w h x are pre first least none, take-append_seam prefix (h ∷ w))

pub links_of_walk : (net : Network) (marks : List Bool) (u t : ℕ) (links : List ℕ) → Walk net marks u t links → All (λ h. h < link_count net) links
links_of_walk net marks u t links walk = walk_links net u t links (chains_of_walk net marks u t links walk)
