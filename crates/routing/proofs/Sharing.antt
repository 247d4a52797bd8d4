-- Tables of shares that grow path by path and pair by pair.
use Rattle.std.proofs.Common.{◌≡◌, ℕ, ◌+◌, ◌<◌, ◌≤◌, Bool, true, false, List, [], ◌∷◌, ◌++◌, length, take, arith, refl, ap, sym, subst, ◌∙◌, inl, inr, add-one, get_or, slice_index, ◌==◌, All}
use Rattle.std.specs.Prelude.{IsTrue, if◌then◌else◌}
use Rattle.std.specs.List.Sorted.{IsStrictlyIncreasing}
use Rattle.std.proofs.Math.ListN.{set}
use Rattle.std.proofs.Math.Seq.{map-set_same}
use Rattle.std.proofs.lemmas.Bool.{cases_eq, cases_lt, eq-eqb, ne_eqb}
use Rattle.std.proofs.lemmas.List.{get_or_append_left, get_or_push, get_or-map, get_or-set_same, get_or-set_other, length-append, length-map, length-set, length-take-le, map_push, take_more}
use Rattle.std.proofs.lemmas.List.Elements.{All-get_or, All-push, All-set, All-weaker}
use Rattle.std.proofs.lemmas.List.Sums.{sum_by_more}
use Rattle.te_model.specs.declared.network.Network.{Network}
use Rattle.te_model.specs.declared.route.PathShare.{PathShare}
use Rattle.te_model.specs.declared.route.PairRoutes.{PairRoutes}
use Rattle.te_model.specs.Network.{link_count}
use Rattle.te_model.specs.Path.{has_number, is_path, no_routes, routes_at, share, weight_on, amount_on}
use Rattle.te_model.specs.PathRouting.{IsPathRouting, IsPathSplit}
use Rattle.te_model.proofs.SimplePaths.{path_links, path_links_once}
use Rattle.te_model.proofs.Tests.{get_or_past}
use Rattle.routing.specs.declared.shares.PairShare.{PairShare}
use Rattle.routing.specs.Merge.{no_path}
use Rattle.routing.specs.Shares.{pair_numbers, share_in, shares_on, AreLinksOnce, IsAddition, IsShareList}
use Rattle.te_model.proofs.Amounts.{amount_on-next, amount_on-more}
use Rattle.te_model.proofs.Conditionals.{if_zero}

abbrev pub no_share : PairShare
no_share = record { pair = 0; share = 0 }

-- a number of the list is a place of the table, which has kept its length
pub place_inside : {X : Type 0} (old table : List X) (links : List ℕ) (i : ℕ) → All (λ h. h < length old) links → i < length links →
    length table ≡ length old → slice_index links i < length table
place_inside old table links i each below same = omega (arith, All-get_or (λ h. h < length old) links i 0 below each, same)

-- a number above the last
increasing_push : (xs : List ℕ) (x : ℕ) → IsStrictlyIncreasing xs → ((k : ℕ) → k + 1 ≡ length xs → get_or xs k 0 < x) → IsStrictlyIncreasing (xs ++ x ∷ [])
increasing_push xs x up above k below =
    let count = length-append xs (x ∷ []) in
    let first : get_or (xs ++ x ∷ []) k 0 ≡ get_or xs k 0 = get_or_append_left xs (x ∷ []) 0 k (omega (arith, below, count)) in
    elim (cases_lt (k + 1) (length xs)) [
      | inl lt ↦ let next : get_or (xs ++ x ∷ []) (k + 1) 0 ≡ get_or xs (k + 1) 0 = get_or_append_left xs (x ∷ []) 0 (k + 1) lt in omega (arith, first, next, up k lt)
      | inr ge ↦
          let last : k + 1 ≡ length xs = omega (arith, ge, below, count) in
          let next : get_or (xs ++ x ∷ []) (k + 1) 0 ≡ x = get_or_push xs x 0 (k + 1) (sym last) in
          omega (arith, first, next, above k last)
    ]

-- one pair more at the end
pub order_pushed : (list : List PairShare) (s : PairShare) → IsShareList (s.pair + 1) list → 0 < s.share →
    ((k : ℕ) → k + 1 ≡ length list → (get_or list k no_share).pair ≡ s.pair → ⊥) → IsShareList (s.pair + 1) (list ++ s ∷ [])
order_pushed list s order some apart = record {
  ascending = subst IsStrictlyIncreasing (sym (map_push (λ (s : PairShare). s.pair) list s)) (increasing_push (pair_numbers list) s.pair order.ascending (λ k last.
      let inside : k < length list = omega (arith, last, length-map list (λ (s : PairShare). s.pair)) in
      let at : get_or (pair_numbers list) k 0 ≡ (get_or list k no_share).pair = get_or-map (λ (s : PairShare). s.pair) list k no_share 0 inside in
      let up = All-get_or (λ t. t.pair < s.pair + 1) list k no_share inside order.below in
      elim (cases_eq (get_or list k no_share).pair s.pair) [
        | inl same ↦ absurd (apart k (omega (arith, last, length-map list (λ (s : PairShare). s.pair))) same)
        | inr other ↦ omega (arith, at, up, other)
      ]));
  below = All-push (λ t. t.pair < s.pair + 1) list s order.below (omega arith);
  some = All-push (λ t. 0 < t.share) list s order.some some;
}

-- more for a pair that is there
pub order_set : (n : ℕ) (list : List PairShare) (i : ℕ) (t : PairShare) → IsShareList n list → i < length list → t.pair ≡ (get_or list i no_share).pair → 0 < t.share →
    IsShareList n (set list i t)
order_set n list i t order inside same some = record {
  ascending = subst IsStrictlyIncreasing (sym (map-set_same (λ (s : PairShare). s.pair) list i t no_share same)) order.ascending;
  below = All-set (λ s. s.pair < n) list i t (omega (arith, same, All-get_or (λ s. s.pair < n) list i no_share inside order.below)) order.below;
  some = All-set (λ s. 0 < s.share) list i t some order.some;
}

pub order_weaker : (n : ℕ) (list : List PairShare) → IsShareList n list → IsShareList (n + 1) list
order_weaker n list order = record {
  ascending = order.ascending;
  below = All-weaker (λ s. s.pair < n) (λ s. s.pair < n + 1) (λ s lt. omega (arith, lt)) list order.below;
  some = order.some;
}

-- a path more on one link
pub addition_one : (table : List (List PairShare)) (h : ℕ) (row : List PairShare) (p more : ℕ) → h < length table →
    ((q : ℕ) → share_in row q ≡ share_in (shares_on table h) q + (if p == q then more else 0)) → IsAddition table (set table h row) p (λ e. if h == e then more else 0)
addition_one table h row p more inside sums = record {
  count = length-set table h row;
  each = λ e q below. elim (cases_eq e h) [
    | inl same ↦
        let here : shares_on (set table h row) e ≡ row = ap (shares_on (set table h row)) same ∙ get_or-set_same table h row [] inside in
        let is : (h == e) ≡ true = eq-eqb h e (sym same) in
        ap (λ (r : List PairShare). share_in r q) here ∙ sums q ∙ ap (λ n. share_in (shares_on table n) q + (if p == q then more else 0)) (sym same)
        ∙ ap (λ b. share_in (shares_on table e) q + (if p == q then (if b then more else 0) else 0)) (sym is)
    | inr ne ↦
        let there : shares_on (set table h row) e ≡ shares_on table e = get_or-set_other table h e row [] ne in
        let out : (h == e) ≡ false = ne_eqb h e (λ same. ne (sym same)) in
        let none = if_zero (p == q) (if h == e then more else 0) (ap (λ b. if b then more else 0) out) in
        omega (arith, ap (λ (r : List PairShare). share_in r q) there, none)
  ];
}

pub no_addition : (table : List (List PairShare)) (p : ℕ) (more : ℕ → ℕ) → ((e : ℕ) → more e ≡ 0) → IsAddition table table p more
no_addition table p more none = record {
  count = refl;
  each = λ e q below. omega (arith, if_zero (p == q) (more e) (none e));
}

-- two additions for one pair
addition_more : (old middle new : List (List PairShare)) (p : ℕ) (f g sum : ℕ → ℕ) → IsAddition old middle p f → IsAddition middle new p g →
    ((e : ℕ) → sum e ≡ f e + g e) → IsAddition old new p sum
addition_more old middle new p f g sum first second is = record {
  count = second.count ∙ first.count;
  each = λ e q below.
      joined (p == q) (share_in (shares_on new e) q) (share_in (shares_on middle e) q) (share_in (shares_on old e) q) (f e) (g e) (sum e)
      (first.each e q below) (second.each e q (omega (arith, below, first.count))) (is e);
}
  where
    joined : (b : Bool) (a r o x y s : ℕ) → r ≡ o + (if b then x else 0) → a ≡ r + (if b then y else 0) → s ≡ x + y → a ≡ o + (if b then s else 0)
    joined true a r o x y s one two all = omega (arith, one, two, all)
    joined false a r o x y s one two all = omega (arith, one, two)

-- one link more of a path
pub link_more : (old table : List (List PairShare)) (links : List ℕ) (row : List PairShare) (p more i : ℕ) → AreLinksOnce (length old) links → i < length links →
    IsAddition old table p (amount_on (take i links) more) →
    ((q : ℕ) → share_in row q ≡ share_in (shares_on table (slice_index links i)) q + (if p == q then more else 0)) →
    IsAddition old (set table (slice_index links i) row) p (amount_on (take (i + 1) links) more)
link_more old table links row p more i once below so sums =
    let h = slice_index links i in
    let inside : h < length old = All-get_or (λ h. h < length old) links i 0 below once.1 in
    addition_more old table (set table h row) p (amount_on (take i links) more) (λ e. if h == e then more else 0) (amount_on (take (i + 1) links) more) so
    (addition_one table h row p more (omega (arith, inside, so.count)) sums)
    (λ e. subst (λ k. amount_on (take k links) more e ≡ amount_on (take i links) more e + (if h == e then more else 0)) (sym (add-one i))
    (amount_on-more links more e i once.0 below))

-- one path more of a pair
pub path_added : (old table new : List (List PairShare)) (p : ℕ) (paths : List PathShare) (i : ℕ) → i < length paths → IsAddition old table p (weight_on (take i paths)) →
    IsAddition table new p (amount_on (get_or paths i no_path).links (get_or paths i no_path).weight) → IsAddition old new p (weight_on (take (i + 1) paths))
path_added old table new p paths i below so last =
    addition_more old table new p (weight_on (take i paths)) (amount_on (get_or paths i no_path).links (get_or paths i no_path).weight) (weight_on (take (i + 1) paths)) so last
    (λ e. sum_by_more (λ (s : PathShare). if has_number s.links e then s.weight else 0) paths i no_path below)

-- no link stands in a path twice
pub paths_once : (net : Network) (routes : List PairRoutes) (p : ℕ) → IsPathRouting net routes → p < length routes →
    All (λ s. AreLinksOnce (link_count net) s.links) (routes_at routes p).paths
paths_once net routes p routing below =
    let r = routes_at routes p in
    let split = All-get_or (IsPathSplit net) routes p no_routes below routing in
    All-weaker (λ s. IsTrue (is_path net r.pair.src r.pair.dst s.links)) (λ s. AreLinksOnce (link_count net) s.links)
    (λ s path. (path_links_once net r.pair.src r.pair.dst s.links path, path_links net r.pair.src r.pair.dst s.links path)) r.paths split.paths

-- one pair more of a routing
share_push : (xs : List PairRoutes) (r : PairRoutes) (q e : ℕ) → share (xs ++ r ∷ []) q e ≡ share xs q e + (if length xs == q then weight_on r.paths e else 0)
share_push xs r q e =
    elim (cases_lt q (length xs)) [
      | inl lt ↦
          let same : share (xs ++ r ∷ []) q e ≡ share xs q e = ap (λ (r : PairRoutes). weight_on r.paths e) (get_or_append_left xs (r ∷ []) no_routes q lt) in
          let out = ap (λ b. if b then weight_on r.paths e else 0) (ne_eqb (length xs) q (λ is. absurd (omega (arith, is, lt)))) in
          omega (arith, same, out)
      | inr ge ↦
          let none : share xs q e ≡ 0 = ap (λ (r : PairRoutes). weight_on r.paths e) (get_or_past xs q no_routes ge) in
          elim (cases_eq (length xs) q) [
            | inl is ↦
                let last : share (xs ++ r ∷ []) q e ≡ weight_on r.paths e = ap (λ (r : PairRoutes). weight_on r.paths e) (get_or_push xs r no_routes q is) in
                let in' = ap (λ b. if b then weight_on r.paths e else 0) (eq-eqb (length xs) q is) in
                omega (arith, none, last, in')
            | inr ne ↦
                let past : share (xs ++ r ∷ []) q e ≡ 0 =
                ap (λ (r : PairRoutes). weight_on r.paths e) (get_or_past (xs ++ r ∷ []) q no_routes (beyond q ge ne))
                in
                let out = ap (λ b. if b then weight_on r.paths e else 0) (ne_eqb (length xs) q ne) in
                omega (arith, none, past, out)
          ]
    ]
  where
    beyond : (q : ℕ) → length xs ≤ q → (length xs ≡ q → ⊥) → length (xs ++ r ∷ []) ≤ q
    beyond q ge ne =
        let count = length-append xs (r ∷ []) in
        elim (cases_lt (length xs) q) [
          | inl lt ↦ omega (arith, count, lt)
          | inr le ↦ absurd (ne (omega (arith, ge, le)))
        ]

-- the shares of the pairs before pair p and of this one
pub share_more : (routes : List PairRoutes) (p q e : ℕ) → p < length routes →
    share (take (p + 1) routes) q e ≡ share (take p routes) q e + (if p == q then weight_on (routes_at routes p).paths e else 0)
share_more routes p q e below =
    let more : share (take (p + 1) routes) q e ≡ share (take p routes ++ routes_at routes p ∷ []) q e =
    ap (λ (rs : List PairRoutes). share rs q e) (take_more routes p no_routes below)
    in
    let pushed = share_push (take p routes) (routes_at routes p) q e in
    let first = ap (λ n. if n == q then weight_on (routes_at routes p).paths e else 0) (length-take-le p routes (omega (arith, below))) in
    omega (arith, more, pushed, first)

-- what a path has not added yet to its next link
pub not_added : (old table : List (List PairShare)) (links : List ℕ) (p more i : ℕ) → AreLinksOnce (length old) links → i < length links →
    IsAddition old table p (amount_on (take i links) more) →
    share_in (shares_on table (slice_index links i)) p ≡ share_in (shares_on old (slice_index links i)) p
not_added old table links p more i once below so =
    let h = slice_index links i in
    let inside : h < length old = All-get_or (λ h. h < length old) links i 0 below once.1 in
    let none : (if p == p then amount_on (take i links) more h else 0) ≡ 0 = if_zero (p == p) (amount_on (take i links) more h) (amount_on-next links more i once.0 below) in
    omega (arith, so.each h p inside, none)

-- what its own pair gets
pub own_addition : (old new : List (List PairShare)) (p : ℕ) (more : ℕ → ℕ) (e : ℕ) → e < length old → IsAddition old new p more →
    share_in (shares_on new e) p ≡ share_in (shares_on old e) p + more e
own_addition old new p more e inside so =
    let own : (if p == p then more e else 0) ≡ more e = ap (λ (b : Bool). if b then more e else 0) (eq-eqb p p refl) in
    omega (arith, so.each e p inside, own)
