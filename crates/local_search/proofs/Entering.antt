-- Tables of pairs that grow link by link, path by path and pair by pair.
use Rattle.std.proofs.Common.{◌≡◌, ℕ, ◌+◌, ◌<◌, ◌≤◌, Bool, true, false, ◌&&◌, ◌||◌, List, [], length, take, arith, refl, ap, sym, ◌∙◌, inl, inr, slice_index, ◌==◌, All}
use Rattle.std.proofs.Math.ListN.{set}
use Rattle.std.proofs.lemmas.Bool.{cases_eq, cases_lt, eq-eqb, ne_eqb}
use Rattle.std.proofs.lemmas.List.{get_or_past, get_or-set_same, get_or-set_other, length-set}
use Rattle.std.proofs.lemmas.List.Elements.{All-get_or, All-weaker}
use Rattle.std.proofs.lemmas.List.Folds.{list_any_more, list_any_none}
use Rattle.te_model.specs.declared.network.Network.{Network}
use Rattle.te_model.specs.declared.route.PairRoutes.{PairRoutes}
use Rattle.te_model.specs.Network.{link_count}
use Rattle.te_model.specs.Path.{has_number, is_path, no_routes, routes_at}
use Rattle.te_model.specs.PathRouting.{IsPathRouting, IsPathSplit}
use Rattle.te_model.proofs.Chains.{path_links}
use Rattle.local_search.specs.Pairs.{ArePairsOn, HaveLinksBelow, IsPairEntered, IsPairList, holds, pairs_on, some_holds}

-- a list of pairs below n has no other
pub none_past : (list : List ℕ) (n q : ℕ) → All (λ p. p < n) list → n ≤ q → has_number list q ≡ false
none_past list n q below past =
    list_any_none (λ p. p == q) list (All-weaker (λ p. p < n) (λ p. (p == q) ≡ false) (λ p lt. ne_eqb p q (λ is. absurd (omega (arith, is, lt, past)))) list below)

pub list_weaker : (n : ℕ) (list : List ℕ) → IsPairList n list → IsPairList (n + 1) list
list_weaker n list is = record {
  ascending = is.ascending;
  below = All-weaker (λ p. p < n) (λ p. p < n + 1) (λ p lt. omega (arith, lt)) list is.below;
}

-- an entry at one link
entry_one : (table : List (List ℕ)) (h : ℕ) (row : List ℕ) (p : ℕ) → h < length table →
    ((q : ℕ) → has_number row q ≡ (has_number (pairs_on table h) q || p == q)) → IsPairEntered table (set table h row) p (λ e. h == e)
entry_one table h row p inside entered = record {
  count = length-set table h row;
  each = λ e q below. elim (cases_eq e h) [
    | inl same ↦
        let here : pairs_on (set table h row) e ≡ row = ap (pairs_on (set table h row)) same ∙ get_or-set_same table h row [] inside in
        ap (λ (r : List ℕ). has_number r q) here ∙ entered q ∙ ap (λ n. has_number (pairs_on table n) q || p == q) (sym same)
        ∙ ap (λ b. has_number (pairs_on table e) q || b) (keep (p == q) (h == e) (eq-eqb h e (sym same)))
    | inr ne ↦
        let there : pairs_on (set table h row) e ≡ pairs_on table e = get_or-set_other table h e row [] ne in
        ap (λ (r : List ℕ). has_number r q) there ∙ same (has_number (pairs_on table e) q) (p == q) (h == e) (ne_eqb h e (λ is. ne (sym is)))
  ];
}
  where
    keep : (a b : Bool) → b ≡ true → a ≡ (a && b)
    keep true b is = sym is
    keep false b is = refl

    same : (a b c : Bool) → c ≡ false → a ≡ (a || (b && c))
    same true b c is = refl
    same false true c is = sym is
    same false false c is = refl

-- two entries of one pair
entry_more : (old middle new : List (List ℕ)) (p : ℕ) (f g both : ℕ → Bool) → IsPairEntered old middle p f → IsPairEntered middle new p g →
    ((e : ℕ) → both e ≡ (f e || g e)) → IsPairEntered old new p both
entry_more old middle new p f g both first second is = record {
  count = second.count ∙ first.count;
  each = λ e q below.
      second.each e q (omega (arith, below, first.count)) ∙ ap (λ b. b || (p == q && g e)) (first.each e q below)
      ∙ joined (has_number (pairs_on old e) q) (p == q) (f e) (g e) ∙ ap (λ b. has_number (pairs_on old e) q || (p == q && b)) (sym (is e));
}
  where
    joined : (o b x y : Bool) → ((o || (b && x)) || (b && y)) ≡ (o || (b && (x || y)))
    joined true b x y = refl
    joined false true x y = refl
    joined false false x y = refl

-- one link more of a path
pub link_entered : (old table : List (List ℕ)) (links row : List ℕ) (p i : ℕ) → All (λ h. h < length old) links → i < length links →
    IsPairEntered old table p (has_number (take i links)) → ((q : ℕ) → has_number row q ≡ (has_number (pairs_on table (slice_index links i)) q || p == q)) →
    IsPairEntered old (set table (slice_index links i) row) p (has_number (take (i + 1) links))
link_entered old table links row p i all below so entered =
    let h = slice_index links i in
    let inside : h < length old = All-get_or (λ h. h < length old) links i 0 below all in
    entry_more old table (set table h row) p (has_number (take i links)) (λ e. h == e) (has_number (take (i + 1) links)) so
    (entry_one table h row p (omega (arith, inside, so.count)) entered)
    (λ e. list_any_more (λ k. k == e) links i 0 below)

-- the paths of a routing go over links of the network
pub links_inside : (net : Network) (routes : List PairRoutes) → IsPathRouting net routes → All (λ r. HaveLinksBelow (link_count net) r.paths) routes
links_inside net routes routing =
    All-weaker (IsPathSplit net) (λ r. HaveLinksBelow (link_count net) r.paths)
    (λ r split. All-weaker (λ s. is_path net r.pair.src r.pair.dst s.links ≡ true) (λ s. All (λ h. h < link_count net) s.links)
    (λ s path. path_links net r.pair.src r.pair.dst s.links path) r.paths split.paths) routes routing

-- each list of the table may have one pair more
pub lists_weaker : (n : ℕ) (table : List (List ℕ)) → All (IsPairList n) table → All (IsPairList (n + 1)) table
lists_weaker n table all = All-weaker (IsPairList n) (IsPairList (n + 1)) (list_weaker n) table all

-- the pairs before pair p and this one, of which the links of both routings are entered
pub pair_entered : (old middle new : List (List ℕ)) (routes others : List PairRoutes) (p e q : ℕ) → All (IsPairList p) old → e < length old → q < p + 1 →
    IsPairEntered old middle p (some_holds (routes_at routes p).paths) → IsPairEntered middle new p (some_holds (routes_at others p).paths) →
    (q < p → has_number (pairs_on old e) q ≡ (holds routes q e || holds others q e)) →
    has_number (pairs_on new e) q ≡ (holds routes q e || holds others q e)
pair_entered old middle new routes others p e q order inside below first second before =
    let own = some_holds (routes_at routes p).paths in
    let theirs = some_holds (routes_at others p).paths in
    let both = (entry_more old middle new p own theirs (λ h. own h || theirs h) first second (λ h. refl)).each e q inside in
    elim (cases_eq p q) [
      | inl is ↦
          let none = none_past (pairs_on old e) p q (All-get_or (IsPairList p) old e [] inside order).below (omega (arith, is)) in
          both ∙ ap (λ b. b || (p == q && (own e || theirs e))) none ∙ ap (λ b. false || (b && (own e || theirs e))) (eq-eqb p q is)
          ∙ ap (λ n. holds routes n e || holds others n e) is
      | inr ne ↦
          both ∙ ap (λ b. has_number (pairs_on old e) q || (b && (own e || theirs e))) (ne_eqb p q ne) ∙ past (has_number (pairs_on old e) q)
          ∙ before (omega (arith, below, ne))
    ]
  where
    past : (a : Bool) → (a || false) ≡ a
    past true = refl
    past false = refl

-- all pairs are entered
pub all_entered : (routes others : List PairRoutes) (list : List ℕ) (e : ℕ) → length others ≡ length routes → IsPairList (length routes) list →
    ((q : ℕ) → q < length routes → has_number list q ≡ (holds routes q e || holds others q e)) → ArePairsOn routes others e list
all_entered routes others list e count order each = record {
  ascending = order.ascending;
  exact = λ q. elim (cases_lt q (length routes)) [
    | inl lt ↦ each q lt
    | inr ge ↦
        let own : holds routes q e ≡ false = ap (λ (r : PairRoutes). some_holds r.paths e) (get_or_past routes q no_routes ge) in
        let theirs : holds others q e ≡ false = ap (λ (r : PairRoutes). some_holds r.paths e) (get_or_past others q no_routes (omega (arith, ge, count))) in
        none_past list (length routes) q order.below ge ∙ sym (ap (λ b. b || holds others q e) own ∙ theirs)
  ];
}
