-- Pairs entered for the paths at the start and the candidates are all that ever hold a link.
use Rattle.std.proofs.Common.{inl, inr, ◌≡◌, ℕ, ◌<◌, true, ◌||◌, List, length, arith, ap, sym, ◌∙◌}
use Rattle.std.proofs.lemmas.Bool.{cases_lt, false≢true, or_cases, or_left, or_right}
use Rattle.std.proofs.lemmas.List.{get_or_past, get_or_read}
use Rattle.std.proofs.lemmas.List.Folds.{Any-from_list_any, list_any_at}
use Rattle.te_model.specs.declared.route.PathShare.{PathShare}
use Rattle.te_model.specs.declared.route.PairRoutes.{PairRoutes}
use Rattle.te_model.specs.Path.{has_number, no_routes, routes_at}
use Rattle.te_model.proofs.Amounts.{all_of_numbers}
use Rattle.routing.specs.Merge.{HasLinks, links_at, no_path}
use Rattle.local_search.specs.Moves.{UsesOnly}
use Rattle.local_search.specs.Pairs.{ArePairsOnLinks, HaveHolders, holds, pairs_on, some_holds}

-- a pair that holds the link is a pair of the routing
holder_inside : (routes : List PairRoutes) (p e : ℕ) → holds routes p e ≡ true → p < length routes
holder_inside routes p e is = elim (cases_lt p (length routes)) [
  | inl lt ↦ lt
  | inr ge ↦ absurd (false≢true (sym (ap (λ (r : PairRoutes). some_holds r.paths e) (get_or_past routes p no_routes ge)) ∙ is))
]

-- links of one of the paths
holds_links : (paths : List PathShare) (links : List ℕ) (e : ℕ) → HasLinks paths links → has_number links e ≡ true → some_holds paths e ≡ true
holds_links paths links e (k, below, at) is =
    list_any_at (λ s. has_number s.links e) paths k no_path below (ap (λ l. has_number l e) at ∙ is)

-- where all paths are paths of before or candidates, so is one that holds the link
holds_before : (before candidates routes : List PairRoutes) (p e : ℕ) → UsesOnly before candidates routes → holds routes p e ≡ true →
    (holds before p e || holds candidates p e) ≡ true
holds_before before candidates routes p e only is =
    let paths = (routes_at routes p).paths in
    let (k, s, below, at, holds_it) = Any-from_list_any (λ s. has_number s.links e) paths is in
    let links : links_at paths k ≡ s.links = ap (λ (s : PathShare). s.links) (sym (get_or_read paths k s below (sym at) no_path)) in
    elim (only p s.links (k, below, links)) [
      | inl old ↦ or_left (holds before p e) (holds candidates p e) (holds_links (routes_at before p).paths s.links e old holds_it)
      | inr new ↦ or_right (holds before p e) (holds candidates p e) (holds_links (routes_at candidates p).paths s.links e new holds_it)
    ]

pub holders_stay : (n : ℕ) (before candidates routes : List PairRoutes) (table : List (List ℕ)) → ArePairsOnLinks n before candidates table →
    UsesOnly before candidates routes → length routes ≡ length before → length candidates ≡ length before → HaveHolders n routes table
holders_stay n before candidates routes table are only count others = record {
  count = are.count;
  each = λ e below.
      let on = are.each e below in
      record {
        inside = all_of_numbers (λ p. p < length routes) (pairs_on table e) (λ p has.
            elim (or_cases (holds before p e) (holds candidates p e) (sym (on.exact p) ∙ has)) [
              | inl own ↦ omega (arith, holder_inside before p e own, count)
              | inr theirs ↦ omega (arith, holder_inside candidates p e theirs, count, others)
            ]);
        holders = λ p is. on.exact p ∙ holds_before before candidates routes p e only is;
      };
}
