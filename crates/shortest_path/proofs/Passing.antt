-- What a scan changes in a search by passes.
use Rattle.std.proofs.Common.{inl, inr, ◌≡◌, ℕ, suc, ◌+◌, ◌*◌, ◌<◌, ◌≤◌, List, Option, Some, None, length, arith, ap, sym, ◌∙◌, subst}
use Rattle.std.specs.List.{Contains}
use Rattle.std.proofs.Math.ListN.{set}
use Rattle.std.proofs.Math.Nat.{mul-le-mul_right}
use Rattle.std.proofs.lemmas.Bool.{cases_eq, cases_lt}
use Rattle.std.proofs.lemmas.List.{get_or-set_same, get_or-set_other, length-set}
use Rattle.std.proofs.lemmas.List.Elements.{All-contains}
use Rattle.te_model.proofs.Tests.{get_or_past}
use Rattle.shortest_path.specs.Graph.{Arc, IsRelaxed, AreSettledDistances, IsSmallGraph, NoFarther, AtMost, distance_at, HasArc, arcs_from}
use Rattle.shortest_path.specs.Passes.{IsPartSearch, NoneIsNearer}
use Rattle.shortest_path.proofs.Relaxing.{at_most-le, at_most-through, at_most-is, at_most-some}

-- nothing but the source is known, and no node is scanned yet
pub part_none : (graph : List (List Arc)) (s limit : ℕ) (none scans : List (Option ℕ)) → length none ≡ length graph → length scans ≡ length graph →
    ((v : ℕ) → v < length none → distance_at none v ≡ None) → ((v : ℕ) → v < length scans → distance_at scans v ≡ None) →
    s < length graph → IsPartSearch graph s limit 0 (set none s (Some 0)) scans
part_none graph s limit none scans count scan_count unknown fresh in' =
    let first = set none s (Some 0) in
    let same : distance_at first s ≡ Some 0 = get_or-set_same none s (Some 0) None (omega (arith, count, in')) in
    let other : (w : ℕ) → (w ≡ s → ⊥) → distance_at first w ≡ None = λ w ne. get_or-set_other none s w (Some 0) None ne ∙ none_at none unknown w in
    let only : (w d : ℕ) → distance_at first w ≡ Some d → (w ≡ s) × (d ≡ 0) = λ w d is. elim (cases_eq w s) [
      | inl e ↦ (e, let is_s : distance_at first s ≡ Some d = subst (λ v. distance_at first v ≡ Some d) e is in cc)
      | inr ne ↦ let nothing = other w ne in cc
    ]
    in
    record {
      count = length-set none s (Some 0) ∙ count;
      scan_count = scan_count;
      start = at_most-is (distance_at first s) 0 0 same (omega arith);
      reached = λ v d is. let o = only v d is in (0, (sym o.0, o.1));
      arcs = λ u v l x has at. let nothing = none_at scans fresh u in cc;
      bound = λ v d is. let o = only v d is in omega (arith, o.1);
    }
  where
    none_at : (all : List (Option ℕ)) → ((v : ℕ) → v < length all → distance_at all v ≡ None) → (w : ℕ) → distance_at all w ≡ None
    none_at all unknown_all w = elim (cases_lt w (length all)) [ inl lt ↦ unknown_all w lt | inr ge ↦ get_or_past all w None ge ]

-- a node more is scanned
pub part_more : (graph : List (List Arc)) (s limit n : ℕ) (distances scans : List (Option ℕ)) (u x : ℕ) (new : List (Option ℕ)) →
    IsPartSearch graph s limit n distances scans → IsSmallGraph graph (length graph) limit → distance_at distances u ≡ Some x → u < length graph →
    IsRelaxed (arcs_from graph u) x distances new → IsPartSearch graph s limit (n + 1) new (set scans u (Some x))
part_more graph s limit n distances scans u x new part small at in' r =
    let next = set scans u (Some x) in
    let same : distance_at next u ≡ Some x = get_or-set_same scans u (Some x) None (omega (arith, in', part.scan_count)) in
    let other : (w : ℕ) → (w ≡ u → ⊥) → distance_at next w ≡ distance_at scans w = λ w ne. get_or-set_other scans u w (Some x) None ne in
    let more : (n + 1) * limit ≡ n * limit + limit = omega arith in
    let short : (v l : ℕ) → Contains (arcs_from graph u) (record { to = v; length = l }) → l ≤ limit =
    λ v l has. All-contains (λ a. a.length ≤ limit) (arcs_from graph u) (record { to = v; length = l }) (small.lengths u) has
    in
    record {
      count = r.count ∙ part.count;
      scan_count = length-set scans u (Some x) ∙ part.scan_count;
      start = at_most-through (distance_at new s) (distance_at distances s) 0 (r.lower s) part.start;
      reached = λ v d is. elim (r.changed v) [
        | inl was ↦ part.reached v d (sym was ∙ is)
        | inr (l, has, e) ↦
            let (k, trail) = part.reached u x at in
            let sum : d ≡ x + l = cc in
            (suc k, (u, l, x, trail, has, sum))
      ];
      arcs = λ w v l y has is. elim (cases_eq w u) [
        | inl e ↦
            let is_x : y ≡ x = cc (same, ap (distance_at next) e, is) in
            let has_u : HasArc graph u v l = subst (λ k. HasArc graph k v l) e has in
            subst (λ k. AtMost (distance_at new v) (k + l)) (sym is_x) (r.arcs v l has_u)
        | inr ne ↦ at_most-through (distance_at new v) (distance_at distances v) (y + l) (r.lower v) (part.arcs w v l y has (sym (other w ne) ∙ is))
      ];
      bound = λ v d is. elim (r.changed v) [
        | inl was ↦ omega (arith, part.bound v d (sym was ∙ is), more)
        | inr (l, has, e) ↦ let sum : d ≡ x + l = cc in omega (arith, part.bound u x at, more, short v l has)
      ];
    }

pub part_weaker : (graph : List (List Arc)) (s limit n m : ℕ) (distances scans : List (Option ℕ)) → n ≤ m →
    IsPartSearch graph s limit n distances scans → IsPartSearch graph s limit m distances scans
part_weaker graph s limit n m distances scans le part = record {
  count = part.count;
  scan_count = part.scan_count;
  start = part.start;
  reached = part.reached;
  arcs = part.arcs;
  bound = λ v d is. omega (arith, part.bound v d is, mul-le-mul_right limit le);
}

-- where none is nearer than at its last scan, the search is at its end
pub part_settled : (graph : List (List Arc)) (s limit n : ℕ) (distances scans : List (Option ℕ)) →
    IsPartSearch graph s limit n distances scans → NoneIsNearer (length distances) distances scans → AreSettledDistances graph s distances
part_settled graph s limit n distances scans part none = record {
  start = part.start;
  reached = part.reached;
  arcs = λ u v l x has at.
      let near : NoFarther (distance_at scans u) (Some x) = subst (NoFarther (distance_at scans u)) at (none u (inside u x at)) in
      let (y, is, le) = at_most-some (distance_at scans u) x near in
      at_most-le (distance_at distances v) (y + l) (x + l) (omega (arith, le)) (part.arcs u v l y has is);
}
  where
    inside : (v d : ℕ) → distance_at distances v ≡ Some d → v < length distances
    inside v d is = elim (cases_lt v (length distances)) [
      | inl lt ↦ lt
      | inr ge ↦ let past : distance_at distances v ≡ None = get_or_past distances v None ge in cc
    ]
