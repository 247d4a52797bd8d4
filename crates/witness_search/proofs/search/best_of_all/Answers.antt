use Rattle.std.proofs.Common.{◌<◌, ℕ, List, arith, ap, length, subst, sym, slice_index}
use Rattle.std.specs.Prelude.{min, sum_by}
use Rattle.std.proofs.lemmas.List.Sums.{sum_by-set}
use Rattle.witness_search.specs.declared.attempt.Tried.{Tried}
use Rattle.witness_search.specs.Attempts.{CanTry, IsAttempt, IsBestSoFar, RoutesBy, pairs_of}
use Rattle.witness_search.specs.Candidates.{direct_capacities, IsUpToAt}
use Rattle.witness_search.proofs.BestSoFar.{so_far_all, so_far_first, so_far_more}
use Rattle.witness_search.proofs.LinkSums.{head_links_small}
use Rattle.witness_search.proofs.TriedMatrices.{can_direct}
use Rattle.witness_search.proofs.search.best_of_all.Goals as goal

pub direct_capacities-requires : goal.direct_capacities-requires
direct_capacities-requires g c = head_links_small c.args.head.now c.requires.head

pub attempt_of-requires-clause-tried : goal.attempt_of-requires-clause-tried
attempt_of-requires-clause-tried g c = let h = c.args.head.now in subst (λ (t : Tried). CanTry h t) (sym c.in_ok-first.ensures) (can_direct h)

pub loop-p-init : goal.loop-p-init
loop-p-init g c =
    let h = c.args.head.now in
    let Routes = RoutesBy (g.S.Scheme.relates c.args.rival.now h.network (pairs_of h) c.args.plan.now) in (
      direct_capacities h,
      so_far_first h Routes c.in_ok-limits.limits.items c.in_ok-best.best c.in_ok-limits.ensures
          (subst (λ (t : Tried). IsAttempt h Routes t c.in_ok-best.best) c.in_ok-first.ensures c.in_ok-best.ensures),
    )

pub better_with-requires-clause-pair : goal.better_with-requires-clause-pair
better_with-requires-clause-pair g c =
    let count = c.loop-p.invariant.1.count in
    let items = ap length c.as_slice.ensures.value in
    let inside = c.in-Some.ensures.pair.0 in
    omega (arith, count, items, inside)

pub clear-requires : goal.clear-requires
clear-requires g c =
    let items = ap length c.as_slice.ensures.value in
    let inside = c.in-Some.ensures.pair.0 in
    omega (arith, items, inside)

pub loop-p-smaller : goal.loop-p-smaller
loop-p-smaller g c =
    let limits = c.loop-p.limits.items in
    let items = ap length c.as_slice.ensures.value in
    let inside = c.in-Some.ensures.pair.0 in
    let some : 0 < slice_index limits c.in-Some.p = subst (λ (ls : List ℕ). 0 < slice_index ls c.in-Some.p) c.as_slice.ensures.value c.in-Some.ensures.pair.1 in
    let less = sum_by-set (λ x. min x 1) limits c.in-Some.p 0 0 (omega (arith, items, inside)) in
    let cleared = ap (sum_by (λ x. min x 1)) c.clear.ensures in
    omega (arith, some, less, cleared)

pub loop-p-preserved : goal.loop-p-preserved
loop-p-preserved g c =
    let h = c.args.head.now in
    let Routes = RoutesBy (g.S.Scheme.relates c.args.rival.now h.network (pairs_of h) c.args.plan.now) in
    let step = c.in_ok-best-2.ensures in
    let was = c.loop-p.invariant in
    let count = was.1.count in
    let items = ap length c.as_slice.ensures.value in
    let inside = c.in-Some.ensures.pair.0 in
    let more = so_far_more h Routes c.loop-p.limits.items c.loop-p.best step.0 c.in_ok-best-2.best was.0 c.in-Some.p (omega (arith, count, items, inside)) was.1 step.1 step.2 in
    (more.0, subst (λ (limits : List ℕ). IsBestSoFar h Routes limits c.in_ok-best-2.best more.0) (sym c.clear.ensures) more.1)

pub returns : goal.returns
returns g c =
    let h = c.args.head.now in
    let best = c.loop-p.best in
    let Routes = RoutesBy (g.S.Scheme.relates c.args.rival.now h.network (pairs_of h) c.args.plan.now) in
    let was = c.loop-p.invariant in
    so_far_all h Routes c.loop-p.limits.items best was.0 c.requires.all was.1
    (subst (λ (ls : List ℕ). (k : ℕ) → k < length ls → IsUpToAt k best.place (slice_index ls k) best.ratio) c.as_slice.ensures.value c.in_default.ensures.none)
