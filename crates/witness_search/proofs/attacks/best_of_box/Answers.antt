use Rattle.std.proofs.Common.{◌≡◌, ◌∙◌, ◌++◌, List, ap, sym}
use Rattle.witness_search.specs.declared.attempt.Tried.{Tried}
use Rattle.witness_search.specs.Attempts.{CanTry, RoutesBy, pairs_of}
use Rattle.witness_search.specs.Candidates.{as_list, bounds_tried, tried_of}
use Rattle.witness_search.proofs.BestOfFew.{few_best, if_tried}
use Rattle.witness_search.proofs.TriedMatrices.{can_lower, can_upper}
use Rattle.witness_search.proofs.attacks.best_of_box.Goals as goal

pub attempt_if_some-requires-clause-tried : goal.attempt_if_some-requires-clause-tried
attempt_if_some-requires-clause-tried g c =
    let h = c.args.head.now in
    let lower = c.args.lower.now in
    if_tried (CanTry h) c.in_ok-low.low (bounds_tried 0 lower) c.in_ok-low.ensures (can_lower h 0 lower c.args.upper.now c.requires.head c.requires.bounds)

pub attempt_if_some-requires-2-clause-tried : goal.attempt_if_some-requires-2-clause-tried
attempt_if_some-requires-2-clause-tried g c =
    let h = c.args.head.now in
    let upper = c.args.upper.now in
    if_tried (CanTry h) c.in_ok-high.high (bounds_tried 1 upper) c.in_ok-high.ensures (can_upper h 1 c.args.lower.now upper c.requires.head c.requires.bounds)

pub returns : goal.returns
returns g c =
    let h = c.args.head.now in
    let Routes = RoutesBy (g.S.Scheme.relates c.args.rival.now h.network (pairs_of h) c.args.plan.now) in
    let all : tried_of h h.set ≡ as_list c.in_ok-low.low ++ as_list c.in_ok-high.high =
    ap (tried_of h) c.requires.bounds ∙ ap (λ (ts : List Tried). ts ++ bounds_tried 1 c.args.upper.now) (sym c.in_ok-low.ensures)
    ∙ ap (λ (ts : List Tried). as_list c.in_ok-low.low ++ ts) (sym c.in_ok-high.ensures)
    in
    few_best h Routes c.in_ok-low.low c.in_ok-high.high c.in_ok-first.first c.in_ok-second.second c.better_of_two.result all c.in_ok-first.ensures c.in_ok-second.ensures
    c.better_of_two.ensures
