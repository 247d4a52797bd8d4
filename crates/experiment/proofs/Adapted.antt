-- The rates that `smore` chooses anew are no worse than those of its fixed paths, scaled to the paths that stand.
use Rattle.std.proofs.Common.{Bool, Some, None, arith, subst, if◌then◌else◌}
use Rattle.std.specs.Prelude.{MatchOption}
use Rattle.series_simulation.specs.Rows.{IsAdaptedOn, IsRouted}
use Rattle.experiment.specs.Laws.{AdaptedIsNoGreaterThanScaled}
use Rattle.experiment.specs.Schemes.{semi_scheme}

pub adapted_is_no_greater_than_scaled : AdaptedIsNoGreaterThanScaled
adapted_is_no_greater_than_scaled trees seed budget net failed pairs demand plan row some (rates, is) =
    let scheme = semi_scheme trees seed budget in
    let routed = subst
    (λ (b : Bool). MatchOption (if b then Some plan.fixed.routes else None)
    (IsRouted scheme.limit scheme.is_plan scheme.relates scheme.low net pairs None demand plan is.routes row.parts row.low)
    (λ paths. IsAdaptedOn scheme.limit scheme.is_plan scheme.relates scheme.low scheme.path_set scheme.adapts net failed pairs None demand plan paths is.routes row.parts row.low))
    some is.routed
    in
    (routed.has_path, routed.tells, omega (arith, routed.most_is, routed.adapted.1.no_greater))
