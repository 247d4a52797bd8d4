use Rattle.std.proofs.Common.{ℕ, List, length, ap, sym, ◌∙◌}
use Rattle.std.proofs.lemmas.Result.{IfOk-weaker}
use Rattle.series_simulation.specs.Connected.{connects, demands_of}
use Rattle.series_simulation.specs.StandingPaths.{has_some_path}
use Rattle.series_simulation.proofs.Demands.{demands_count}
use Rattle.series_simulation.proofs.adapted_rates.matrix_of_standing.Goals as goal

pub standing_matrix-requires : goal.standing_matrix-requires
standing_matrix-requires c =
    ap (λ (ds : List ℕ). length ds) c.in_ok-reached.ensures
    ∙ (demands_count (connects c.args.reach.now) c.args.pairs.now.list c.args.matrix.now.demand c.requires.demands ∙ sym c.requires.left)

pub returns : goal.returns
returns c =
    IfOk-weaker c.standing_matrix.result _ _ (λ m is. is ∙ ap (demands_of has_some_path c.args.left.now) c.in_ok-reached.ensures) c.standing_matrix.ensures
