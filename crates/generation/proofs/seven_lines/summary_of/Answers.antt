use Rattle.std.proofs.Common.{◌≡◌, ℕ, ap, ◌∙◌}
use Rattle.traffic_matrix.specs.Traffic.{known_traffic}
use Rattle.std.proofs.lemmas.Result.{IfOk-weaker}
use Rattle.random_network.specs.Drawn.{network_of}
use Rattle.generation.specs.Summary.{IsSummary}
use Rattle.generation.proofs.seven_lines.summary_of.Goals as goal

pub returns : goal.returns
returns c =
    IfOk-weaker c.summary_over.result _ (λ text. (n : ℕ) → c.args.network.now ≡ network_of n c.args.seed → IsSummary n c.args.seed text.items)
    (λ text is n drawn. is n drawn (c.known-traffic.ensures ∙ ap known_traffic c.in_ok-series.ensures.series)) c.summary_over.ensures
