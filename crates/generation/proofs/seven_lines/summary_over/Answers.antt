use Rattle.std.proofs.Common.{◌≡◌, ℕ, ap, List, length}
use Rattle.std.proofs.lemmas.Result.{IfOk-weaker}
use Rattle.te_model.specs.declared.network.Link.{Link}
use Rattle.te_model.specs.declared.route.Pair.{Pair}
use Rattle.te_model.specs.Network.{node_count}
use Rattle.random_network.specs.Drawn.{network_of}
use Rattle.traffic_matrix.specs.Gravity.{gravity_of}
use Rattle.traffic_matrix.specs.Traffic.{known_traffic}
use Rattle.series_simulation.proofs.SeriesLemmas.{series_pairs}
use Rattle.generation.specs.Summary.{IsSummary}
use Rattle.generation.proofs.Summing.{summed}
use Rattle.generation.proofs.seven_lines.summary_over.Goals as goal

pub ratio_and_finding-requires-clause-pairs : goal.ratio_and_finding-requires-clause-pairs
ratio_and_finding-requires-clause-pairs c = series_pairs c.args.network.now c.args.traffic.now.sent c.requires.network c.requires.traffic.sent

pub returns : goal.returns
returns c =
    let net = c.args.network.now in
    let traffic = c.args.traffic.now in
    let seed = c.args.seed in
    IfOk-weaker c.print_lines.result _
    (λ text. (n : ℕ) → net ≡ network_of n seed → traffic ≡ known_traffic (gravity_of (node_count net) seed 3) → IsSummary n seed text.items)
    (λ text lines n drawn of_gravity. summed n seed net traffic drawn of_gravity _ _
    c.in_ok-ratio.ensures c.in_ok-offered.ensures (ap (λ (names : List (List ℕ)). length names) c.as_slice.ensures)
    (ap (λ (links : List Link). length links) c.as_slice-2.ensures) (ap (λ (pairs : List Pair). length pairs) c.as_slice-3.ensures) lines)
    c.print_lines.ensures
