-- The summary of a drawn network: what is published on it, judged and simulated.
use Rattle.std.specs.Prelude.{◌≡◌, ℕ, List, length, sum_by}
use Rattle.te_model.specs.declared.network.Network.{Network}
use Rattle.te_model.specs.declared.route.Pair.{Pair}
use Rattle.te_model.specs.declared.route.PairRoutes.{PairRoutes}
use Rattle.te_model.specs.declared.demand.DemandSet.TheVariants.{All}
use Rattle.te_model.specs.Network.{link_count, node_count}
use Rattle.te_model.specs.Ratio.{IsObliviousRatio}
use Rattle.random_network.specs.Drawn.{network_of}
use Rattle.failure.specs.Series.{no_failures}
use Rattle.traffic_matrix.specs.declared.traffic.Traffic.{Traffic}
use Rattle.traffic_matrix.specs.Traffic.{known_traffic}
use Rattle.traffic_matrix.specs.Gravity.{every_pair, gravity_of}
use Rattle.plan.specs.declared.recovery.Recovery.TheVariants.{Keep}
use Rattle.path_budget.specs.Budget.{trimmed_routes}
use Rattle.racke_mix.specs.declared.round.Round.{Round}
use Rattle.racke_mix.specs.Racke.{IsRackePlan}
use Rattle.ratio_checker.specs.declared.finding.Finding.{Finding}
use Rattle.ratio_checker.specs.declared.finding.Finding.TheVariants.{Yes}
use Rattle.scheme.specs.Least.{IsLeastSplit}
use Rattle.scheme.specs.declared.spf.SpfPlan.{SpfPlan}
use Rattle.series_simulation.specs.declared.step_row.StepRow.{StepRow}
use Rattle.series_simulation.specs.Rows.{AreStepRows}
use Rattle.experiment.specs.Published.{IsMadeFile}
use Rattle.experiment.specs.Schemes.{SchemeMeaning, rule_scheme, spf_paths}
use Rattle.generation.specs.Text.{summary_lines}

-- the file of a certificate, for all matrices, that is made of the routing over four trees of the seed, of which each pair keeps the 32
-- heaviest paths
pub record IsDrawnFile (seed : ℕ) (net : Network) (pairs : List Pair) (file : List ℕ) : Type 0 where
  pub rounds : List Round
  pub routes : List PairRoutes
  pub mix : IsRackePlan 4 seed net pairs rounds routes
  pub made : IsMadeFile net (trimmed_routes 32 routes) All file

-- least paths by cost
abbrev pub least_paths : SchemeMeaning
least_paths = rule_scheme (λ (p : SpfPlan). p.routing.routes) spf_paths IsLeastSplit

-- the rows of least paths over the matrices, in which no link fails
abbrev pub AreLeastRows : Network → Traffic → List StepRow → Type 0
AreLeastRows net traffic rows =
    AreStepRows least_paths.limit least_paths.is_plan least_paths.relates least_paths.low least_paths.path_set least_paths.adapts net traffic no_failures Keep rows

-- the rows of least paths over three drawn matrices
abbrev pub AreDrawnRows : ℕ → ℕ → List StepRow → Type 0
AreDrawnRows n seed rows = AreLeastRows (network_of n seed) (known_traffic (gravity_of n seed 3)) rows

-- the ratio of the certificate in a drawn file, to which the verdict is yes
pub record IsJudgedDraw (seed : ℕ) (net : Network) (pairs : List Pair) (ratio : ℕ) (finding : Finding) : Type 0 where
  pub file : List ℕ
  pub published : IsDrawnFile seed net pairs file
  pub ratio_is : ratio ≡ published.made.certificate.head.ratio
  pub yes : finding ≡ Yes

-- the sums over the rows of least paths
pub record IsTotal (net : Network) (traffic : Traffic) (offered delivered : ℕ) : Type 0 where
  pub rows : List StepRow
  pub driven : AreLeastRows net traffic rows
  pub offered_is : offered ≡ sum_by (λ (row : StepRow). row.result.offered) rows
  pub delivered_is : delivered ≡ sum_by (λ (row : StepRow). row.result.delivered) rows

-- the lines of the network, of all pairs of two nodes, of a ratio to which the verdict is yes, and of the sums over the rows
abbrev pub summary_text : Network → ℕ → ℕ → List StepRow → List ℕ
summary_text net pairs ratio rows = summary_lines (record {
  nodes = node_count net;
  links = link_count net;
  pairs = pairs;
  ratio = ratio;
  finding = Yes;
  offered = sum_by (λ (row : StepRow). row.result.offered) rows;
  delivered = sum_by (λ (row : StepRow). row.result.delivered) rows;
})

-- the seven lines of a certificate that was made of the drawn network, and of the rows of least paths
pub record IsSummary (n seed : ℕ) (text : List ℕ) : Type 0 where
  pub file : List ℕ
  pub published : IsDrawnFile seed (network_of n seed) (every_pair n) file
  pub rows : List StepRow
  pub driven : AreDrawnRows n seed rows
  pub text_is : text ≡ summary_text (network_of n seed) (length (every_pair n)) published.made.certificate.head.ratio rows

-- the ratio in the lines is an oblivious ratio, for all matrices, of the routing that was drawn
pub record ProvesRatio (n seed : ℕ) (text : List ℕ) : Type 0 where
  pub summary : IsSummary n seed text
  pub ratio : IsObliviousRatio (network_of n seed) (trimmed_routes 32 summary.published.routes) All summary.published.made.certificate.head.ratio
