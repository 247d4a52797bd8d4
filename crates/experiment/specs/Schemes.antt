-- The table of schemes: what a plan's name of a scheme promises of its plans, routings and lower bounds (the schemes of YATES; Kumar
-- et al., 2018).
use Rattle.std.specs.Prelude.{◌≡◌, ℕ, Bool, List, Option, Some, None, ⊤}
use Rattle.te_model.specs.declared.network.Network.{Network}
use Rattle.te_model.specs.declared.route.Pair.{Pair}
use Rattle.te_model.specs.declared.route.PathShare.{PathShare}
use Rattle.te_model.specs.declared.route.PairRoutes.{PairRoutes}
use Rattle.te_model.specs.declared.bracket.Bracket.{Bracket}
use Rattle.scheme.specs.Adaptive.{AreGivenRates}
use Rattle.scheme.specs.Fixed.{IsRoutingBy, IsFixedRouting}
use Rattle.scheme.specs.Least.{IsLeastSplit}
use Rattle.scheme.specs.Low.{bracket_low}
use Rattle.scheme.specs.declared.spf.SpfPlan.{SpfPlan}
use Rattle.ecmp_split.specs.Rule.{IsMultipathSplit}
use Rattle.ecmp_split.specs.declared.ecmp.EcmpPlan.{EcmpPlan}
use Rattle.k_paths.specs.Even.{IsEvenSplit}
use Rattle.k_paths.specs.declared.ksp.KspPlan.{KspPlan}
use Rattle.mcf_lengths.specs.Flow.{IsBalanced, IsFlowPlan}
use Rattle.mcf_lengths.specs.declared.flow.McfPlan.{McfPlan}
use Rattle.racke_mix.specs.Racke.{IsRackePlan, IsRackeRouting}
use Rattle.racke_mix.specs.declared.racke.RackePlan.{RackePlan}
use Rattle.semi_oblivious.specs.Semi.{AreAdaptedRates, AreFixed, IsAdapted}
use Rattle.semi_oblivious.specs.declared.semi.SemiPlan.{SemiPlan}
use Rattle.valiant_mix.specs.Valiant.{IsValiantSplit}
use Rattle.valiant_mix.specs.declared.valiant.ValiantPlan.{ValiantPlan}
use Rattle.robust_routing.specs.Robust.{IsRobustPlan, most_ways, ways_of}
use Rattle.robust_routing.specs.declared.robust.RobustPlan.{RobustPlan}
use Rattle.failure.specs.declared.outage.Failures.{Failures}
use Rattle.traffic_matrix.specs.declared.traffic.Traffic.{Traffic}
use Rattle.plan.specs.declared.experiment.Experiment.{Experiment}
use Rattle.plan.specs.declared.recovery.Recovery.{Recovery}
use Rattle.plan.specs.declared.scheme_name.SchemeName.{SchemeName}
use Rattle.plan.specs.declared.scheme_name.SchemeName.TheVariants.{Spf, Ecmp, Ksp, Mcf, Racke, Smore, Valiant, Robust}
use Rattle.series_simulation.specs.declared.step_row.StepRow.{StepRow}
use Rattle.series_simulation.specs.Rows.{AreStepRows, IsStepRow}

-- the greatest number of paths of a pair, for each scheme: `robust`, `ksp`, `mcf` and `smore` may be asked for as many
abbrev pub spf_paths : ℕ
spf_paths = 1

abbrev pub ecmp_paths : ℕ
ecmp_paths = 1024

abbrev pub ksp_paths : ℕ
ksp_paths = most_ways

abbrev pub mcf_paths : ℕ
mcf_paths = most_ways

abbrev pub racke_paths : ℕ
racke_paths = 16

abbrev pub smore_paths : ℕ
smore_paths = most_ways

abbrev pub valiant_paths : ℕ
valiant_paths = 128

-- what a scheme promises: the greatest number of paths of a pair, of which network and pairs a plan is, how a plan, demands, a routing
-- and a note stand to one another, the lower bound that a note states, the routes that a plan keeps for every matrix, if it does, those over
-- the set of paths among which it chooses rates, if it does, and how such routes, demands, a routing over their paths and the lower bound of
-- every such routing, if it states one, stand to one another
pub record SchemeMeaning : Type 1 where
  pub Plan : Type 0
  pub Note : Type 0
  pub limit : ℕ
  pub is_plan : Network → List Pair → Plan → Type 0
  pub relates : Network → List Pair → Plan → List ℕ → List PairRoutes → Note → Type 0
  pub low : Note → Option ℕ
  pub fixed : Plan → Option (List PairRoutes)
  pub path_set : Plan → Option (List PairRoutes)
  pub adapts : Network → List PairRoutes → List ℕ → List PairRoutes → Option ℕ → Type 0

-- a scheme whose plan keeps one routing for all matrices: each pair's paths are what the rule says, and no bound is noted
abbrev pub rule_scheme : {Plan : Type 0} → (Plan → List PairRoutes) → ℕ → (Network → Pair → List PathShare → Type 0) → SchemeMeaning
rule_scheme {Plan} kept paths rule = record {
  Plan = Plan;
  Note = ⊤;
  limit = paths;
  is_plan = λ net pairs plan. IsRoutingBy rule paths net pairs (kept plan);
  relates = λ net pairs plan demand routes note. IsFixedRouting rule net (kept plan) routes;
  low = λ note. None;
  fixed = λ plan. Some (kept plan);
  path_set = λ plan. None;
  adapts = λ net given demand routes low. AreGivenRates given routes low;
}

-- multicommodity flow, whose plan keeps the pairs and their candidate paths, and which notes a bound of every routing (after Garg and
-- Könemann, 1998)
abbrev pub flow_scheme : SchemeMeaning
flow_scheme = record {
  Plan = McfPlan;
  Note = Bracket;
  limit = mcf_paths;
  is_plan = IsFlowPlan;
  relates = λ net pairs plan demand routes note. IsBalanced net pairs plan.candidates.routes demand routes note;
  low = bracket_low;
  fixed = λ plan. None;
  path_set = λ plan. None;
  adapts = λ net given demand routes low. AreGivenRates given routes low;
}

-- a mix of decomposition trees, whose plan keeps the rounds of the mix and the routing over their tree paths (Räcke, 2008)
abbrev pub racke_scheme : ℕ → ℕ → SchemeMeaning
racke_scheme trees seed = record {
  Plan = RackePlan;
  Note = ⊤;
  limit = racke_paths;
  is_plan = λ net pairs plan. IsRackePlan trees seed net pairs plan.rounds plan.routing.routes;
  relates = λ net pairs plan demand routes note. IsRackeRouting trees seed net plan.rounds plan.routing.routes routes;
  low = λ note. None;
  fixed = λ plan. Some plan.routing.routes;
  path_set = λ plan. None;
  adapts = λ net given demand routes low. AreGivenRates given routes low;
}

-- rates that adapt to each matrix, over the heaviest paths of a mix of decomposition trees, with a bound of every split over these
-- paths (SMORE; Kumar et al., 2018)
abbrev pub semi_scheme : ℕ → ℕ → ℕ → SchemeMeaning
semi_scheme trees seed budget = record {
  Plan = SemiPlan RackePlan;
  Note = Bracket;
  limit = smore_paths;
  is_plan = λ net pairs plan.
      IsRackePlan trees seed net pairs plan.base.rounds plan.base.routing.routes
      × AreFixed budget net pairs plan.base.routing.routes plan.fixed.routes;
  relates = λ net pairs plan demand routes note. IsAdapted net plan.fixed.routes demand routes note;
  low = bracket_low;
  fixed = λ plan. None;
  path_set = λ plan. Some plan.fixed.routes;
  adapts = λ net given demand routes low. AreAdaptedRates net given demand routes low;
}

-- a routing over at most so many paths a pair, found by sweeps and the same for every matrix: how small its ratio is, its certificate says
abbrev pub robust_scheme : ℕ → SchemeMeaning
robust_scheme ways = record {
  Plan = RobustPlan;
  Note = ⊤;
  limit = most_ways;
  is_plan = IsRobustPlan (ways_of ways);
  relates = λ net pairs plan demand routes note. routes ≡ plan.routing.routes;
  low = λ note. None;
  fixed = λ plan. Some plan.routing.routes;
  path_set = λ plan. None;
  adapts = λ net given demand routes low. AreGivenRates given routes low;
}

-- what the scheme of a name promises, with the plan's numbers
abbrev pub meaning_of : SchemeName → Experiment → SchemeMeaning
meaning_of Spf plan = rule_scheme (λ (p : SpfPlan). p.routing.routes) spf_paths IsLeastSplit
meaning_of Ecmp plan = rule_scheme (λ (p : EcmpPlan). p.routing.routes) ecmp_paths IsMultipathSplit
meaning_of Ksp plan = rule_scheme (λ (p : KspPlan). p.routing.routes) ksp_paths (IsEvenSplit plan.k)
meaning_of Mcf plan = flow_scheme
meaning_of Racke plan = racke_scheme plan.trees plan.seed
meaning_of Smore plan = semi_scheme plan.trees plan.seed plan.budget
meaning_of Valiant plan = rule_scheme (λ (p : ValiantPlan). p.routing.routes) valiant_paths IsValiantSplit
meaning_of Robust plan = robust_scheme plan.budget

-- the routes that a plan of the network and the pairs keeps for every matrix, which a scheme that adapts to the matrix does not
pub record IsKeptRouting (scheme : SchemeMeaning) (net : Network) (pairs : List Pair) (routes : List PairRoutes) : Type 0 where
  pub plan : scheme.Plan
  pub planned : scheme.is_plan net pairs plan
  pub kept : scheme.fixed plan ≡ Some routes

-- the routing of the network and the pairs that the scheme of this name keeps for every matrix, with the plan's numbers
abbrev pub IsSchemeRouting : SchemeName → Experiment → Network → List Pair → List PairRoutes → Type 0
IsSchemeRouting name plan net pairs routes = IsKeptRouting (meaning_of name plan) net pairs routes

-- the row of a step of a scheme by one of its plans, without predictions
abbrev pub IsRowBy : (scheme : SchemeMeaning) → Network → List Bool → List Pair → List ℕ → Recovery → scheme.Plan → StepRow → Type 0
IsRowBy scheme net failed pairs demand recovery plan row =
    IsStepRow scheme.limit scheme.is_plan scheme.relates scheme.low scheme.path_set scheme.adapts net failed pairs None demand recovery plan row

-- the rows of a scheme over traffic
abbrev pub AreRowsBy : SchemeMeaning → Network → Traffic → Failures → Experiment → List StepRow → Type 0
AreRowsBy scheme net traffic failures plan rows =
    AreStepRows scheme.limit scheme.is_plan scheme.relates scheme.low scheme.path_set scheme.adapts net traffic failures plan.recovery rows

-- the rows of the scheme of this name, with the plan's numbers and recovery
abbrev pub AreSchemeRows : SchemeName → Experiment → Network → Traffic → Failures → List StepRow → Type 0
AreSchemeRows name plan net traffic failures rows = AreRowsBy (meaning_of name plan) net traffic failures plan rows
