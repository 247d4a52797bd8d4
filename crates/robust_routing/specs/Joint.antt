-- Where the sweeps stand.
use Rattle.std.specs.Prelude.{◌≡◌, ℕ, ◌<◌, ◌≤◌, All, IsTrue, List, length}
use Rattle.te_model.specs.declared.network.Network.{Network}
use Rattle.te_model.specs.declared.route.Pair.{Pair}
use Rattle.te_model.specs.declared.route.Path.{Path}
use Rattle.te_model.specs.Network.{is_well_formed}
use Rattle.te_model.specs.Path.{is_path}
use Rattle.shortest_path.specs.declared.rows.Direction.TheVariants.{Backward, Forward}
use Rattle.shortest_path.specs.Links.{every_link}
use Rattle.shortest_path.specs.Rows.{IsSearchGraph}
use Rattle.routing.specs.Routes.{IsRoutingOf, HasFewPaths}
use Rattle.scheme.specs.Reach.{IsPairOf, pair_at}
use Rattle.robust_routing.specs.declared.joint.Joint.{Joint}
use Rattle.robust_routing.specs.declared.round.Round.{Round}
use Rattle.robust_routing.specs.Rates.{PathsWithRates, rates_at}
use Rattle.robust_routing.specs.Sweep.{IsSweep}
use Rattle.robust_routing.specs.Weights.{AreWeightsOfLinks}

-- paths of the pair, at least one and at most the limit
pub record ArePathsWithin (net : Network) (limit : ℕ) (pair : Pair) (paths : List Path) : Type 0 where
  pub some : 1 ≤ length paths
  pub few : length paths ≤ limit
  pub sound : All (λ p. IsTrue (is_path net pair.src pair.dst p.links)) paths

-- such paths for each pair
pub record ArePathsOfPairs (net : Network) (limit : ℕ) (pairs : List Pair) (list : List PathsWithRates) : Type 0 where
  pub count : length list ≡ length pairs
  pub each : (p : ℕ) → p < length list → ArePathsWithin net limit (pair_at pairs p) (rates_at list p).paths

-- a well-formed network, pairs of its nodes, and a sweep
pub record IsRound (r : Round) : Type 0 where
  pub network : IsTrue (is_well_formed r.net.now)
  pub pairs : All (IsPairOf r.net.now) r.pairs.now
  pub sweep : IsSweep r.sweep

-- weights for each link, paths for each pair, searches in the network, and a routing, of at most so many paths a pair, with weights
-- for each link
pub record IsJoint (net : Network) (pairs : List Pair) (limit : ℕ) (j : Joint) : Type 0 where
  pub weights : AreWeightsOfLinks net j.weights.items
  pub paths : ArePathsOfPairs net limit pairs j.rates.items
  pub along : IsSearchGraph net Forward j.along
  pub against : IsSearchGraph net Backward j.against
  pub every : j.every.items ≡ every_link net
  pub routing : IsRoutingOf net pairs j.best.routes
  pub proving : AreWeightsOfLinks net j.proving.items
  pub few : HasFewPaths limit j.best.routes
