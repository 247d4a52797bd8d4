-- Where sweeps stand keeps a higher limit too.
use Rattle.std.proofs.Common.{◌≤◌, ℕ, List}
use Rattle.te_model.specs.declared.network.Network.{Network}
use Rattle.te_model.specs.declared.route.Pair.{Pair}
use Rattle.robust_routing.specs.declared.joint.Joint.{Joint}
use Rattle.robust_routing.specs.Joint.{IsJoint}
use Rattle.robust_routing.proofs.Paths.{paths_of_more}
use Rattle.routing.proofs.FewPaths.{few_more}

pub joint_of_more : (net : Network) (pairs : List Pair) (few many : ℕ) (j : Joint) → few ≤ many → IsJoint net pairs few j → IsJoint net pairs many j
joint_of_more net pairs few many j le is = record {
  weights = is.weights;
  paths = paths_of_more net few many pairs j.rates.items le is.paths;
  along = is.along;
  against = is.against;
  every = is.every;
  routing = is.routing;
  proving = is.proving;
  few = few_more few many j.best.routes le is.few;
}
