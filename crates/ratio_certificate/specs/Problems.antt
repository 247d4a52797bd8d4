-- What a certificate is made for, and what is said of its links and of their weights.
use Rattle.std.specs.Prelude.{◌≡◌, ℕ, ◌<◌, true, IsTrue, All, List, length, replicate}
use Rattle.te_model.specs.declared.network.Network.{Network}
use Rattle.te_model.specs.declared.route.PairRoutes.{PairRoutes}
use Rattle.te_model.specs.Network.{is_well_formed, link_count, node_count}
use Rattle.best_blocks.specs.declared.metric.Metric.{Metric}
use Rattle.best_blocks.specs.declared.sharing.SharedLink.{SharedLink}
use Rattle.best_blocks.specs.Conditions.{IsRoutingWithin, IsSetWithin}
use Rattle.best_blocks.specs.Metric.{IsMetric}
use Rattle.best_blocks.specs.Sharing.{IsSharedLink}
use Rattle.ratio_certificate.specs.declared.problem.Problem.{Problem}
use Rattle.ratio_certificate.specs.declared.weighting.Weighting.{Weighting}
use Rattle.ratio_certificate.specs.Rounds.{starting_weights}
use Rattle.ratio_certificate.specs.Steps.{AreWeightings, IsDone, IsProgress, IsSettledAt}
use Rattle.ratio_certificate.specs.Weighting.{IsWeighting}

-- the metric of the starting weights, with a row for each node
pub record IsStartingMetric (net : Network) (routes : List PairRoutes) (m : Metric) : Type 0 where
  pub metric : IsMetric net routes (replicate (node_count net) true) m
  pub weights_are : m.weights ≡ starting_weights net

-- a well-formed network, a routing and a set within the limits of certificates, and the metric of the starting weights
pub record IsProblem (p : Problem) : Type 0 where
  pub network : IsTrue (is_well_formed p.net.now)
  pub routing : IsRoutingWithin p.net.now p.routing.now.routes
  pub set : IsSetWithin (length p.routing.now.routes) p.set.now
  pub first : IsStartingMetric p.net.now p.routing.now.routes p.first.now

-- a link of the network with a share
abbrev pub IsLinkOf : Problem → SharedLink → Type 0
IsLinkOf p l = IsSharedLink p.net.now p.routing.now.routes p.set.now l

-- a problem, and links of its network with a share
pub record AreLinksOf (p : Problem) (links : List SharedLink) : Type 0 where
  pub problem : IsProblem p
  pub each : All (IsSharedLink p.net.now p.routing.now.routes p.set.now) links

-- a metric for the pairs with a share on the link
abbrev pub IsMetricOf : Problem → SharedLink → Metric → Type 0
IsMetricOf p l m = IsMetric p.net.now p.routing.now.routes l.marks m

-- a metric for the pairs with a share on each of the links
abbrev pub IsMetricOfEach : Problem → List SharedLink → Metric → Type 0
IsMetricOfEach p links m = All (λ l. IsMetric p.net.now p.routing.now.routes l.marks m) links

-- weights of a link with their best scale and their need
abbrev pub IsWeightingOf : Problem → Weighting → Type 0
IsWeightingOf p w = IsWeighting p.net.now p.routing.now.routes p.set.now w

-- weights for each of the links, none of which needs more than the weights at the start
abbrev pub AreWeightingsOf : Problem → List SharedLink → List Weighting → List Weighting → Type 0
AreWeightingsOf p links start list = AreWeightings p.net.now p.routing.now.routes p.set.now links start list

-- other weights of the same link that need no more, and are a step nearer to the end of the polish
abbrev pub IsProgressOf : Problem → Weighting → Weighting → Type 0
IsProgressOf p old new = IsProgress p.net.now p.routing.now.routes p.set.now old new

-- no step of one of the weights improves what they need
abbrev pub IsSettledOf : Problem → Weighting → Type 0
IsSettledOf p w = (h : ℕ) → h < link_count p.net.now → IsSettledAt p.net.now p.routing.now.routes p.set.now w.link w.need w.weights h

-- the first of the greatest need is fine, and no step of one of its weights improves its need
abbrev pub IsDoneOf : Problem → List Weighting → Type 0
IsDoneOf p list = IsDone p.net.now p.routing.now.routes p.set.now list
