-- Where a search for weights of a link stands.
use Rattle.std.specs.Prelude.{◌≡◌, ◌^◌, List}
use Rattle.te_model.specs.declared.network.Network.{Network}
use Rattle.te_model.specs.declared.route.PairRoutes.{PairRoutes}
use Rattle.te_model.specs.declared.demand.DemandSet.{DemandSet}
use Rattle.shortest_path.specs.declared.rows.Direction.TheVariants.{Forward}
use Rattle.shortest_path.specs.Rows.{IsSearchGraph}
use Rattle.best_blocks.specs.declared.sharing.SharedLink.{SharedLink}
use Rattle.best_blocks.specs.Metric.{IsMetric}
use Rattle.centred_steps.specs.Weights.{AreWeightsUpTo}
use Rattle.ratio_certificate.specs.declared.problem.Problem.{Problem}
use Rattle.ratio_certificate.specs.declared.seek.Search.{Search}
use Rattle.ratio_certificate.specs.Response.{IsSmallScale}
use Rattle.ratio_certificate.specs.Weighting.{IsWeighting}

-- weights that a step may move, the best weights of the link so far, and searches along links in the network
pub record IsWeightSearch (net : Network) (routes : List PairRoutes) (set : DemandSet) (l : SharedLink) (s : Search) : Type 0 where
  pub metric : IsMetric net routes l.marks s.metric
  pub weights : AreWeightsUpTo (2 ^ 27) s.metric.weights
  pub scale : IsSmallScale s.scale
  pub link : s.best.link ≡ l.link
  pub best : IsWeighting net routes set s.best
  pub along : IsSearchGraph net Forward s.searches

-- the same of a problem
abbrev pub IsSearchOf : Problem → SharedLink → Search → Type 0
IsSearchOf p l s = IsWeightSearch p.net.now p.routing.now.routes p.set.now l s
