-- Changes of one weight of a link, and what is said of them.
use Rattle.std.specs.Prelude.{◌≡◌, ℕ, true, List}
use Rattle.best_blocks.specs.Need.{need_by}
use Rattle.best_blocks.specs.Rows.{distances_from}
use Rattle.best_blocks.specs.Under.{IsScaleUnder}
use Rattle.ratio_certificate.specs.declared.changes.Changes.{Changes}
use Rattle.ratio_certificate.specs.declared.weighting.Weighting.{Weighting}
use Rattle.ratio_certificate.specs.Critical.{is_tight_in, AreCriticalMarks}
use Rattle.ratio_certificate.specs.Problems.{IsLinkOf, IsMetricOf, IsProblem}
use Rattle.ratio_certificate.specs.Steps.{HelpsNot, IsImprovement, IsSettledAt}
use Rattle.ratio_certificate.specs.Weighting.{AreWeights}

-- a link of a problem with a share, the metric of a weight from 1 to 2^28 for each link of the network, the best scale of these weights, what
-- they need by it, and the sources of the critical pairs
pub record AreChanges (c : Changes) : Type 0 where
  pub problem : IsProblem c.problem
  pub shared : IsLinkOf c.problem c.shared.now
  pub metric : IsMetricOf c.problem c.shared.now c.metric.now
  pub weights : AreWeights c.problem.net.now c.metric.now.weights
  pub scale : IsScaleUnder c.problem.net.now c.problem.routing.now.routes c.problem.set.now c.shared.now.link c.metric.now.weights c.scale.a c.scale.b
  pub need_is : c.need ≡ need_by c.problem.net.now c.shared.now.link c.metric.now.weights c.scale.a c.scale.b
  pub critical : AreCriticalMarks c.problem.net.now c.problem.routing.now.routes c.problem.set.now c.shared.now c.metric.now.weights c.critical.now

-- the weights of which one is changed
abbrev pub weights_of : Changes → List ℕ
weights_of c = c.metric.now.weights

-- link h is tight in the row of node i
abbrev pub IsTightFrom : Changes → ℕ → ℕ → Type 0
IsTightFrom c i h = is_tight_in c.problem.net.now (distances_from c.metric.now.rows i) (weights_of c) h ≡ true

-- other weights of the link that improve the need
abbrev pub IsImprovementIn : Changes → Weighting → Type 0
IsImprovementIn c w = IsImprovement c.problem.net.now c.problem.routing.now.routes c.problem.set.now c.shared.now.link c.need w

-- whatever other weights need on the link, it does not improve the need
abbrev pub HelpsNotIn : Changes → List ℕ → Type 0
HelpsNotIn c weights = HelpsNot c.problem.net.now c.problem.routing.now.routes c.problem.set.now c.shared.now.link c.need weights

-- no step of the weight of link h improves the need
abbrev pub IsSettledIn : Changes → ℕ → Type 0
IsSettledIn c h = IsSettledAt c.problem.net.now c.problem.routing.now.routes c.problem.set.now c.shared.now.link c.need (weights_of c) h
