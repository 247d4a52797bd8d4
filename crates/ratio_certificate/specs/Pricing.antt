-- Scaled weights of a link.
use Rattle.kept_ways.specs.Amounts.{IsNearness}
use Rattle.ratio_certificate.specs.declared.response.Pricing.{Pricing}
use Rattle.ratio_certificate.specs.Problems.{IsLinkOf, IsMetricOf, IsProblem}
use Rattle.ratio_certificate.specs.Response.{IsSmallScale}

-- a link of a problem with a share, and a metric by numbers within those of blocks
pub record IsPricing (p : Pricing) : Type 0 where
  pub problem : IsProblem p.problem
  pub shared : IsLinkOf p.problem p.shared.now
  pub metric : IsMetricOf p.problem p.shared.now p.metric.now
  pub scale : IsSmallScale p.scale
  pub near : IsNearness p.near
