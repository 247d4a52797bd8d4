use Rattle.std.proofs.Common.{arith}
use Rattle.ratio_certificate.proofs.seek.respond_to.Goals as goal

pub respond-requires-clause-pricing : goal.respond-requires-clause-pricing
respond-requires-clause-pricing c = record {
  problem = c.requires.problem;
  shared = c.requires.shared;
  metric = c.requires.search.metric;
  scale = c.requires.search.scale;
  near = (omega arith, omega arith);
}
