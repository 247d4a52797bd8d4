use Rattle.std.proofs.Common.{arith}
use Rattle.fault_rates.proofs.Making.{nothing_on}
use Rattle.fault_rates.proofs.maker.fair_parts.Goals as goal

pub loop-high-init : goal.loop-high-init
loop-high-init c = record {
  ordered = omega arith;
  few = omega arith;
  fits = nothing_on c.args.net.now c.args.routes.now c.args.caps.now;
}
