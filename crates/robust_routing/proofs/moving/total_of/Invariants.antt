use Rattle.std.proofs.Common.{◌≡◌, sum, take}
use Rattle.robust_routing.specs.Sweep.{capped}
use Rattle.robust_routing.proofs.moving.total_of.Given as goal

abbrev pub invariant-loop-rate : goal.invariant-loop-rate
invariant-loop-rate l = l.total ≡ capped (sum (take l.rate-index l.rates))
