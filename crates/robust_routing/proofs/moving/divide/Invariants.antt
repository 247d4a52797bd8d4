use Rattle.std.proofs.Common.{◌≡◌, ◌++◌, drop, map, take}
use Rattle.robust_routing.specs.Rates.{part_of}
use Rattle.robust_routing.proofs.moving.divide.Given as goal

abbrev pub invariant-loop-rate : goal.invariant-loop-rate
invariant-loop-rate l = l.rates ≡ map (part_of l.total) (take l.rate-index l.fn.rates) ++ drop l.rate-index l.fn.rates
