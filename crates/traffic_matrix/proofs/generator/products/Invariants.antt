use Rattle.std.proofs.Common.{◌≡◌, take}
use Rattle.traffic_matrix.specs.Gravity.{products}
use Rattle.traffic_matrix.proofs.generator.products.Given as goal

abbrev pub invariant-loop-pair : goal.invariant-loop-pair
invariant-loop-pair l = l.demand.items ≡ products (take l.pair-index l.pairs) l.sizes
