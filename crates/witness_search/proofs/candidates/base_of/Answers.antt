use Rattle.std.proofs.Common.{◌*◌, arith}
use Rattle.std.proofs.lemmas.Nat.{mul-le}
use Rattle.witness_search.proofs.candidates.base_of.Goals as goal

pub overflow_mul-square : goal.overflow_mul-square
overflow_mul-square c = omega (arith, mul-le c.args.den c.args.den 1000 1000 c.requires c.requires)

pub returns : goal.returns
returns c = λ i. record { place = 0; demand = c.in_ok-demand.ensures i; x = 1; y = c.args.den * c.args.den }
