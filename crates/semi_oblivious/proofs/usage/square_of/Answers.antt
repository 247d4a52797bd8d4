use Rattle.std.proofs.Common.{arith}
use Rattle.std.proofs.lemmas.Nat.{mul-le}
use Rattle.semi_oblivious.proofs.usage.square_of.Goals as goal

pub returns-clause-small : goal.returns-clause-small
returns-clause-small c =
    let square = mul-le c.args.length c.args.length 16384 16384 c.requires c.requires in
    omega (arith, square)
