use Rattle.std.proofs.Common.{List, sym, subst}
use Rattle.std.specs.Prelude.{All}
use Rattle.kept_ways.specs.declared.ways.KeptWay.{KeptWay}
use Rattle.kept_ways.specs.KeptWays.{IsKeptWay}
use Rattle.kept_ways.proofs.ways.KeptWays.greatest_quotient.Goals as goal

pub greatest_quotient-requires-clause-ways : goal.greatest_quotient-requires-clause-ways
greatest_quotient-requires-clause-ways c =
    let pairs = c.args.self.now.pairs in
    (pairs, subst (λ (ws : List KeptWay). All (IsKeptWay pairs) ws) (sym c.deref.ensures.value) c.requires.kept.ways_are)
