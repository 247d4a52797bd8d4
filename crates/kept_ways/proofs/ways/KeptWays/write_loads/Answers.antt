use Rattle.std.proofs.Common.{List, sym, subst}
use Rattle.std.specs.Prelude.{All}
use Rattle.kept_ways.specs.declared.ways.KeptWay.{KeptWay}
use Rattle.kept_ways.specs.KeptWays.{IsKeptWay}
use Rattle.kept_ways.proofs.ways.KeptWays.write_loads.Goals as goal

pub add_ways-requires-clause-pairs : goal.add_ways-requires-clause-pairs
add_ways-requires-clause-pairs c =
    let pairs = c.args.self.now.pairs in
    (pairs, subst (λ (ws : List KeptWay). All (IsKeptWay pairs) ws) (sym c.deref.ensures.value) c.requires.kept.ways_are)
