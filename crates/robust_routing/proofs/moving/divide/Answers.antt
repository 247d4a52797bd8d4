use Rattle.std.proofs.Common.{rules}
use Rattle.std.proofs.lemmas.List.Edits.{map_over_more}
use Rattle.robust_routing.specs.Rates.{part_of}
use Rattle.robust_routing.proofs.moving.divide.Goals as goal

pub loop-rate-preserved : goal.loop-rate-preserved
loop-rate-preserved c = search (rules, map_over_more (part_of c.args.total))
