use Rattle.std.proofs.Common.{◌≡◌}
use Rattle.std.proofs.lemmas.List.{get_or_read}
use Rattle.kept_ways.specs.KeptWays.{no_way, way_at}
use Rattle.kept_ways.proofs.Found.{found_more, found_none}
use Rattle.kept_ways.proofs.longest.longest_of_many.Goals as goal

pub loop-i-init : goal.loop-i-init
loop-i-init c = found_none c.args.ways.now c.args.lengths.now c.args.place

pub loop-i-preserved : goal.loop-i-preserved
loop-i-preserved c =
    let ways = c.args.ways.now in
    let i = c.loop-i.i in
    let e = c.with_way-found.ensures in
    let at : c.index-ways-i.result ≡ way_at ways i = get_or_read ways i c.index-ways-i.result c.loop-i-test.true c.index-ways-i.is no_way in
    found_more ways c.args.lengths.now c.args.place i c.index-ways-i.result c.loop-i.found c.with_way-found.result c.loop-i-test.true at
    c.loop-i.invariant e.other e.count e.taken e.kept
