use Rattle.std.proofs.Common.{map, arith}
use Rattle.shortest_path.specs.Least.{links_of}
use Rattle.routing.proofs.Adding.{merge_total}
use Rattle.local_recovery.proofs.BypassWalks.{parts_small}
use Rattle.local_recovery.proofs.Merged.{merged_few}
use Rattle.local_recovery.proofs.recovery.bypass_pair.Goals as goal

pub merge-requires : goal.merge-requires
merge-requires c =
    let small = parts_small c.args.net.now (map links_of c.args.bypass_paths.now) c.args.routes.now.pair.src c.args.routes.now.paths c.in_ok-parts.parts.items
    c.in_ok-parts.ensures c.requires.split.weights in
    omega (arith, small.1, c.requires.split.whole)

pub scale_to_unit-requires-clause-count : goal.scale_to_unit-requires-clause-count
scale_to_unit-requires-clause-count c =
    let small = parts_small c.args.net.now (map links_of c.args.bypass_paths.now) c.args.routes.now.pair.src c.args.routes.now.paths c.in_ok-parts.parts.items
    c.in_ok-parts.ensures c.requires.split.weights in
    omega (arith, small.0, merged_few c.in_ok-parts.parts.items c.in_ok-merged.merged.items c.in_ok-merged.ensures, c.requires.few)

pub scale_to_unit-requires-clause-weights : goal.scale_to_unit-requires-clause-weights
scale_to_unit-requires-clause-weights c =
    let small = parts_small c.args.net.now (map links_of c.args.bypass_paths.now) c.args.routes.now.pair.src c.args.routes.now.paths c.in_ok-parts.parts.items
    c.in_ok-parts.ensures c.requires.split.weights in
    c.in_ok-merged.ensures.positive small.2

pub scale_to_unit-requires-clause-whole : goal.scale_to_unit-requires-clause-whole
scale_to_unit-requires-clause-whole c =
    let small = parts_small c.args.net.now (map links_of c.args.bypass_paths.now) c.args.routes.now.pair.src c.args.routes.now.paths c.in_ok-parts.parts.items
    c.in_ok-parts.ensures c.requires.split.weights in
    omega (arith, small.1, merge_total c.in_ok-parts.parts.items c.in_ok-merged.merged.items c.in_ok-merged.ensures, c.requires.split.whole)
