use Rattle.std.proofs.lemmas.List.{get_or_default}
use Rattle.routing.specs.Merge.{no_path}
use Rattle.flow_sim.proofs.QueueLaws.{added_more}
use Rattle.flow_sim.proofs.queues.add_paths.Goals as goal

pub loop-i-preserved : goal.loop-i-preserved
loop-i-preserved c =
    let paths = c.args.paths.now in
    let i = c.loop-i.i in
    let read = get_or_default paths i c.index-paths-i.result no_path c.loop-i-test.true in
    let here = c.index-paths-i.is in
    added_more c.args.first i paths _ c.args.rounds.now c.loop-i.rounds c.add_path.new.rounds c.loop-i-test.true c.loop-i.invariant
    c.in_ok-add_path.ensures.alike c.in_ok-add_path.ensures.added cc
