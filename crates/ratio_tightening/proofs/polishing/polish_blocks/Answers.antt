use Rattle.std.proofs.lemmas.List.Elements.{All-get_or}
use Rattle.te_model.specs.Certificate.{empty_block}
use Rattle.ratio_tightening.specs.Polishing.{CanPolish}
use Rattle.ratio_tightening.proofs.PolishedBlocks.{can_more, gap_falls, reached_more}
use Rattle.ratio_tightening.proofs.polishing.polish_blocks.Goals as goal

pub loop-step-preserved : goal.loop-step-preserved
loop-step-preserved c =
    let net = c.args.net.now in
    let routes = c.args.routing.now.routes in
    let set = c.args.set.now in
    let blocks = c.loop-step.blocks in
    let step = c.in-Some.step in
    let place = rw c.in-Some.is at c.in_ok-step.ensures.place in
    let some = rw c.in-Some.is at c.in_ok-step.ensures.some in (
      reached_more net routes set c.args.blocks.now blocks step.place step.block place c.loop-step.invariant.0 some,
      can_more net routes set blocks step.place step.block c.requires.network c.requires.routing place c.loop-step.invariant.1 some,
    )

pub returns-in-None-clause-done : goal.returns-in-None-clause-done
returns-in-None-clause-done c = rw c.in-None.is at c.in_ok-step.ensures.none

pub loop-step-smaller : goal.loop-step-smaller
loop-step-smaller c =
    let net = c.args.net.now in
    let routes = c.args.routing.now.routes in
    let blocks = c.loop-step.blocks in
    let step = c.in-Some.step in
    let place = rw c.in-Some.is at c.in_ok-step.ensures.place in
    let some = rw c.in-Some.is at c.in_ok-step.ensures.some in
    gap_falls net routes c.args.set.now blocks step.place step.block c.requires.network place
    (All-get_or (CanPolish net routes) blocks step.place (empty_block 0) place c.loop-step.invariant.1) some
