use Rattle.std.proofs.Common.{◌<◌, length, get_or, arith}
use Rattle.std.proofs.lemmas.List.Elements.{All-get_or}
use Rattle.rate_sweeps.proofs.SweepLoads.{link_more}
use Rattle.rate_sweeps.proofs.dual_state.add_on.Goals as goal

pub loop-link-preserved : goal.loop-link-preserved
loop-link-preserved c =
    let links = c.args.links.now in
    let i = c.loop-link.link-index in
    let inside = All-get_or (λ h. h < length c.args.loads.now) links i 0 c.loop-link-test.true c.requires.links in (
      c.add_load.ensures.small,
      λ e below.
          link_more c.loop-link.loads c.add_load.new.loads links (get_or c.args.loads.now e 0) c.args.amount i e c.loop-link-test.true
          (omega (arith, inside, c.loop-link.auto.loads)) c.loop-link.invariant.0 c.add_load.ensures.small c.add_load.ensures.added (c.loop-link.invariant.1 e below),
    )
