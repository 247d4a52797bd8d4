use Rattle.std.proofs.Common.{◌<◌, List, length, arith, ap}
use Rattle.te_model.specs.declared.network.Link.{Link}
use Rattle.te_model.specs.Network.{link_count}
use Rattle.centred_steps.proofs.LastLinks.{ends_inside, last_put}
use Rattle.centred_steps.proofs.ways.last_links.Goals as goal
use Rattle.centred_steps.proofs.ways.last_links.Goals.{then-is_sum, else-is_sum}

pub bounds-distances-head : goal.bounds-distances-head
bounds-distances-head c =
    let net = c.args.net.now in
    let inside : c.loop-h.h < link_count net = omega (arith, c.loop-h-test.true, ap (λ (ls : List Link). length ls) c.as_slice-links.ensures) in
    let ends = ends_inside net c.as_slice-links.result.now c.loop-h.h c.as_slice-links.ensures c.requires.network inside in
    omega (arith, ends.1, c.requires.distances)

pub bounds-distances-tail : goal.bounds-distances-tail
bounds-distances-tail c =
    let net = c.args.net.now in
    let inside : c.loop-h.h < link_count net = omega (arith, c.loop-h-test.true, ap (λ (ls : List Link). length ls) c.as_slice-links.ensures) in
    let ends = ends_inside net c.as_slice-links.result.now c.loop-h.h c.as_slice-links.ensures c.requires.network inside in
    omega (arith, ends.0, c.requires.distances)

pub loop-h-preserved : goal.loop-h-preserved
loop-h-preserved c =
    let net = c.args.net.now in
    let inside : c.loop-h.h < link_count net = omega (arith, c.loop-h-test.true, ap (λ (ls : List Link). length ls) c.as_slice-links.ensures) in
    let ends = ends_inside net c.as_slice-links.result.now c.loop-h.h c.as_slice-links.ensures c.requires.network inside in
    elim c.if-is_sum.branch [
      | then-is_sum w ↦ rw w.lasts-is (last_put net c.loop-h.lasts _ c.loop-h.h (omega (arith, ends.1, c.loop-h.invariant.count)) inside c.loop-h.invariant)
      | else-is_sum w ↦ rw w.lasts-is c.loop-h.invariant
    ]
