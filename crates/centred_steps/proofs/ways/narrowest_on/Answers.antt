use Rattle.std.proofs.Common.{◌≡◌, ◌-◌, ◌+◌, List, length, get_or, min, arith, ap}
use Rattle.te_model.specs.declared.network.Link.{Link}
use Rattle.te_model.specs.Network.{capacity_of, no_link, tail_of}
use Rattle.centred_steps.specs.Ways.{least_capacity, way_to}
use Rattle.centred_steps.proofs.LastLinks.{ends_inside}
use Rattle.centred_steps.proofs.WayBack.{least_small, way_on}
use Rattle.centred_steps.proofs.ways.narrowest_on.Goals as goal

pub loop-init : goal.loop-init
loop-init c =
    let net = c.args.net.now in
    let lasts = c.args.lasts.now in
    let dst = c.args.dst in
    let all : length lasts - 0 ≡ length lasts = omega arith in (
      c.requires.dst,
      omega arith,
      omega (arith, ap (λ m. least_capacity net (way_to net lasts m dst)) all, least_small net (way_to net lasts (length lasts) dst)),
    )

pub loop-preserved : goal.loop-preserved
loop-preserved c =
    let net = c.args.net.now in
    let lasts = c.args.lasts.now in
    let links = c.as_slice-links.result.now in
    let h = c.in-Some.h in
    let left = length lasts - (c.loop.counter + 1) in
    let way = ap (least_capacity net) (way_on net lasts (length lasts) c.loop.counter c.loop.node h c.loop-test.true c.in-Some.is) in
    let capacity : (get_or links h no_link).capacity ≡ capacity_of net h = ap (λ (ls : List Link). (get_or ls h no_link).capacity) c.as_slice-links.ensures in
    let on : least_capacity net (way_to net lasts left (get_or links h no_link).tail) ≡ least_capacity net (way_to net lasts left (tail_of net h)) =
    ap (λ (ls : List Link). least_capacity net (way_to net lasts left (get_or ls h no_link).tail)) c.as_slice-links.ensures
    in
    let least : c.min-least.result ≡ min c.loop.least (get_or links h no_link).capacity = grind (arith, c.min-least.ensures) in (
      (ends_inside net links h c.as_slice-links.ensures c.requires.network (c.requires.lasts.each c.loop.node h c.in-Some.is)).0,
      omega (arith, least, c.loop.invariant.1),
      omega (arith, least, capacity, on, way, c.loop.invariant.2),
    )
