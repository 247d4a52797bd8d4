use Rattle.std.proofs.Common.{◌≡◌, suc, ◌+◌, ◌*◌, ◌<◌, List, get_or, max, arith, ap, ◌∙◌, subst, sym}
use Rattle.te_model.specs.declared.network.Link.{Link}
use Rattle.te_model.specs.declared.units.TheConstants.{RATIO_UNIT, SHARE_UNIT}
use Rattle.te_model.specs.Network.{no_link}
use Rattle.routing.specs.Routes.{load_on}
use Rattle.te_model.specs.Division.{quotient_up}
use Rattle.te_model.specs.Counting.{greatest_below}
use Rattle.routing.specs.Utilisation.{parts_on}
use Rattle.routing.proofs.Capacities.{capacity_some}
use Rattle.routing.proofs.routes.Routing.parts.Goals as goal

pub utilisation-requires-clause-capacity : goal.utilisation-requires-clause-capacity
utilisation-requires-clause-capacity c =
    capacity_some c.args.net.now c.as_slice-links.result.now c.loop-h.h c.as_slice-links.ensures c.requires.network (omega (arith, c.loop-h-test.true))

pub loop-h-preserved : goal.loop-h-preserved
loop-h-preserved c =
    let net = c.args.net.now in
    let routes = c.args.self.now.routes in
    let demand = c.args.matrix.now.demand in
    let h = c.loop-h.h in
    let on : c.utilisation.result ≡ parts_on net routes demand h =
    c.utilisation.ensures
    ∙ (ap (λ x. quotient_up (x * RATIO_UNIT) (SHARE_UNIT * (get_or c.as_slice-links.result.now h no_link).capacity)) c.load-load.ensures.load
    ∙ ap (λ (ls : List Link). quotient_up (load_on routes demand h * RATIO_UNIT) (SHARE_UNIT * (get_or ls h no_link).capacity)) c.as_slice-links.ensures)
    in
    let most : c.max-most.result ≡ max c.loop-h.most c.utilisation.result = grind (arith, c.max-most.ensures) in
    let next : h + 1 ≡ suc h = omega arith in
    subst (λ n. c.max-most.result ≡ greatest_below n (parts_on net routes demand)) (sym next)
    (most ∙ (ap (λ x. max x c.utilisation.result) c.loop-h.invariant ∙ ap (λ x. max (greatest_below h (parts_on net routes demand)) x) on))
