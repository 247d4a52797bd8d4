use Rattle.std.proofs.Common.{◌≡◌, suc, ◌+◌, ◌*◌, ◌<◌, ◌≤◌, List, length, get_or, max, arith, ap, ◌∙◌, subst, sym}
use Rattle.std.proofs.lemmas.Bool.Decides.{nat_tests}
use Rattle.te_model.specs.declared.network.Link.{Link}
use Rattle.te_model.specs.declared.units.TheConstants.{RATIO_UNIT}
use Rattle.te_model.specs.Network.{capacity_of, no_link, link_count}
use Rattle.te_model.proofs.SoundLinks.{sound_links}
use Rattle.te_model.specs.Counting.{greatest_below}
use Rattle.te_model.specs.Division.{quotient_up}
use Rattle.series_simulation.specs.Simulation.{utilisation_on}
use Rattle.series_simulation.proofs.peak.peak.Goals as goal

pub carried_utilisation-requires-clause-some : goal.carried_utilisation-requires-clause-some
carried_utilisation-requires-clause-some c =
    let net = c.args.net.now in
    let e = c.loop-e.e in
    let inside : e < link_count net = omega (arith, c.loop-e-test.true, ap (λ (ls : List Link). length ls) c.as_slice-links.ensures) in
    let sound = sound_links net c.requires.network e inside in
    let some : 1 ≤ capacity_of net e = grind (arith, nat_tests) in
    subst (λ (ls : List Link). 1 ≤ (get_or ls e no_link).capacity) (sym c.as_slice-links.ensures) some

pub loop-e-preserved : goal.loop-e-preserved
loop-e-preserved c =
    let net = c.args.net.now in
    let e = c.loop-e.e in
    let on : c.carried_utilisation.result ≡ utilisation_on net c.args.carried.now e =
    c.carried_utilisation.ensures
    ∙ ap (λ (ls : List Link). quotient_up (get_or c.args.carried.now e 0 * RATIO_UNIT) (get_or ls e no_link).capacity) c.as_slice-links.ensures
    in
    let most : c.max-most.result ≡ max c.loop-e.most c.carried_utilisation.result = grind (arith, c.max-most.ensures) in
    let next : e + 1 ≡ suc e = omega arith in
    subst (λ n. c.max-most.result ≡ greatest_below n (utilisation_on net c.args.carried.now)) (sym next)
    (most ∙ (ap (λ x. max x c.carried_utilisation.result) c.loop-e.invariant ∙ ap (λ x. max (greatest_below e (utilisation_on net c.args.carried.now)) x) on))
