use Rattle.std.proofs.Common.{◌<◌, ◌≤◌, List, length, get_or, arith, ap, sym, subst}
use Rattle.te_model.specs.declared.network.Link.{Link}
use Rattle.te_model.specs.Network.{link_count, no_link}
use Rattle.te_model.proofs.WellFormed.{capacities_positive}
use Rattle.centred_steps.proofs.stepping.move_each.Goals as goal

pub usage_of-usage-requires-clause-capacity : goal.usage_of-usage-requires-clause-capacity
usage_of-usage-requires-clause-capacity c =
    let net = c.args.net.now in
    let h = c.loop-h.h in
    let inside : h < link_count net = omega (arith, c.loop-h-test.true, ap (λ (ls : List Link). length ls) c.as_slice-links.ensures) in
    subst (λ (ls : List Link). 1 ≤ (get_or ls h no_link).capacity) (sym c.as_slice-links.ensures) (capacities_positive net c.requires.network h inside)
