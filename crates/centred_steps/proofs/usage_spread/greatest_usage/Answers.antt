use Rattle.std.proofs.Common.{◌≡◌, suc, ◌+◌, ◌<◌, ◌≤◌, List, length, max, get_or, arith, ap, sym, ◌∙◌, subst}
use Rattle.te_model.specs.declared.network.Link.{Link}
use Rattle.te_model.specs.Counting.{greatest_below}
use Rattle.te_model.specs.Network.{link_count, no_link}
use Rattle.te_model.proofs.WellFormed.{capacities_positive}
use Rattle.multiplicative_lengths.specs.Growth.{usage_of}
use Rattle.centred_steps.proofs.Usages.{usage_at}
use Rattle.centred_steps.proofs.usage_spread.greatest_usage.Goals as goal

pub usage_of-requires-clause-capacity : goal.usage_of-requires-clause-capacity
usage_of-requires-clause-capacity c =
    let net = c.args.net.now in
    let h = c.loop-h.h in
    let inside : h < link_count net = omega (arith, c.loop-h-test.true, ap (λ (ls : List Link). length ls) c.as_slice-links.ensures) in
    subst (λ (ls : List Link). 1 ≤ (get_or ls h no_link).capacity) (sym c.as_slice-links.ensures) (capacities_positive net c.requires.network h inside)

pub loop-h-preserved : goal.loop-h-preserved
loop-h-preserved c =
    let h = c.loop-h.h in
    let net = c.args.net.now in
    let loads = c.args.loads.now in
    let most = c.max-most.result in
    let usage : c.usage_of.result ≡ usage_of net loads h = c.usage_of.ensures.usage ∙ usage_at net c.as_slice-links.result.now loads h c.as_slice-links.ensures in
    let is : most ≡ max c.loop-h.most c.usage_of.result = grind (arith, c.max-most.ensures) in
    let next : h + 1 ≡ suc h = omega arith in (
      subst (λ n. most ≡ greatest_below n (usage_of net loads)) (sym next) (omega (arith, is, usage, c.loop-h.invariant.0)),
      omega (arith, is, c.usage_of.ensures.small, c.loop-h.invariant.1),
    )
