use Rattle.std.proofs.Common.{◌≡◌, ℕ, ◌+◌, ◌*◌, ◌/◌, ◌<◌, ◌≤◌, ◌^◌, List, length, get_or, map, arith, ap, sym, ◌∙◌, subst}
use Rattle.std.proofs.lemmas.List.Elements.{All-get_or}
use Rattle.std.specs.List.{range_with_len}
use Rattle.te_model.specs.declared.network.Link.{Link}
use Rattle.te_model.specs.declared.units.TheConstants.{RATIO_UNIT}
use Rattle.te_model.specs.Network.{link_count, no_link}
use Rattle.te_model.specs.Division.{quotient_up}
use Rattle.multiplicative_lengths.specs.Growth.{grown_multiplier, usage_of}
use Rattle.te_model.proofs.Choices.{made_more}
use Rattle.te_model.proofs.WellFormed.{capacities_positive}
use Rattle.te_model.proofs.Quotients.{below_greatest}
use Rattle.multiplicative_lengths.proofs.growth.grow.Goals as goal

pub usage_of-usage-requires : goal.usage_of-usage-requires
usage_of-usage-requires c =
    let net = c.args.net.now in
    let h = c.loop-h.h in
    let inside : h < link_count net = omega (arith, c.loop-h-test.true, ap (λ (ls : List Link). length ls) c.as_slice-links.ensures) in
    subst (λ (ls : List Link). 1 ≤ (get_or ls h no_link).capacity) (sym c.as_slice-links.ensures) (capacities_positive net c.requires.network h inside)

pub grown_multiplier-requires-clause-multiplier : goal.grown_multiplier-requires-clause-multiplier
grown_multiplier-requires-clause-multiplier c =
    let inside : c.loop-h.h < length c.args.multipliers.now =
    omega (arith, c.loop-h-test.true, ap (λ (ls : List Link). length ls) c.as_slice-links.ensures, c.requires.count)
    in
    All-get_or (λ (m : ℕ). m ≤ 2 ^ 38) c.args.multipliers.now c.loop-h.h 0 inside c.requires.moderate

pub grown_multiplier-requires-clause-usage : goal.grown_multiplier-requires-clause-usage
grown_multiplier-requires-clause-usage c =
    let net = c.args.net.now in
    let loads = c.args.loads.now in
    let h = c.loop-h.h in
    let inside : h < link_count net = omega (arith, c.loop-h-test.true, ap (λ (ls : List Link). length ls) c.as_slice-links.ensures) in
    let usage : c.usage_of-usage.result ≡ usage_of net loads h =
    c.usage_of-usage.ensures.usage ∙ ap (λ (ls : List Link). get_or loads h 0 * RATIO_UNIT / (get_or ls h no_link).capacity) c.as_slice-links.ensures
    in
    omega (arith, usage, below_greatest (link_count net) (usage_of net loads) h inside, c.requires.divisor)

pub loop-h-preserved : goal.loop-h-preserved
loop-h-preserved c =
    let net = c.args.net.now in
    let loads = c.args.loads.now in
    let divisor = c.args.divisor in
    let ms = c.args.multipliers.now in
    let h = c.loop-h.h in
    let usage : c.usage_of-usage.result ≡ usage_of net loads h =
    c.usage_of-usage.ensures.usage ∙ ap (λ (ls : List Link). get_or loads h 0 * RATIO_UNIT / (get_or ls h no_link).capacity) c.as_slice-links.ensures
    in
    let made : c.grown_multiplier.result ≡ grown_multiplier net loads divisor ms h =
    c.grown_multiplier.ensures ∙ ap (λ x. get_or ms h 0 + quotient_up (get_or ms h 0 * x) divisor) usage
    in
    made_more (grown_multiplier net loads divisor ms) h c.grown_multiplier.result c.loop-h.next.items c.push.new.self.items c.loop-h.invariant c.in_ok-push.ensures.items made

pub returns : goal.returns
returns c =
    let net = c.args.net.now in
    let every : c.loop-h.h ≡ link_count net = omega (arith, c.loop-h-test.false, c.loop-h.auto.h-end, ap (λ (ls : List Link). length ls) c.as_slice-links.ensures) in
    c.loop-h.invariant ∙ ap (λ n. map (grown_multiplier net c.args.loads.now c.args.divisor c.args.multipliers.now) (range_with_len 0 n)) every
