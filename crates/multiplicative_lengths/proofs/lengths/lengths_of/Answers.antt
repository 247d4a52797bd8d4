use Rattle.std.proofs.Common.{◌≡◌, ◌*◌, ◌<◌, ◌≤◌, ◌^◌, List, length, get_or, map, min, arith, ap, sym, ◌∙◌, subst}
use Rattle.std.specs.List.{range_with_len}
use Rattle.te_model.specs.declared.network.Link.{Link}
use Rattle.te_model.specs.Network.{link_count, no_link}
use Rattle.te_model.specs.Division.{quotient_up}
use Rattle.multiplicative_lengths.specs.Growth.{greatest_capacity, length_of}
use Rattle.te_model.proofs.Choices.{made_more}
use Rattle.te_model.proofs.WellFormed.{capacities_positive}
use Rattle.multiplicative_lengths.proofs.lengths.lengths_of.Goals as goal

pub length_of-requires : goal.length_of-requires
length_of-requires c =
    let net = c.args.net.now in
    let h = c.loop-h.h in
    let inside : h < link_count net = omega (arith, c.loop-h-test.true, ap (λ (ls : List Link). length ls) c.as_slice-links.ensures) in
    subst (λ (ls : List Link). 1 ≤ (get_or ls h no_link).capacity) (sym c.as_slice-links.ensures) (capacities_positive net c.requires.network h inside)

pub loop-h-preserved : goal.loop-h-preserved
loop-h-preserved c =
    let net = c.args.net.now in
    let ms = c.args.multipliers.now in
    let h = c.loop-h.h in
    let made : c.length_of.result ≡ length_of net ms h =
    c.length_of.ensures
    ∙ (ap (λ x. min (2 ^ 28) (quotient_up (get_or ms h 0 * x) (get_or c.as_slice-links.result.now h no_link).capacity)) c.greatest_capacity-most.ensures
    ∙ ap (λ (ls : List Link). min (2 ^ 28) (quotient_up (get_or ms h 0 * greatest_capacity net) (get_or ls h no_link).capacity)) c.as_slice-links.ensures)
    in
    made_more (length_of net ms) h c.length_of.result c.loop-h.lengths.items c.push.new.self.items c.loop-h.invariant c.in_ok-push.ensures.items made

pub returns : goal.returns
returns c =
    let net = c.args.net.now in
    let every : c.loop-h.h ≡ link_count net = omega (arith, c.loop-h-test.false, c.loop-h.auto.h-end, ap (λ (ls : List Link). length ls) c.as_slice-links.ensures) in
    c.loop-h.invariant ∙ ap (λ n. map (length_of net c.args.multipliers.now) (range_with_len 0 n)) every
