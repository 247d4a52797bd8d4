use Rattle.std.proofs.Common.{◌≡◌, ℕ, ◌/◌, ◌<◌, ◌^◌, List, length, get_or, arith, ap, sym, ◌∙◌, subst, All}
use Rattle.std.proofs.Math.Nat.{div-le_self}
use Rattle.std.proofs.lemmas.List.Elements.{All-get_or, All-push}
use Rattle.te_model.specs.declared.network.Link.{Link}
use Rattle.te_model.specs.Network.{capacity_of, link_count, no_link}
use Rattle.te_model.proofs.Choices.{made_more}
use Rattle.te_model.proofs.WellFormed.{capacities_positive}
use Rattle.rate_sweeps.specs.Lengths.{load_by_capacity}
use Rattle.rate_sweeps.proofs.usage.loads_by_capacity.Goals as goal

pub nonzero_div-loads : goal.nonzero_div-loads
nonzero_div-loads c =
    let net = c.args.net.now in
    let h = c.loop-h.h in
    let inside : h < link_count net = omega (arith, c.loop-h-test.true, ap (λ (ls : List Link). length ls) c.as_slice-links.ensures) in
    let is : c.from.result ≡ capacity_of net h = c.from.ensures ∙ ap (λ (ls : List Link). (get_or ls h no_link).capacity) c.as_slice-links.ensures in
    omega (arith, is, capacities_positive net c.requires.network h inside)

pub loop-h-preserved : goal.loop-h-preserved
loop-h-preserved c =
    let h = c.loop-h.h in
    let net = c.args.net.now in
    let loads = c.args.loads.now in
    let load = get_or loads h 0 in
    let usage = load / c.from.result in
    let items = c.loop-h.usage.items in
    let made : usage ≡ load_by_capacity net loads h =
    ap (λ x. load / x) (c.from.ensures ∙ ap (λ (ls : List Link). (get_or ls h no_link).capacity) c.as_slice-links.ensures)
    in
    let inside : h < length loads = omega (arith, c.loop-h-test.true, ap (λ (ls : List Link). length ls) c.as_slice-links.ensures, c.requires.count) in
    let small : usage < 2 ^ 84 = omega (arith, div-le_self load c.from.result, All-get_or (λ x. x < 2 ^ 84) loads h 0 inside c.requires.small) in (
      omega (arith, ap (λ (l : List ℕ). length l) c.in_ok-push.ensures.items, c.loop-h.invariant.0, c.in_ok-push.ensures.len),
      subst (All (λ x. x < 2 ^ 84)) (sym c.in_ok-push.ensures.items) (All-push (λ x. x < 2 ^ 84) items usage c.loop-h.invariant.1 small),
      made_more (load_by_capacity net loads) h usage items c.push.new.self.items c.loop-h.invariant.2 c.in_ok-push.ensures.items made,
    )
