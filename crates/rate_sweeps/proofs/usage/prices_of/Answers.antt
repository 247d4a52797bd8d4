use Rattle.std.proofs.Common.{◌≡◌, ℕ, ◌*◌, ◌/◌, ◌<◌, ◌≤◌, ◌^◌, List, length, get_or, max, arith, ap, sym, ◌∙◌, subst, All}
use Rattle.std.proofs.lemmas.List.Elements.{All-push}
use Rattle.te_model.specs.declared.network.Link.{Link}
use Rattle.te_model.specs.Network.{capacity_of, link_count, no_link}
use Rattle.te_model.proofs.Choices.{made_more}
use Rattle.te_model.proofs.WellFormed.{capacities_positive}
use Rattle.rate_sweeps.specs.Lengths.{greatest_number, part_of, price_of, repeated_square}
use Rattle.rate_sweeps.proofs.usage.prices_of.Goals as goal

pub price_of-requires-clause-capacity : goal.price_of-requires-clause-capacity
price_of-requires-clause-capacity c =
    let net = c.args.net.now in
    let h = c.loop-h.h in
    let inside : h < link_count net = omega (arith, c.loop-h-test.true, ap (λ (ls : List Link). length ls) c.as_slice-links.ensures) in
    let is : (get_or c.as_slice-links.result.now h no_link).capacity ≡ capacity_of net h = ap (λ (ls : List Link). (get_or ls h no_link).capacity) c.as_slice-links.ensures in
    omega (arith, is, capacities_positive net c.requires.network h inside)

pub loop-h-preserved : goal.loop-h-preserved
loop-h-preserved c =
    let net = c.args.net.now in
    let usage = c.args.usage.now in
    let squarings = c.args.squarings in
    let h = c.loop-h.h in
    let links = c.as_slice-links.result.now in
    let part : c.squared_part-part.result ≡ repeated_square squarings (part_of (greatest_number usage) (get_or usage h 0)) =
    c.squared_part-part.ensures.part ∙ ap (λ m. repeated_square squarings (part_of m (get_or usage h 0))) c.greatest_number-most.ensures.greatest
    in
    let made : c.price_of.result ≡ price_of net usage squarings h =
    c.price_of.ensures.price
    ∙ (ap (λ x. max 1 x * 2 ^ 32 / (get_or links h no_link).capacity) part
    ∙ ap (λ (ls : List Link). max 1 (repeated_square squarings (part_of (greatest_number usage) (get_or usage h 0))) * 2 ^ 32 / (get_or ls h no_link).capacity) c.as_slice-links.ensures)
    in (
      omega (arith, ap (λ (l : List ℕ). length l) c.in_ok-push.ensures.items, c.loop-h.invariant.0, c.in_ok-push.ensures.len),
      subst (All (λ x. x ≤ 2 ^ 62)) (sym {A = List ℕ} c.in_ok-push.ensures.items)
          (All-push (λ x. x ≤ 2 ^ 62) c.loop-h.prices.items c.price_of.result c.loop-h.invariant.1 c.price_of.ensures.small),
      made_more (price_of net usage squarings) h c.price_of.result c.loop-h.prices.items c.push.new.self.items c.loop-h.invariant.2 c.in_ok-push.ensures.items made,
    )
