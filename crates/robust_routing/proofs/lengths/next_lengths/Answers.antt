use Rattle.std.proofs.Common.{◌≡◌, ◌+◌, arith, ap, sym, ◌∙◌, subst}
use Rattle.robust_routing.specs.Lengths.{AreLengths}
use Rattle.robust_routing.specs.Prices.{AreByPrices, greatest_quotient, next_price}
use Rattle.robust_routing.proofs.Lengthening.{lengths_more, lengths_none}
use Rattle.robust_routing.proofs.Pricing.{by_prices_more, by_prices_none, prices_moved, prices_none, same_price}
use Rattle.robust_routing.proofs.lengths.next_lengths.Goals as goal

pub loop-link-init : goal.loop-link-init
loop-link-init c = (
  subst (AreLengths 0) (sym c.in_ok-lengths.ensures.items) lengths_none,
  subst (AreByPrices c.args.sweep c.args.tables.now c.args.links c.args.pair 0) (sym c.in_ok-lengths.ensures.items)
      (by_prices_none c.args.sweep c.args.tables.now c.args.links c.args.pair),
  prices_none c.args.sweep c.args.links c.args.pair c.args.tables.now,
)

pub loop-link-preserved : goal.loop-link-preserved
loop-link-preserved c =
    let s = c.args.sweep in
    let links = c.args.links in
    let p = c.args.pair in
    let n = c.loop-link.link in
    let old = c.args.tables.now in
    let now = c.loop-link.tables in
    let price = c.next_price-price.result in
    let is : price ≡ next_price s old n p (greatest_quotient old.quotients links p) =
    c.next_price-price.ensures.exact
    ∙ (ap (next_price s now n p) c.greatest_quotient-greatest.ensures ∙ same_price s links p n (greatest_quotient old.quotients links p) old now c.loop-link.invariant.2)
    in (
      subst (AreLengths (n + 1)) (sym c.in_ok-push.ensures.items)
          (lengths_more n c.loop-link.lengths.items (price + 1) c.loop-link.invariant.0 (omega arith) (omega (arith, c.next_price-price.ensures.limit))),
      subst (AreByPrices s old links p (n + 1)) (sym c.in_ok-push.ensures.items)
          (by_prices_more s old links p n c.loop-link.lengths.items price c.loop-link.invariant.1 is),
      prices_moved s links p n old now c.set.new.self price c.loop-link.invariant.2 is c.next_price-price.ensures.limit c.set.ensures,
    )
