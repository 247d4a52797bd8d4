use Rattle.std.proofs.Common.{ℕ, arith, sym, subst, ◌∙◌}
use Rattle.routing.specs.Routes.{AreDemands}
use Rattle.routing.proofs.InOrder.{routes_count}
use Rattle.series_simulation.proofs.adapted_rates.rates_over.Goals as goal

pub greatest_utilisation-requires-clause-pairs : goal.greatest_utilisation-requires-clause-pairs
greatest_utilisation-requires-clause-pairs g c =
    let (pairs, is) = c.requires.standing in
    omega (
      arith,
      routes_count pairs c.in_ok-routing.routing.routes (c.in_ok-routing.ensures.routing pairs is).in_order,
      routes_count pairs c.args.standing.now.routing.routes is.in_order,
      c.requires.pairs,
    )

pub greatest_utilisation-requires-clause-demands : goal.greatest_utilisation-requires-clause-demands
greatest_utilisation-requires-clause-demands g c =
    let (pairs, is) = c.requires.standing in
    let old = routes_count pairs c.args.standing.now.routing.routes is.in_order in
    let new = routes_count pairs c.in_ok-routing.routing.routes (c.in_ok-routing.ensures.routing pairs is).in_order in
    subst (λ (n : ℕ). AreDemands n c.args.standing.now.sent.demand) (old ∙ sym new) c.requires.sent

pub returns-clause-routing : goal.returns-clause-routing
returns-clause-routing g c = λ pairs is. c.in_ok-routing.ensures.routing pairs is

pub returns-clause-adapted : goal.returns-clause-adapted
returns-clause-adapted g c = (
  c.in_ok-routing.bound,
  c.in_ok-routing.ensures.adapted,
  c.bound_of_sent-low.ensures,
)

pub returns-clause-most : goal.returns-clause-most
returns-clause-most g c = c.in_ok-parts.ensures
