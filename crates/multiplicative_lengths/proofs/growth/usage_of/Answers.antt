use Rattle.std.proofs.Common.{◌≡◌, ◌*◌, ◌/◌, arith, ap, ◌∙◌}
use Rattle.std.proofs.Math.Nat.{div-le_self}
use Rattle.te_model.specs.declared.units.TheConstants.{RATIO_UNIT}
use Rattle.multiplicative_lengths.proofs.growth.usage_of.Goals as goal

pub returns-clause-usage : goal.returns-clause-usage
returns-clause-usage c =
    ap (λ x. x * c.from-2.result / c.from-3.result) c.from.ensures
    ∙ (ap (λ x. c.args.load * x / c.from-3.result) c.from-2.ensures ∙ ap (λ y. c.args.load * RATIO_UNIT / y) c.from-3.ensures)

pub returns-clause-small : goal.returns-clause-small
returns-clause-small c =
    let product : c.from.result * c.from-2.result ≡ c.args.load * RATIO_UNIT =
    ap (λ x. x * c.from-2.result) c.from.ensures ∙ ap (λ x. c.args.load * x) c.from-2.ensures
    in
    omega (arith, product, div-le_self (c.from.result * c.from-2.result) c.from-3.result)
