use Rattle.std.proofs.Common.{◌≡◌, ◌+◌, ◌*◌, ◌≤◌, arith, ap, ◌∙◌}
use Rattle.std.proofs.Math.Nat.{mul-le-mul_left}
use Rattle.te_model.specs.Division.{quotient_up}
use Rattle.te_model.proofs.Quotients.{is_quotient_up}
use Rattle.multiplicative_lengths.proofs.growth.grown_multiplier.Goals as goal

product : (c : goal.After-ceil_div-part) → c.from.result * c.args.usage ≡ c.args.multiplier * c.args.usage
product c = ap (λ x. x * c.args.usage) c.from.ensures

small : (c : goal.After-ceil_div-part) → c.ceil_div-part.result ≤ c.args.multiplier
small c = c.ceil_div-part.ensures.least c.args.multiplier (omega (arith, product c, mul-le-mul_left c.args.multiplier c.requires.usage))

pub overflow_cast-result : goal.overflow_cast-result
overflow_cast-result c = omega (arith, small c, c.requires.multiplier)

pub overflow_add-result : goal.overflow_add-result
overflow_add-result c = omega (arith, small c, c.requires.multiplier)

pub returns : goal.returns
returns c =
    let up : c.ceil_div-part.result ≡ quotient_up (c.args.multiplier * c.args.usage) c.args.divisor =
    is_quotient_up (c.from.result * c.args.usage) c.args.divisor c.ceil_div-part.result c.requires.some
    c.ceil_div-part.ensures.enough c.ceil_div-part.ensures.least
    ∙ ap (λ x. quotient_up x c.args.divisor) (product c)
    in
    ap (λ x. c.args.multiplier + x) up
