use Rattle.std.proofs.Common.{◌≡◌, ◌*◌, arith, ap, ◌∙◌}
use Rattle.te_model.specs.Division.{quotient_up}
use Rattle.te_model.proofs.Quotients.{is_quotient_up}
use Rattle.multiplicative_lengths.proofs.lengths.length_of.Goals as goal

pub returns : goal.returns
returns c =
    let product : c.from.result * c.from-2.result ≡ c.args.multiplier * c.args.most =
    ap (λ x. x * c.from-2.result) c.from.ensures ∙ ap (λ x. c.args.multiplier * x) c.from-2.ensures
    in
    let up : c.ceil_div-length.result ≡ quotient_up (c.args.multiplier * c.args.most) c.args.capacity =
    is_quotient_up (c.from.result * c.from-2.result) c.from-3.result c.ceil_div-length.result (omega (arith, c.from-3.ensures, c.requires))
    c.ceil_div-length.ensures.enough c.ceil_div-length.ensures.least
    ∙ (ap (λ x. quotient_up x c.from-3.result) product ∙ ap (λ y. quotient_up (c.args.multiplier * c.args.most) y) c.from-3.ensures)
    in
    grind (arith, c.min.ensures, c.from-4.ensures)
