use Rattle.std.proofs.Common.{◌≡◌, ◌*◌, arith, ap, ◌∙◌}
use Rattle.te_model.specs.declared.units.TheConstants.{RATIO_UNIT, SHARE_UNIT}
use Rattle.te_model.specs.Division.{quotient_up}
use Rattle.te_model.proofs.Quotients.{is_quotient_up}
use Rattle.routing.proofs.routes.utilisation.Goals as goal

pub returns : goal.returns
returns c =
    let whole : c.from-2.result * c.from-3.result ≡ SHARE_UNIT * c.args.capacity =
    ap (λ x. x * c.from-3.result) c.from-2.ensures ∙ ap (λ x. SHARE_UNIT * x) c.from-3.ensures
    in
    is_quotient_up (c.args.load * c.from.result) (c.from-2.result * c.from-3.result) c.ceil_div.result
    (omega (arith, whole, c.requires.capacity)) c.ceil_div.ensures.enough c.ceil_div.ensures.least
    ∙ (ap (λ x. quotient_up (c.args.load * x) (c.from-2.result * c.from-3.result)) c.from.ensures
    ∙ ap (λ y. quotient_up (c.args.load * RATIO_UNIT) y) whole)
