use Rattle.std.proofs.Common.{◌≡◌, ◌*◌, arith, ap, ◌∙◌}
use Rattle.te_model.specs.declared.units.TheConstants.{RATIO_UNIT}
use Rattle.te_model.specs.Division.{quotient_up}
use Rattle.te_model.proofs.Quotients.{is_quotient_up}
use Rattle.series_simulation.proofs.peak.utilisation.Goals as goal

pub returns : goal.returns
returns c =
    let x : c.from.result * c.from-2.result ≡ c.args.units * RATIO_UNIT =
    ap (λ a. a * c.from-2.result) c.from.ensures ∙ ap (λ b. c.args.units * b) c.from-2.ensures
    in
    is_quotient_up (c.from.result * c.from-2.result) c.from-3.result c.ceil_div.result
    (omega (arith, c.from-3.ensures, c.requires)) c.ceil_div.ensures.enough c.ceil_div.ensures.least
    ∙ (ap (λ a. quotient_up a c.from-3.result) x ∙ ap (λ b. quotient_up (c.args.units * RATIO_UNIT) b) c.from-3.ensures)
