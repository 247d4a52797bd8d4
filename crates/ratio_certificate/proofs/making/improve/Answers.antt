use Rattle.std.proofs.Common.{length, sym, subst}
use Rattle.std.specs.Prelude.{IfOk}
use Rattle.te_model.specs.declared.certificate.Certificate.{Certificate}
use Rattle.te_model.specs.declared.demand.DemandSet.{DemandSet}
use Rattle.best_blocks.specs.Conditions.{IsSetWithin}
use Rattle.ratio_certificate.specs.Form.{set_in, IsFormatFor}
use Rattle.ratio_certificate.specs.Made.{IsMadeIn}
use Rattle.ratio_certificate.specs.Offers.{AreWithinOffers}
use Rattle.ratio_certificate.proofs.MadeForms.{format_for, set_within, small_margin}
use Rattle.ratio_certificate.proofs.making.improve.Goals as goal

pub set_in-requires : goal.set_in-requires
set_in-requires c = small_margin (length c.args.routing.now.routes) c.args.set c.requires.set

pub certify-requires-clause-set : goal.certify-requires-clause-set
certify-requires-clause-set c =
    subst (IsSetWithin (length c.args.routing.now.routes)) (sym c.in_ok-written.ensures)
    (set_within (length c.args.routing.now.routes) c.made_format-format.result c.args.set c.requires.set)

pub certify-requires-clause-format : goal.certify-requires-clause-format
certify-requires-clause-format c =
    let net = c.args.net.now in
    subst (λ (s : DemandSet). IsFormatFor net s c.made_format-format.result) (sym c.in_ok-written.ensures)
    (subst (λ f. IsFormatFor net (set_in f c.args.set) f) (sym c.made_format-format.ensures) (format_for net c.args.set c.requires.network))

pub returns-clause-made : goal.returns-clause-made
returns-clause-made c =
    let net = c.args.net.now in
    let routes = c.args.routing.now.routes in
    subst (λ f. IfOk c.certify.result (IsMadeIn f net routes (set_in f c.args.set))) c.made_format-format.ensures
    (subst (λ (s : DemandSet). IfOk c.certify.result (IsMadeIn c.made_format-format.result net routes s)) c.in_ok-written.ensures c.certify.ensures.made)

pub returns-clause-within : goal.returns-clause-within
returns-clause-within c =
    let net = c.args.net.now in
    let routes = c.args.routing.now.routes in
    let offers = c.args.offers.now in
    subst (λ f. IfOk c.certify.result (λ (m : Certificate). AreWithinOffers net routes (set_in f c.args.set) offers m.blocks)) c.made_format-format.ensures
    (subst (λ (s : DemandSet). IfOk c.certify.result (λ (m : Certificate). AreWithinOffers net routes s offers m.blocks)) c.in_ok-written.ensures c.certify.ensures.within)
