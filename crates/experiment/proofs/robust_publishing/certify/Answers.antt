use Rattle.std.proofs.Common.{List, Result, Ok, Err, IfOk, subst, sym}
use Rattle.std.proofs.lemmas.Result.{IfOk-weaker}
use Rattle.ratio_certificate.specs.Form.{HasBounds}
use Rattle.ratio_certificate.specs.Offers.{AreOffers, IsMadeWithinAll}
use Rattle.ratio_certificate.specs.declared.offers.Offer.{Offer}
use Rattle.experiment.proofs.robust_publishing.certify.Goals as goal

both : {T E : Type 0} (r : Result T E) (P Q S : T → Type 0) → ((x : T) → P x → Q x → S x) → IfOk r P → IfOk r Q → IfOk r S
both (Ok x) P Q S join p q = join x p q
both (Err e) P Q S join p q = tt

pub improve-requires-clause-offers : goal.improve-requires-clause-offers
improve-requires-clause-offers c = subst (λ (os : List Offer). AreOffers c.args.net.now os) (sym c.deref.ensures.value) c.in_ok-offers.ensures

pub returns-in_ok-offers : goal.returns-in_ok-offers
returns-in_ok-offers c =
    IfOk-weaker c.improve.result _ (IsMadeWithinAll c.args.net.now c.args.routing.now.routes c.args.set) (λ m made. record {
      made = made;
      all_matrices = λ bounded. absurd (subst HasBounds (c.has_all_matrices.ensures c.if-has_all_matrices.true) bounded);
    }) c.improve.ensures.made

pub returns-else-has_all_matrices : goal.returns-else-has_all_matrices
returns-else-has_all_matrices c =
    both c.make.result _ _ (IsMadeWithinAll c.args.net.now c.args.routing.now.routes c.args.set)
    (λ m made all. record { made = made; all_matrices = all }) c.make.ensures.made c.make.ensures.all_matrices
