use Rattle.std.proofs.Common.{◌≡◌, ◌∙◌, List, length, refl, subst, sym}
use Rattle.std.specs.Prelude.{All}
use Rattle.te_model.specs.declared.certificate.Block.{Block}
use Rattle.te_model.specs.declared.demand.DemandSet.{DemandSet}
use Rattle.te_model.specs.Validity.{IsValid}
use Rattle.te_model.proofs.ValidParts.{valid_parts}
use Rattle.routing.proofs.Splits.{splits_of}
use Rattle.best_blocks.specs.Need.{HasNumbers}
use Rattle.link_bounds.specs.Laws.{CanReprice}
use Rattle.link_bounds.specs.Repriced.{repriced}
use Rattle.ratio_checker.proofs.FormedHeads.{head_formed}
use Rattle.best_blocks.specs.Conditions.{IsSetWithin}
use Rattle.ratio_tightening.specs.Polishing.{AreReached, CanPolish, IsDone}
use Rattle.ratio_tightening.specs.Tightened.{AreWithinGiven, lesser_blocks, with_needed_ratio, IsTighter}
use Rattle.ratio_tightening.proofs.LesserNeeds.{made_formed}
use Rattle.ratio_tightening.proofs.MadeOnHead.{made_in}
use Rattle.ratio_tightening.proofs.SameSets.{set_same}
use Rattle.ratio_tightening.proofs.Tighter.{can_polish, can_reprice, done_own, due, polished_tighter, polished_valid, reached_own, with_set}
use Rattle.best_blocks.proofs.ValidNumbers.{certificate_numbers}
use Rattle.ratio_tightening.proofs.ValidRoutings.{counts_of, routing_within, set_within}
use Rattle.ratio_tightening.proofs.tightening.tighten.Goals as goal
use Rattle.ratio_tightening.proofs.tightening.tighten.Goals.{After-new}

pub invariant_of-routing : goal.invariant_of-routing
invariant_of-routing c =
    let cert = c.args.certificate in
    record { splits = splits_of cert.head.network cert.head.routes (routing_within cert c.requires.valid).splits }

pub made_certificate-requires-clause-network : goal.made_certificate-requires-clause-network
made_certificate-requires-clause-network c = head_formed c.args.certificate.head ((valid_parts c.args.certificate).0 c.requires.valid).head

pub made_certificate-requires-clause-links : goal.made_certificate-requires-clause-links
made_certificate-requires-clause-links c = (counts_of c.args.certificate c.requires.valid).some_links

pub made_certificate-requires-clause-routing : goal.made_certificate-requires-clause-routing
made_certificate-requires-clause-routing c = routing_within c.args.certificate c.requires.valid

pub made_certificate-requires-clause-set : goal.made_certificate-requires-clause-set
made_certificate-requires-clause-set c = set_within c.args.certificate c.requires.valid

pub made_certificate-requires-clause-blocks : goal.made_certificate-requires-clause-blocks
made_certificate-requires-clause-blocks c =
    let cert = c.args.certificate in
    subst (All (HasNumbers cert.head.network)) (sym c.as_slice.ensures) (certificate_numbers cert c.requires.valid)

pub polished_lesser-requires-clause-network : goal.polished_lesser-requires-clause-network
polished_lesser-requires-clause-network c = head_formed c.args.certificate.head ((valid_parts c.args.certificate).0 c.requires.valid).head

pub polished_lesser-requires-clause-routing : goal.polished_lesser-requires-clause-routing
polished_lesser-requires-clause-routing c = routing_within c.args.certificate c.requires.valid

pub polished_lesser-requires-clause-set : goal.polished_lesser-requires-clause-set
polished_lesser-requires-clause-set c =
    let cert = c.args.certificate in
    let own = made_in cert c.in_ok-made.made c.requires.valid c.in_ok-made.ensures.made in
    subst (IsSetWithin (length cert.head.routes)) (sym own.set_is) (set_within cert c.requires.valid)

pub polished_lesser-requires-clause-given : goal.polished_lesser-requires-clause-given
polished_lesser-requires-clause-given c =
    let cert = c.args.certificate in
    subst (All (HasNumbers cert.head.network)) (sym c.as_slice-2.ensures) (certificate_numbers cert c.requires.valid)

pub polished_lesser-requires-clause-made : goal.polished_lesser-requires-clause-made
polished_lesser-requires-clause-made c =
    let cert = c.args.certificate in
    subst (All (HasNumbers cert.head.network)) (sym c.into_vec.ensures) (made_formed cert c.in_ok-made.made c.requires.valid c.in_ok-made.ensures.made)

pub polished_lesser-requires-clause-can : goal.polished_lesser-requires-clause-can
polished_lesser-requires-clause-can c =
    let cert = c.args.certificate in
    let net = cert.head.network in
    let can = can_polish cert c.in_ok-made.made c.requires.valid c.in_ok-made.ensures.made in
    subst (λ bs. All (CanPolish net cert.head.routes) (lesser_blocks net bs c.into_vec.result.items)) (sym c.as_slice-2.ensures)
    (subst (λ ms. All (CanPolish net cert.head.routes) (lesser_blocks net cert.blocks ms)) (sym c.into_vec.ensures) can)

-- the blocks are reached from the lesser ones, and the first that needs most is polished
reached : (c : After-new) → AreReached c.args.certificate.head.network c.args.certificate.head.routes c.args.certificate.head.set
    (lesser_blocks c.args.certificate.head.network c.args.certificate.blocks c.in_ok-made.made.blocks) c.new.result
reached c =
    let cert = c.args.certificate in
    let made = c.in_ok-made.made in
    let own = made_in cert made c.requires.valid c.in_ok-made.ensures.made in
    reached_own cert.head.network cert.head.routes made.head.set cert.head.set c.as_slice-2.result.now cert.blocks c.into_vec.result.items made.blocks
    c.in_ok-polished.polished.items c.new.result own.set_is c.as_slice-2.ensures c.into_vec.ensures c.new.ensures c.in_ok-polished.ensures.reached

done : (c : After-new) → IsDone c.args.certificate.head.network c.args.certificate.head.routes c.args.certificate.head.set c.new.result
done c =
    let cert = c.args.certificate in
    let made = c.in_ok-made.made in
    let own = made_in cert made c.requires.valid c.in_ok-made.ensures.made in
    done_own cert.head.network cert.head.routes made.head.set cert.head.set c.in_ok-polished.polished.items c.new.result own.set_is c.new.ensures c.in_ok-polished.ensures.done

pub reprice-requires-clause-valid : goal.reprice-requires-clause-valid
reprice-requires-clause-valid c =
    let cert = c.args.certificate in
    let made = c.in_ok-made.made in
    let is = c.in_ok-made.ensures.made in
    let own = made_in cert made c.requires.valid is in
    due cert c.new.result (λ x n. IsValid x) made.head.set made.head.network own.set_is own.network
    (polished_valid cert made c.requires.valid is c.new.result (reached (goal.at.reprice-requires-clause-valid c).After-new))

pub reprice-requires-clause-can : goal.reprice-requires-clause-can
reprice-requires-clause-can c =
    let cert = c.args.certificate in
    let made = c.in_ok-made.made in
    let is = c.in_ok-made.ensures.made in
    let own = made_in cert made c.requires.valid is in
    due cert c.new.result CanReprice made.head.set made.head.network own.set_is own.network
    (can_reprice cert made c.requires.valid is c.new.result (reached (goal.at.reprice-requires-clause-can c).After-new))

-- so what is written is the certificate with these blocks
written : (c : After-new) → repriced (with_set c.args.certificate c.in_ok-made.made.head.set c.new.result) c.in_ok-made.made.head.network
    ≡ with_needed_ratio c.args.certificate c.new.result
written c =
    let cert = c.args.certificate in
    let made = c.in_ok-made.made in
    let own = made_in cert made c.requires.valid c.in_ok-made.ensures.made in
    due cert c.new.result (λ x n. repriced x n ≡ with_needed_ratio cert c.new.result) made.head.set made.head.network own.set_is own.network refl

pub returns-clause-tightened : goal.returns-clause-tightened
returns-clause-tightened c = record {
  made = c.in_ok-made.made;
  made_is = c.in_ok-made.ensures.made;
  within =
      let cert = c.args.certificate in
      let net = cert.head.network in
      let made = c.in_ok-made.made in
      subst (λ (bs : List Block). AreWithinGiven net cert.head.routes cert.head.set bs made.blocks) c.as_slice.ensures
      (subst (λ (set : DemandSet). AreWithinGiven net cert.head.routes set c.as_slice.result.now made.blocks) (set_same cert c.requires.valid) c.in_ok-made.ensures.within);
  blocks = c.new.result;
  reached = reached (goal.at.returns-clause-tightened c).After-new;
  done = done (goal.at.returns-clause-tightened c).After-new;
  new_is = c.reprice.ensures.repriced ∙ written (goal.at.returns-clause-tightened c).After-new;
}

pub returns-clause-tighter : goal.returns-clause-tighter
returns-clause-tighter c =
    let cert = c.args.certificate in
    let made = c.in_ok-made.made in
    let after = (goal.at.returns-clause-tighter c).After-new in
    subst (IsTighter cert) (sym (c.reprice.ensures.repriced ∙ written after))
    (polished_tighter cert made c.requires.valid c.in_ok-made.ensures.made c.new.result (reached after) (done after) c.requires.feasible)
