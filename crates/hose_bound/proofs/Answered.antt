-- What is answered of a certificate's routing.
use Rattle.std.proofs.Common.{◌≡◌, List, refl}
use Rattle.te_model.specs.declared.network.Network.{Network}
use Rattle.te_model.specs.declared.route.PairRoutes.{PairRoutes}
use Rattle.te_model.specs.Laws.{PairsJoinNodes}
use Rattle.hose_bound.specs.declared.hose.Hose.{Hose}
use Rattle.hose_bound.specs.declared.hose.HoseCert.{HoseCert}
use Rattle.hose_bound.specs.declared.verdict.HoseVerdict.{HoseVerdict}
use Rattle.hose_bound.specs.declared.verdict.HoseVerdict.TheVariants.{Yes, No}
use Rattle.hose_bound.specs.Answers.{IsBoundedBy, IsHoseText, MadeCertsAreYes, hose_verdict, verdict_status}
use Rattle.hose_bound.specs.Files.{hose_cert_text}
use Rattle.hose_bound.specs.Making.{IsMadeFor}
use Rattle.hose_bound.proofs.Meaning.{text_means}
use Rattle.hose_bound.proofs.Verdicts.{yes_is_bound, yes_is_holds}

status_is_yes : (v : HoseVerdict) → verdict_status v ≡ 0 → v ≡ Yes
status_is_yes Yes e = refl
status_is_yes (No link rule place) e = cc

-- at the status 0 the routing is bounded
pub answered_bound : (net : Network) (routes : List PairRoutes) (c : HoseCert) (v : HoseVerdict) → PairsJoinNodes net routes → v ≡ hose_verdict net routes c →
    verdict_status v ≡ 0 → IsBoundedBy net routes c
answered_bound net routes c v ends is zero' = yes_is_bound net routes c v ends is (status_is_yes v zero')

pub made_certs_are_yes : MadeCertsAreYes
made_certs_are_yes net routes h c made = (text_means net c made.valid, (yes_is_holds net routes c (hose_verdict net routes c) refl).1 made.holds)

pub hose_text_is : (net : Network) (routes : List PairRoutes) (h : Hose) (c : HoseCert) → PairsJoinNodes net routes → IsMadeFor net routes h c →
    IsHoseText net routes h (hose_cert_text c)
hose_text_is net routes h c ends made = record {
  cert = c;
  made = made;
  bounded = yes_is_bound net routes c (hose_verdict net routes c) ends refl (made_certs_are_yes net routes h c made).1;
  text_is = refl;
}
