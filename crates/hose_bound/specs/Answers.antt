-- What is answered of a certificate's routing: to a hose certificate, and to a hose. The status, and the whole text.
use Rattle.std.specs.Prelude.{◌≡◌, ℕ, ◌+◌, ◌*◌, ◌≤◌, ◌++◌, List, [], ◌∷◌, Ok, codes, length, slice_index, IsTrue}
use Rattle.std.specs.Fmt.{decimal}
use Rattle.te_model.specs.declared.certificate.Head.{Head}
use Rattle.te_model.specs.declared.network.Network.{Network}
use Rattle.te_model.specs.declared.route.PairRoutes.{PairRoutes}
use Rattle.te_model.specs.Network.{is_well_formed}
use Rattle.hose_bound.specs.declared.hose.Hose.{Hose}
use Rattle.hose_bound.specs.declared.hose.HoseCert.{HoseCert}
use Rattle.hose_bound.specs.declared.verdict.HoseVerdict.{HoseVerdict}
use Rattle.hose_bound.specs.declared.verdict.HoseVerdict.TheVariants.{Yes, No}
use Rattle.hose_bound.specs.Files.{hose_cert_text}
use Rattle.hose_bound.specs.Hose.{IsBounded}
use Rattle.hose_bound.specs.Making.{IsLeastBoundOf, IsMadeFor}
use Rattle.hose_bound.specs.Reading.{MeansHoseCert}
use Rattle.hose_bound.specs.Rules.{IsValidHoseCert}
use Rattle.hose_bound.specs.Verdict.{first_hose_failure, verdict_of}

-- the status and the line of a verdict on a hose certificate with this bound
abbrev pub verdict_status : HoseVerdict → ℕ
verdict_status Yes = 0
verdict_status (No link rule place) = 1

abbrev pub verdict_line : ℕ → HoseVerdict → List ℕ
verdict_line bound Yes = codes "yes bound " ++ (decimal bound ++ 10 ∷ [])
verdict_line bound (No link rule place) =
    codes "no link " ++ (decimal link ++ (codes " rule H" ++ (decimal rule ++ (codes " place " ++ (decimal place ++ 10 ∷ [])))))

-- the verdict on a hose certificate of this routing
abbrev pub hose_verdict : Network → List PairRoutes → HoseCert → HoseVerdict
hose_verdict net routes c = verdict_of (first_hose_failure net routes c)

-- the answer to a hose certificate
abbrev pub IsHoseVerdict : Head → HoseCert → ℕ → List ℕ → Type 0
IsHoseVerdict h c status text =
    (status ≡ verdict_status (hose_verdict h.network h.routes c)) × (text ≡ verdict_line c.bound (hose_verdict h.network h.routes c))

-- the routing is bounded as the hose certificate says
abbrev pub IsBoundedBy : Network → List PairRoutes → HoseCert → Type 0
IsBoundedBy net routes c = IsBounded net routes (slice_index c.hose.sent) (slice_index c.hose.received) c.bound

-- the text is the file of a hose certificate that may be made for the hose, by whose bound the routing is bounded
pub record IsHoseText (net : Network) (routes : List PairRoutes) (h : Hose) (text : List ℕ) : Type 0 where
  pub cert : HoseCert
  pub made : IsMadeFor net routes h cert
  pub bounded : IsBoundedBy net routes cert
  pub text_is : text ≡ hose_cert_text cert

-- and below its bound none is true of the routing
pub record IsLeastHoseText (net : Network) (routes : List PairRoutes) (h : Hose) (text : List ℕ) : Type 0 where
  pub cert : HoseCert
  pub made : IsMadeFor net routes h cert
  pub least : IsLeastBoundOf net routes h cert.bound
  pub text_is : text ≡ hose_cert_text cert

-- The text of a hose certificate that may be made is read as that certificate, and the verdict on it is yes.
abbrev pub MadeCertsAreYes : Type 0
MadeCertsAreYes =
    (net : Network) (routes : List PairRoutes) (h : Hose) (c : HoseCert) → IsMadeFor net routes h c →
    MeansHoseCert net (hose_cert_text c) (Ok c) × (hose_verdict net routes c ≡ Yes)

-- The text of a valid hose certificate is short: at most 2,100 bytes for each of 1,024 blocks, and 3,200 besides.
abbrev pub HoseTextsAreShort : Type 0
HoseTextsAreShort =
    (net : Network) (c : HoseCert) → IsTrue (is_well_formed net) → IsValidHoseCert net c → length (hose_cert_text c) ≤ 1024 * 2100 + 3200
