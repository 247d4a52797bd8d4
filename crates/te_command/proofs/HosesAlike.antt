-- What `hose` and `check-hose` say of a file and of the one that `convert` makes of it, and what the second says of the first's text.
use Rattle.std.proofs.Common.{◌≡◌, ◌≤◌, ◌↔◌, ℕ, List, [], length, Option, Some, Ok, inl, inr, refl, sym, ap, subst, arith}
use Rattle.te_ports.specs.Record.{Read as FileRead}
use Rattle.te_model.specs.declared.certificate.Certificate.{Certificate}
use Rattle.te_model.specs.declared.certificate.Head.{Head}
use Rattle.te_model.specs.Upgrade.{upgraded_certificate}
use Rattle.te_model.specs.Validity.{IsValidHead}
use Rattle.hose_bound.specs.declared.hose.Hose.{Hose}
use Rattle.hose_bound.specs.declared.verdict.HoseVerdict.{HoseVerdict}
use Rattle.hose_bound.specs.declared.verdict.HoseVerdict.TheVariants.{Yes}
use Rattle.hose_bound.specs.Answers.{IsHoseText, IsHoseVerdict, verdict_line, verdict_status}
use Rattle.hose_bound.specs.Reading.{MeansHoseCert}
use Rattle.hose_bound.proofs.Answered.{made_certs_are_yes}
use Rattle.hose_bound.proofs.ShortTexts.{hose_texts_are_short}
use Rattle.ratio_checker.proofs.FormedHeads.{head_formed}
use Rattle.command_frame.specs.Files.{told_files, told_passes}
use Rattle.command_frame.specs.Reading.{Means, MeansAfter}
use Rattle.routing_commands.specs.BoundHose.{bounds_reading, SaysYesToHose}
use Rattle.routing_commands.specs.CheckHose.{hose_cert_reading}
use Rattle.te_command.specs.Commands.{bound_hose, check_hose, convert, reading_of}
use Rattle.command_files.specs.InputFile.{input_limit}
use Rattle.te_command.proofs.Alike.{after_conversion, before_conversion}
use Rattle.command_files.proofs.Streaming.{spelled_head}

-- of a head no more counts than its network and its routes

bounds_alike : (c : Certificate) (content : List ℕ → Option (List ℕ)) (bounds : List ℕ) (before : List FileRead) (status : ℕ) (text : List ℕ) →
    MeansAfter (bounds_reading bounds c.head) (told_passes content) before status text
    ↔ MeansAfter (bounds_reading bounds (upgraded_certificate c).head) (told_passes content) before status text
bounds_alike c content bounds before status text = (λ means. means, λ means. means)

hose_certs_alike : (c : Certificate) (content : List ℕ → Option (List ℕ)) (file : List ℕ) (before : List FileRead) (status : ℕ) (text : List ℕ) →
    MeansAfter (hose_cert_reading file c.head) (told_passes content) before status text
    ↔ MeansAfter (hose_cert_reading file (upgraded_certificate c).head) (told_passes content) before status text
hose_certs_alike c content file before status text = (λ means. means, λ means. means)

module _ (content : List ℕ → Option (List ℕ)) (file made made_text : List ℕ) (at : content made ≡ Some made_text)
    (converted : Means (reading_of (convert file)) (told_files content) 0 made_text) (status : ℕ) (text : List ℕ) where
  pub bounds_of_converted : (bounds : List ℕ) →
      Means (reading_of (bound_hose file bounds)) (told_files content) status text ↔ Means (reading_of (bound_hose made bounds)) (told_files content) status text
  bounds_of_converted bounds = (
    after_conversion content file made made_text (λ spelled. bounds_reading bounds spelled.head) [] status text at converted
        (λ c now. (bounds_alike c content bounds now status text).0),
    before_conversion content file made made_text (λ spelled. bounds_reading bounds spelled.head) [] status text at converted
        (λ c now. (bounds_alike c content bounds now status text).1),
  )

  pub hose_certs_of_converted : (hose : List ℕ) →
      Means (reading_of (check_hose file hose)) (told_files content) status text ↔ Means (reading_of (check_hose made hose)) (told_files content) status text
  hose_certs_of_converted hose = (
    after_conversion content file made made_text (λ spelled. hose_cert_reading hose spelled.head) [] status text at converted
        (λ c now. (hose_certs_alike c content hose now status text).0),
    before_conversion content file made made_text (λ spelled. hose_cert_reading hose spelled.head) [] status text at converted
        (λ c now. (hose_certs_alike c content hose now status text).1),
  )

-- ---- what `hose` writes is answered yes

yes_after : (h : Head) (hose : Hose) (content : List ℕ → Option (List ℕ)) (name text : List ℕ) (before : List FileRead) → IsValidHead h →
    content name ≡ Some text → (is : IsHoseText h.network h.routes hose text) →
    MeansAfter (hose_cert_reading name h) (told_passes content) before 0 (verdict_line is.cert.bound Yes)
yes_after h hose content name text before valid told is =
    let yes = made_certs_are_yes h.network h.routes hose is.cert is.made in
    let short = hose_texts_are_short h.network is.cert (head_formed h valid) is.made.valid in
    let same = ap (λ (t : List ℕ). length t) is.text_is in
    let fits : length text ≤ input_limit = omega (arith, short, same) in
    let means : MeansHoseCert h.network text (Ok is.cert) = subst (λ (t : List ℕ). MeansHoseCert h.network t (Ok is.cert)) (sym is.text_is) yes.0 in
    let verdict : IsHoseVerdict h is.cert 0 (verdict_line is.cert.bound Yes) =
    subst (λ (v : HoseVerdict). (0 ≡ verdict_status v) × (verdict_line is.cert.bound Yes ≡ verdict_line is.cert.bound v)) (sym yes.1) (refl, refl)
    in
    inr (is.cert, before, (text, told, fits, means), (verdict, tt))

pub hose_texts_are_answered_yes : (content : List ℕ → Option (List ℕ)) (file bounds made text : List ℕ) →
    Means (reading_of (bound_hose file bounds)) (told_files content) 0 text → content made ≡ Some text →
    (line : List ℕ) × SaysYesToHose text line × Means (reading_of (check_hose file made)) (told_files content) 0 line
hose_texts_are_answered_yes content file bounds made text (inl (three, now, refused, ended)) told = absurd (omega (arith, three))
hose_texts_are_answered_yes content file bounds made text (inr (c, now, gives, inl (three, then, refused, ended))) told = absurd (omega (arith, three))
hose_texts_are_answered_yes content file bounds made text (inr (c, now, (bytes, told_as, few, spells), inr (hose, then, gives, ((zero, is), ended)))) told = (
  verdict_line is.cert.bound Yes,
  record { cert = is.cert; file = is.text_is; line_is = refl },
  inr (c, now, (bytes, told_as, few, spells), yes_after c.head hose content made text now (spelled_head bytes c spells) told is),
)
