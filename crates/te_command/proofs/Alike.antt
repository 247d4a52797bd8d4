-- What `check` says of a file and of the one that `convert` makes of it, and how other commands say the same of both.
use Rattle.std.proofs.Common.{◌≡◌, ◌<◌, ◌≤◌, ℕ, List, [], length, Option, Some, Err, inl, inr, refl, sym, ◌∙◌, subst, arith}
use Rattle.te_ports.specs.Record.{Read as FileRead}
use Rattle.te_model.specs.declared.certificate.Certificate.{Certificate}
use Rattle.te_model.specs.Text.{Spells, text as text_of}
use Rattle.te_model.specs.Upgrade.{box_of, upgraded_certificate}
use Rattle.te_model.proofs.Upgrading.{failures_kept}
use Rattle.cert_text.proofs.Laws.{one_spelling}
use Rattle.text_size.proofs.ValidSizes.{fits_file}
use Rattle.command_frame.specs.Files.{told_files, told_passes}
use Rattle.command_frame.specs.Reading.{Means, MeansAfter, Reading, reads}
use Rattle.command_files.specs.CertificateFile.{certificates, GivesCertificate}
use Rattle.command_files.specs.Check.{IsVerdict, yes_line}
use Rattle.te_command.specs.Commands.{check, convert, reading_of}
use Rattle.te_command.specs.Converted.{SayYesAlike}
use Rattle.command_frame.proofs.Ending.{some_once}
use Rattle.certificate_commands.proofs.Converting.{spells_upgraded}
use Rattle.command_files.proofs.Regular.{spelled_accepted}

no_kept : (c : Certificate) (line : List ℕ) → IsVerdict c 1 line → IsVerdict (upgraded_certificate c) 1 line
no_kept c line (inl holds) = absurd (omega (arith, holds.0))
no_kept c line (inr fails) = inr (refl, record { failure = fails.1.failure; fails = failures_kept c ∙ fails.1.fails; line_is = fails.1.line_is })

yes_kept : (c : Certificate) (line : List ℕ) → IsVerdict c 0 line → (boxed : List ℕ) × SayYesAlike line boxed × IsVerdict (upgraded_certificate c) 0 boxed
yes_kept c line (inl holds) = (
  yes_line c.head.ratio (box_of c.head.set),
  record { ratio = c.head.ratio; set = c.head.set; line_is = holds.1.line_is; boxed_is = refl },
  inl (refl, record { holds = failures_kept c ∙ holds.1.holds; line_is = refl }),
)
yes_kept c line (inr fails) = absurd (omega (arith, fails.0))

-- the file is told in one way, and spells one certificate
pub one_certificate : (content : Option (List ℕ)) (bytes all : List ℕ) (c d : Certificate) → content ≡ Some bytes → content ≡ Some all →
    Spells bytes c → Spells all d → d ≡ c
one_certificate content bytes all c d at is spells spelled =
    one_spelling bytes d c (subst (λ b. Spells b d) (some_once content all bytes is at) spelled) spells

-- an answer on the made file is one on the certificate in the second format
of_made : (content : List ℕ → Option (List ℕ)) (made bytes text line : List ℕ) (c : Certificate) (status : ℕ) → content made ≡ Some text →
    Spells bytes c → text ≡ text_of (upgraded_certificate c) → IsVerdict (upgraded_certificate c) status line → Means (reading_of (check made)) (told_files content) status line
of_made content made bytes text line c status at spells is verdict =
    let spelled = spells_upgraded c bytes text spells is in
    inr (upgraded_certificate c, [], (text, at, fits_file text (upgraded_certificate c) spelled, spelled), (verdict, tt))

pub no_alike : (content : List ℕ → Option (List ℕ)) (file made text line : List ℕ) → content made ≡ Some text →
    Means (reading_of (convert file)) (told_files content) 0 text → Means (reading_of (check file)) (told_files content) 1 line →
    Means (reading_of (check made)) (told_files content) 1 line
no_alike content file made text line at (inl (three, now, refused, ended)) means = absurd (omega (arith, three))
no_alike content file made text line at converted (inl (three, now, refused, ended)) = absurd (omega (arith, three))
no_alike content file made text line at (inr (c, now, (bytes, told_as, few, spells), ((zero, is), ended))) (inr (d, then, (all, told_is, short, spelled), (verdict, over))) =
    of_made content made bytes text line c 1 at spells is
    (no_kept c line (subst (λ x. IsVerdict x 1 line) (one_certificate (content file) bytes all c d told_as told_is spells spelled) verdict))

pub yes_alike : (content : List ℕ → Option (List ℕ)) (file made text line : List ℕ) → content made ≡ Some text →
    Means (reading_of (convert file)) (told_files content) 0 text → Means (reading_of (check file)) (told_files content) 0 line →
    (boxed : List ℕ) × SayYesAlike line boxed × Means (reading_of (check made)) (told_files content) 0 boxed
yes_alike content file made text line at (inl (three, now, refused, ended)) means = absurd (omega (arith, three))
yes_alike content file made text line at converted (inl (three, now, refused, ended)) = absurd (omega (arith, three))
yes_alike content file made text line at (inr (c, now, (bytes, told_as, few, spells), ((zero, is), ended))) (inr (d, then, (all, told_is, short, spelled), (verdict, over))) =
    let kept = yes_kept c line (subst (λ x. IsVerdict x 0 line) (one_certificate (content file) bytes all c d told_as told_is spells spelled) verdict) in
    (kept.0, kept.1, of_made content made bytes text kept.0 c 0 at spells is kept.2)

not_longer : (x y : List ℕ) → x ≡ y → length x ≤ certificates.limit x → certificates.limit y < length y → ⊥
not_longer x y same short long = let other = subst (λ b. certificates.limit b < length b) (sym same) long in omega (arith, short, other)

-- What is meant of a converted file is meant of the one that `convert` made, where what follows says the same of both certificates.
pub after_conversion : (content : List ℕ → Option (List ℕ)) (file made made_text : List ℕ) (next : Certificate → Reading) (before : List FileRead)
    (status : ℕ) (text : List ℕ) → content made ≡ Some made_text → Means (reading_of (convert file)) (told_files content) 0 made_text →
    ((c : Certificate) (now : List FileRead) → MeansAfter (next c) (told_passes content) now status text →
    MeansAfter (next (upgraded_certificate c)) (told_passes content) now status text) →
    MeansAfter (reads Certificate certificates file next) (told_passes content) before status text →
    MeansAfter (reads Certificate certificates made next) (told_passes content) before status text
after_conversion content file made made_text next before status text at (inl (three, now, refused, ended)) alike means = absurd (omega (arith, three))
after_conversion content file made made_text next before status text at (inr (c, now, (bytes, told_as, few, spells), ((zero, is), ended))) alike (inl (three, then, inl ((all, told_is, long), line), over)) =
    absurd (not_longer bytes all (some_once (content file) bytes all told_as told_is) few long)
after_conversion content file made made_text next before status text at (inr (c, now, (bytes, told_as, few, spells), ((zero, is), ended))) alike (inl (three, then, inr (all, words, told_is, short, refused, line), over)) =
    absurd (spelled_accepted bytes c words spells (subst (λ b. GivesCertificate b (Err words)) (some_once (content file) all bytes told_is told_as) refused))
after_conversion content file made made_text next before status text at (inr (c, now, (bytes, told_as, few, spells), ((zero, is), ended))) alike (inr (d, then, (all, told_is, short, spelled), means)) =
    let same = one_certificate (content file) bytes all c d told_as told_is spells spelled in
    let upgraded = spells_upgraded c bytes made_text spells is in
    inr (
      upgraded_certificate c,
      then,
      (made_text, at, fits_file made_text (upgraded_certificate c) upgraded, upgraded),
      alike c then (subst (λ (x : Certificate). MeansAfter (next x) (told_passes content) then status text) same means),
    )

-- And what is meant of the one that `convert` made is meant of the file that was converted.
pub before_conversion : (content : List ℕ → Option (List ℕ)) (file made made_text : List ℕ) (next : Certificate → Reading) (before : List FileRead)
    (status : ℕ) (text : List ℕ) → content made ≡ Some made_text → Means (reading_of (convert file)) (told_files content) 0 made_text →
    ((c : Certificate) (now : List FileRead) → MeansAfter (next (upgraded_certificate c)) (told_passes content) now status text →
    MeansAfter (next c) (told_passes content) now status text) →
    MeansAfter (reads Certificate certificates made next) (told_passes content) before status text →
    MeansAfter (reads Certificate certificates file next) (told_passes content) before status text
before_conversion content file made made_text next before status text at (inl (three, now, refused, ended)) alike means = absurd (omega (arith, three))
before_conversion content file made made_text next before status text at (inr (c, now, (bytes, told_as, few, spells), ((zero, is), ended))) alike (inl (three, then, inl ((all, told_is, long), line), over)) =
    let fits = fits_file made_text (upgraded_certificate c) (spells_upgraded c bytes made_text spells is) in
    absurd (not_longer made_text all (some_once (content made) made_text all at told_is) fits long)
before_conversion content file made made_text next before status text at (inr (c, now, (bytes, told_as, few, spells), ((zero, is), ended))) alike (inl (three, then, inr (all, words, told_is, short, refused, line), over)) =
    let same = some_once (content made) all made_text told_is at in
    absurd (spelled_accepted made_text (upgraded_certificate c) words (spells_upgraded c bytes made_text spells is) (subst (λ b. GivesCertificate b (Err words)) same refused))
before_conversion content file made made_text next before status text at (inr (c, now, (bytes, told_as, few, spells), ((zero, is), ended))) alike (inr (d, then, (all, told_is, short, spelled), means)) =
    let same = one_certificate (content made) made_text all (upgraded_certificate c) d at told_is (spells_upgraded c bytes made_text spells is) spelled in
    inr (c, then, (bytes, told_as, few, spells), alike c then (subst (λ (x : Certificate). MeansAfter (next x) (told_passes content) then status text) same means))
