-- What `tighten` answers of a certificate: a file to which `check` says yes, with a ratio that is no greater.
use Rattle.std.proofs.Common.{◌≡◌, ◌⊎◌, ℕ, List, [], Option, Some, None, inl, inr, refl, sym, ◌∙◌, arith}
use Rattle.std.specs.Prelude.{IfOk, Result, Ok, Err}
use Rattle.te_model.specs.declared.certificate.Certificate.{Certificate}
use Rattle.te_model.specs.declared.memory.Memory.{Memory}
use Rattle.te_model.specs.Inequalities.{LinkFailure}
use Rattle.te_model.specs.Text.{Spells, text as text_of}
use Rattle.te_model.specs.Validity.{IsValid}
use Rattle.te_model.proofs.Failures.{none_from_holds}
use Rattle.te_model.proofs.Oblivious.{holds_is_oblivious}
use Rattle.text_size.proofs.ValidSizes.{fits_file}
use Rattle.te_model.specs.Feasible.{first_infeasibility}
use Rattle.te_model.proofs.FeasibleBlocks.{feasible_or_fails}
use Rattle.ratio_tightening.specs.Tightened.{IsTightened}
use Rattle.ratio_tightening.proofs.Tighter.{tightened_exist, tightened_is_tighter}
use Rattle.command_frame.specs.declared.answer.Answer.{Answer}
use Rattle.command_frame.specs.Files.{told_files}
use Rattle.command_frame.specs.Outcome.{answer_text, status_of}
use Rattle.command_frame.specs.Reading.{Means}
use Rattle.command_frame.specs.Sound.{IsSound}
use Rattle.command_frame.specs.Table.{IsSoundEntry}
use Rattle.command_files.specs.Check.{IsAnsweredYes, no_line, yes_line, check_entry}
use Rattle.certificate_commands.specs.Tighten.{IsTightenedProof, IsTightening, tighten_entry, tightening_of}
use Rattle.certificate_commands.proofs.Bounding.{infeasible_none}
use Rattle.command_files.proofs.Regular.{certificates_regular}

-- one status
status_once : (c : Certificate) (s t : ℕ) (a b : List ℕ) → IsTightening c s a → IsTightening c t b → s ≡ t
status_once c s t a b (inl x) (inl y) = x.1.0 ∙ sym y.1.0
status_once c s t a b (inl x) (inr y) = absurd (infeasible_none c b x.0 y.1)
status_once c s t a b (inr x) (inl y) = absurd (infeasible_none c a y.0 x.1)
status_once c s t a b (inr x) (inr y) = x.0 ∙ sym y.0

answer_some : (c : Certificate) → IsValid c → (s : ℕ) × (text : List ℕ) × IsTightening c s text
answer_some c valid = go (first_infeasibility c) refl
  where
    go : (o : Option LinkFailure) → first_infeasibility c ≡ o → (s : ℕ) × (text : List ℕ) × IsTightening c s text
    go None is = let new = tightened_exist c valid in (0, text_of new.0, inl (is, (refl, (new.0, new.1, refl))))
    go (Some f) is = (1, no_line f.link f.rule f.place, inr (refl, record { failure = f; fails = is; line_is = refl }))

-- the file proves its ratio
file_proves : (bytes : List ℕ) (c : Certificate) (text : List ℕ) → Spells bytes c → first_infeasibility c ≡ None → (new : Certificate) → IsTightened c new →
    text ≡ text_of new → IsTightenedProof c text
file_proves bytes c text spells none new is written =
    let tighter = tightened_is_tighter c new spells.0 ((feasible_or_fails c).0 none) is in
    record {
      new = new;
      spelled = (tighter.valid, written);
      tightened = is;
      tighter = tighter;
      proof = record { holds = tighter.holds; ratio = holds_is_oblivious new tighter.valid tighter.holds };
    }

answer_proves : (bytes : List ℕ) (c : Certificate) (text : List ℕ) → Spells bytes c → IsTightening c 0 text → IsTightenedProof c text
answer_proves bytes c text spells (inl x) = file_proves bytes c text spells x.0 x.1.1.0 x.1.1.1 x.1.1.2
answer_proves bytes c text spells (inr x) = absurd (omega (arith, x.0))

-- so `check` says yes
answered : (c : Certificate) (text : List ℕ) → IsTightenedProof c text → IsAnsweredYes text
answered c text made =
    let fits = fits_file text made.new made.spelled in
    record {
      fits = fits;
      certificate = made.new;
      spelled = made.spelled;
      proof = made.proof;
      answer = λ file. inr (
        made.new,
        [],
        (text, refl, fits, made.spelled),
        (inl (refl, record { holds = none_from_holds made.new made.tighter.holds; line_is = refl }), tt),
      );
    }

answer_form : (bytes : List ℕ) (c : Certificate) (s : ℕ) (text : List ℕ) → Spells bytes c → IsTightening c s text → ((s ≡ 0) × IsAnsweredYes text) ⊎ (s ≡ 1)
answer_form bytes c s text spells (inl x) =
    inl (x.1.0, answered c text (file_proves bytes c text spells x.0 x.1.1.0 x.1.1.1 x.1.1.2))
answer_form bytes c s text spells (inr x) = inr x.0

answer_three : (c : Certificate) (text : List ℕ) → IsTightening c 3 text → ⊥
answer_three c text (inl x) = let zero_is = x.1.0 in omega (arith, zero_is)
answer_three c text (inr x) = omega (arith, x.0)

tightening_sound : (bytes : List ℕ) (c : Certificate) → Spells bytes c → IsSound (λ s text. ((s ≡ 0) × IsAnsweredYes text) ⊎ (s ≡ 1)) (tightening_of c)
tightening_sound bytes c spells = record {
  once = λ s t p q. status_once c s t p.0 q.0 p.1 q.1;
  some = let is = answer_some c spells.0 in (is.0, (is.1, is.2));
  of_text = λ s text is. (text, is);
  proves = λ text is. answer_proves bytes c text spells is;
  form = λ s text is. answer_form bytes c s text spells is;
  accepted = λ text is. answer_three c text is;
}

pub tighten_is_sound : (file : List ℕ) → IsSoundEntry (tighten_entry file)
tighten_is_sound file = record {
  regular = (certificates_regular, λ c. tt);
  sound = λ bytes c spells. tightening_sound bytes c spells;
  one_text = λ is. absurd is;
  some_text = λ is bytes c spells. answer_some c spells.0;
}

-- the first of I1 to I3 that fails, in its line
pub says_infeasible : (c : Certificate) (link rule place : ℕ) (r : Result Answer Memory) →
    first_infeasibility c ≡ Some (record { link = link; rule = rule; place = place }) →
    IfOk r (λ answer. (status_of answer ≡ 1) × (answer_text answer ≡ no_line link rule place)) →
    IfOk r (λ answer. IsTightening c (status_of answer) (answer_text answer))
says_infeasible c link rule place (Ok answer) found line =
    inr (line.0, record { failure = record { link = link; rule = rule; place = place }; fails = found; line_is = line.1 })
says_infeasible c link rule place (Err e) found line = line

-- What `tighten` wrote of a told file is answered yes.
pub tightened_yes : (content : List ℕ → Option (List ℕ)) (file made text : List ℕ) → content made ≡ Some text →
    Means (tighten_entry file).reading (told_files content) 0 text → (line : List ℕ) × Means (check_entry made).reading (told_files content) 0 line
tightened_yes content file made text at (inl (three, now, refused, ended)) = absurd (omega (arith, three))
tightened_yes content file made text at (inr (c, now, (bytes, told_as, few, spells), (inr x, ended))) = absurd (omega (arith, x.0))
tightened_yes content file made text at (inr (c, now, (bytes, told_as, few, spells), (inl x, ended))) =
    let is = file_proves bytes c text spells x.0 x.1.1.0 x.1.1.1 x.1.1.2 in (
      yes_line is.new.head.ratio is.new.head.set,
      inr (
        is.new,
        [],
        (text, at, fits_file text is.new is.spelled, is.spelled),
        (inl (refl, record { holds = none_from_holds is.new is.tighter.holds; line_is = refl }), tt),
      ),
    )
