-- What `bounds` answers of a certificate: one text, and a table proves its needs.
use Rattle.std.proofs.Common.{◌≡◌, ◌⊎◌, ℕ, List, Option, Some, None, inl, inr, refl, sym, ap, ◌∙◌, arith}
use Rattle.te_model.specs.declared.certificate.Certificate.{Certificate}
use Rattle.te_model.specs.Feasible.{first_infeasibility}
use Rattle.te_model.specs.Inequalities.{LinkFailure}
use Rattle.te_model.specs.Text.{Spells}
use Rattle.te_model.proofs.FeasibleBlocks.{feasible_or_fails}
use Rattle.link_bounds.specs.Table.{bounds_text}
use Rattle.link_bounds.proofs.NeedLaws.{needs_proved}
use Rattle.command_frame.specs.Sound.{IsSound}
use Rattle.command_frame.specs.Table.{IsSoundEntry}
use Rattle.certificate_commands.specs.Bounds.{IsBoundsAnswer, IsBoundsProof, IsBoundsTable, SaysInfeasible, bounds_entry, bounds_of}
use Rattle.command_files.specs.Check.{no_line}
use Rattle.certificate_commands.proofs.Checking.{failure_once, no_failure}
use Rattle.command_files.proofs.Regular.{certificates_regular}

-- two lines of one certificate are the same
pub infeasible_once : (c : Certificate) (a b : List ℕ) → SaysInfeasible c a → SaysInfeasible c b → a ≡ b
infeasible_once c a b x y =
    x.line_is ∙ ap (λ f. no_line f.link f.rule f.place) (failure_once (first_infeasibility c) x.failure y.failure x.fails y.fails) ∙ sym y.line_is

-- and there is none where none of I1 to I3 fails
pub infeasible_none : (c : Certificate) (line : List ℕ) → first_infeasibility c ≡ None → SaysInfeasible c line → ⊥
infeasible_none c line none says = no_failure (first_infeasibility c) says.failure none says.fails

-- a certificate has one answer
answer_once : (c : Certificate) (s t : ℕ) (a b : List ℕ) → IsBoundsAnswer c s a → IsBoundsAnswer c t b → (s ≡ t) × (a ≡ b)
answer_once c s t a b (inl x) (inl y) = (x.0 ∙ sym y.0, x.2 ∙ sym y.2)
answer_once c s t a b (inl x) (inr y) = absurd (infeasible_none c b x.1 y.1)
answer_once c s t a b (inr x) (inl y) = absurd (infeasible_none c a y.1 x.1)
answer_once c s t a b (inr x) (inr y) = (x.0 ∙ sym y.0, infeasible_once c a b x.1 y.1)

-- there is one
answer_some : (c : Certificate) → (s : ℕ) × (text : List ℕ) × IsBoundsAnswer c s text
answer_some c = go (first_infeasibility c) refl
  where
    go : (o : Option LinkFailure) → first_infeasibility c ≡ o → (s : ℕ) × (text : List ℕ) × IsBoundsAnswer c s text
    go None is = (0, bounds_text c, inl (refl, is, refl))
    go (Some f) is = (1, no_line f.link f.rule f.place, inr (refl, record { failure = f; fails = is; line_is = refl }))

-- a table proves its needs
answer_proves : (bytes : List ℕ) (c : Certificate) (text : List ℕ) → Spells bytes c → IsBoundsAnswer c 0 text → IsBoundsProof c text
answer_proves bytes c text spells (inl x) = record { table = x.2; needs = needs_proved c spells.0 ((feasible_or_fails c).0 x.1) }
answer_proves bytes c text spells (inr x) = absurd (omega (arith, x.0))

answer_form : (bytes : List ℕ) (c : Certificate) (s : ℕ) (text : List ℕ) → Spells bytes c → IsBoundsAnswer c s text → ((s ≡ 0) × IsBoundsTable text) ⊎ (s ≡ 1)
answer_form bytes c s text spells (inl x) =
    inl (x.0, record { certificate = c; valid = spells.0; feasible = (feasible_or_fails c).0 x.1; text_is = x.2 })
answer_form bytes c s text spells (inr x) = inr x.0

answer_three : (c : Certificate) (text : List ℕ) → IsBoundsAnswer c 3 text → ⊥
answer_three c text (inl x) = omega (arith, x.0)
answer_three c text (inr x) = omega (arith, x.0)

bounds_sound : (bytes : List ℕ) (c : Certificate) → Spells bytes c → IsSound (λ s text. ((s ≡ 0) × IsBoundsTable text) ⊎ (s ≡ 1)) (bounds_of c)
bounds_sound bytes c spells = record {
  once = λ s t p q. (answer_once c s t p.0 q.0 p.1 q.1).0;
  some = let is = answer_some c in (is.0, (is.1, is.2));
  of_text = λ s text is. (text, is);
  proves = λ text is. answer_proves bytes c text spells is;
  form = λ s text is. answer_form bytes c s text spells is;
  accepted = λ text is. answer_three c text is;
}

pub bounds_is_sound : (file : List ℕ) → IsSoundEntry (bounds_entry file)
bounds_is_sound file = record {
  regular = (certificates_regular, λ c. tt);
  sound = λ bytes c spells. bounds_sound bytes c spells;
  one_text = λ is bytes c spells s t x y p q. (answer_once c s t x y p q).1;
  some_text = λ is bytes c spells. answer_some c;
}
