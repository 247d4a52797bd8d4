-- The table of the test commands is sound.
use Rattle.std.proofs.Common.{◌≡◌, ◌⊎◌, ◌≤◌, ◌<◌, ℕ, List, ◌∷◌, [], ◌++◌, codes, inl, inr, refl, sym, ◌∙◌, arith}
use Rattle.std.proofs.lemmas.Bool.{cases_lt}
use Rattle.command_frame.specs.Sound.{IsRegular, IsSound, HasText}
use Rattle.command_frame.specs.Table.{IsSoundEntry, IsSoundTable}
use Rattle.frame_tests.specs.SizeFile.{sizes, size_of, size_limits}
use Rattle.frame_tests.specs.Sizes.{SizeCommand, tally, same, tally_of, sameness_of, entry_of, commands}

sizes_regular : IsRegular sizes
sizes_regular = record { limited = size_limits; once = λ bytes x y p q. sym p ∙ q; some = λ bytes. (size_of bytes, refl) }

tally_sound : (size : ℕ) → IsSound (λ s text. s ≡ 0) (tally_of size)
tally_sound size = record {
  once = λ s t p q. p ∙ sym q;
  some = (0, refl);
  of_text = λ s text is. is.0;
  proves = λ text is. is.1;
  form = λ s text is. is.0;
  accepted = λ text is. omega (arith, is.0);
}

same_once : (a b s t : ℕ) → (sameness_of a b).status s → (sameness_of a b).status t → s ≡ t
same_once a b s t (inl x) (inl y) = x.0 ∙ sym y.0
same_once a b s t (inl x) (inr y) = absurd (y.1 x.1)
same_once a b s t (inr x) (inl y) = absurd (x.1 y.1)
same_once a b s t (inr x) (inr y) = x.0 ∙ sym y.0

same_text_once : (a b s t : ℕ) (x y : List ℕ) → (sameness_of a b).text s x → (sameness_of a b).text t y → x ≡ y
same_text_once a b s t x y (inl p) (inl q) = p.2 ∙ sym q.2
same_text_once a b s t x y (inl p) (inr q) = absurd (q.1 p.1)
same_text_once a b s t x y (inr p) (inl q) = absurd (p.1 q.1)
same_text_once a b s t x y (inr p) (inr q) = p.2 ∙ sym q.2

-- two numbers are one or not
eq_or_not : (a b : ℕ) → (a ≡ b) ⊎ ¬ (a ≡ b)
eq_or_not a b = go (cases_lt a b) (cases_lt b a)
  where
    go : (a < b) ⊎ (b ≤ a) → (b < a) ⊎ (a ≤ b) → (a ≡ b) ⊎ ¬ (a ≡ b)
    go (inl less) other = inr (λ is. omega (arith, less, is))
    go (inr most) (inl less) = inr (λ is. omega (arith, less, is))
    go (inr most) (inr least) = inl (omega (arith, most, least))

same_some : (a b : ℕ) → HasText (sameness_of a b)
same_some a b = go (eq_or_not a b)
  where
    go : (a ≡ b) ⊎ ¬ (a ≡ b) → HasText (sameness_of a b)
    go (inl is) = (0, codes "same" ++ 10 ∷ [], inl (refl, is, refl))
    go (inr other) = (1, codes "other" ++ 10 ∷ [], inr (refl, other, refl))

same_of_text : (a b s : ℕ) (text : List ℕ) → (sameness_of a b).text s text → (sameness_of a b).status s
same_of_text a b s text (inl x) = inl (x.0, x.1)
same_of_text a b s text (inr x) = inr (x.0, x.1)

same_proves : (a b : ℕ) (text : List ℕ) → (sameness_of a b).text 0 text → a ≡ b
same_proves a b text (inl x) = x.1
same_proves a b text (inr x) = absurd (omega (arith, x.0))

same_small : (a b s : ℕ) (text : List ℕ) → (sameness_of a b).text s text → s ≤ 1
same_small a b s text (inl x) = omega (arith, x.0)
same_small a b s text (inr x) = omega (arith, x.0)

same_sound : (a b : ℕ) → IsSound (λ s text. s ≤ 1) (sameness_of a b)
same_sound a b = record {
  once = same_once a b;
  some = let is = same_some a b in (is.0, same_of_text a b is.0 is.1 is.2);
  of_text = same_of_text a b;
  proves = same_proves a b;
  form = same_small a b;
  accepted = λ text is. let small = same_small a b 3 text is in omega (arith, small);
}

entry_sound : (command : SizeCommand) → IsSoundEntry (entry_of command)
entry_sound (tally file) = record {
  regular = (sizes_regular, λ size. tt);
  sound = λ bytes size gives. tally_sound size;
  one_text = λ is bytes size gives s t x y p q. p.1 ∙ sym q.1;
  some_text = λ is bytes size gives. (0, _, (refl, refl));
}
entry_sound (same first second) = record {
  regular = (sizes_regular, λ size. (sizes_regular, λ other. tt));
  sound = λ bytes size gives rest other makes. same_sound size other;
  one_text = λ is bytes size gives rest other makes. same_text_once size other;
  some_text = λ is bytes size gives rest other makes. same_some size other;
}

in_range : (command : SizeCommand) → (entry_of command).in_range
in_range (tally file) = tt
in_range (same first second) = tt

pub sizes_sound : IsSoundTable commands
sizes_sound = record { entries = entry_sound; in_range = λ words command named. in_range command }
