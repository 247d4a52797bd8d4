-- What the program does with an answer of the command of the words.
use Rattle.std.proofs.Common.{◌≡◌, ◌≢◌, ◌≤◌, ◌⊎◌, ℕ, List, Option, inl, inr, refl, sym, ◌∙◌, subst, arith}
use Rattle.std.specs.Io.KnownBytes.{append_known}
use Rattle.te_ports.specs.Ports.{Rose, AppendsPart}
use Rattle.command_frame.specs.declared.answer.Answer.{Answer}
use Rattle.command_frame.specs.declared.answer.Answer.TheVariants.{Done, No, NoPath}
use Rattle.command_frame.specs.Files.{Files}
use Rattle.command_frame.specs.Reading.{Reading, Means, Proves}
use Rattle.command_frame.specs.Outcome.{status_of, answer_text, Delivers}
use Rattle.command_frame.specs.Run.{Change, Says, SaysSome, Writes, WritesPart, Answered, HasForm, IsOrFails, GivesOrMemory, Written, message}

-- the statuses of what was delivered
abbrev pub IsForm : ℕ → Type 0
IsForm result = (result ≤ 1) ⊎ (result ≡ 5) ⊎ (result ≡ 7)

-- a sink to which nothing was written
abbrev pub untouched : Option (List ℕ) → ℕ → Change
untouched text faults = record { old = text; new = text; before = faults; now = faults }

-- a text of status 0 or 1 was written whole
pub delivers_whole : (status : ℕ) (text : List ℕ) (out : Change) (said : Option (List ℕ)) (faults : ℕ) → status ≤ 1 →
    out.new ≡ append_known out.old text → out.now ≡ out.before → out.before ≤ out.now → Delivers status status text out (untouched said faults)
delivers_whole status text out said faults small whole steady later = record {
  status = inl refl;
  form = inl small;
  whole = λ is. whole;
  part = λ five. absurd (omega (arith, five, small));
  write = λ five. absurd (omega (arith, five, small));
  named = λ seven. absurd (omega (arith, seven, small));
  silent = λ low other. absurd (omega (arith, low, small));
  said = λ five. absurd (omega (arith, five, small));
  quiet = λ is. refl;
  out_faults = λ other. steady;
  err_faults = λ is. refl;
  out_later = later;
  err_later = omega arith;
}

-- a write of it failed
pub delivers_part : (status : ℕ) (text : List ℕ) (out err : Change) → status ≤ 1 → AppendsPart out.old out.new text → Rose out.before out.now →
    out.before ≤ out.now → Says err (message 5) → err.before ≤ err.now → Delivers 5 status text out err
delivers_part status text out err small part rose later says err_later = record {
  status = inr (refl, small);
  form = inr (inl refl);
  whole = λ is. absurd (omega (arith, is));
  part = λ five. part;
  write = λ five. rose;
  named = λ seven. absurd (omega (arith, seven));
  silent = λ low other. absurd (other refl);
  said = λ five. says;
  quiet = λ is. absurd (omega (arith, is));
  out_faults = λ other. absurd (other refl);
  err_faults = λ is. absurd (omega (arith, is));
  out_later = later;
  err_later = err_later;
}

-- a pair without a path was named
pub delivers_name : (line : List ℕ) (text : Option (List ℕ)) (faults : ℕ) (err : Change) → Says err line → err.before ≤ err.now →
    Delivers 7 7 line (untouched text faults) err
delivers_name line text faults err says later = record {
  status = inl refl;
  form = inr (inr refl);
  whole = λ is. absurd (omega (arith, is));
  part = λ five. absurd (omega (arith, five));
  write = λ five. absurd (omega (arith, five));
  named = λ seven. says;
  silent = λ low other. refl;
  said = λ five. absurd (omega (arith, five));
  quiet = λ is. absurd (omega (arith, is));
  out_faults = λ other. refl;
  err_faults = λ is. absurd (omega (arith, is));
  out_later = omega arith;
  err_later = later;
}

pub other_status : (result status : ℕ) → IsForm result → 2 ≤ status → status ≢ 5 → status ≢ 7 → result ≡ status → ⊥
other_status result status (inl small) low five seven is = omega (arith, small, low, is)
other_status result status (inr (inl is_five)) low five seven is = five (sym is ∙ is_five)
other_status result status (inr (inr is_seven)) low five seven is = seven (sym is ∙ is_seven)

status_is : (result : ℕ) (answer : Answer) → (result ≡ status_of answer) ⊎ ((result ≡ 5) × (status_of answer ≤ 1)) → result ≢ 5 → status_of answer ≡ result
status_is result answer (inl is) other = sym is
status_is result answer (inr failed) other = absurd (other failed.0)

-- the answer has the meaning of the status that was given
at_status : (P : ℕ → List ℕ → Type 0) (answer : Answer) (result status : ℕ) (out err : Change) → Delivers result (status_of answer) (answer_text answer) out err → result ≡ status → result ≢ 5 →
    P (status_of answer) (answer_text answer) → P status (answer_text answer)
at_status P answer result status out err delivered is other meant =
    subst (λ (n : ℕ). P n (answer_text answer)) (status_is result answer delivered.status other ∙ is) meant

-- the text of that meaning was written
written : (P : ℕ → List ℕ → Type 0) (answer : Answer) (result status : ℕ) (out err : Change) → Delivers result (status_of answer) (answer_text answer) out err →
    P (status_of answer) (answer_text answer) → status ≤ 1 → result ≡ status → Writes (P status) out
written P answer result status out err delivered meant small is =
    (answer_text answer, at_status P answer result status out err delivered is (λ five. absurd (omega arith)) meant, delivered.whole (omega arith))

-- the message of that meaning was said
said : (P : ℕ → List ℕ → Type 0) (answer : Answer) (result : ℕ) (out err : Change) → Delivers result (status_of answer) (answer_text answer) out err →
    P (status_of answer) (answer_text answer) → result ≡ 7 → SaysSome (P 7) err
said P answer result out err delivered meant is =
    (answer_text answer, at_status P answer result 7 out err delivered is (λ five. absurd (omega arith)) meant, delivered.named is)

-- a part of the text of a yes or a no was written
part_written : (P : ℕ → List ℕ → Type 0) (answer : Answer) (result : ℕ) (out : Change) → (result ≡ status_of answer) ⊎ ((result ≡ 5) × (status_of answer ≤ 1)) →
    P (status_of answer) (answer_text answer) → result ≡ 5 → AppendsPart out.old out.new (answer_text answer) → WritesPart (λ text. P 0 text ⊎ P 1 text) out
part_written P (Done text) result out status meant is part = (text.items, inl meant, part)
part_written P (No line) result out status meant is part = (line.items, inr meant, part)
part_written P (NoPath line) result out (inl seven) meant is part = absurd (omega arith)
part_written P (NoPath line) result out (inr failed) meant is part = absurd (omega (arith, failed.1))

-- an answer that the files mean
pub answered : (r : Reading) (files : Files) (answer : Answer) (result : ℕ) (out err : Change) → Delivers result (status_of answer) (answer_text answer) out err →
    ((text : List ℕ) → Means r files 0 text → Proves r files text) → Means r files (status_of answer) (answer_text answer) → Answered r files result out err
answered r files answer result out err delivered proves meant = record {
  yes = λ is. written (Means r files) answer result 0 out err delivered meant (omega arith) is;
  no = λ is. written (Means r files) answer result 1 out err delivered meant (omega arith) is;
  refused = λ is. absurd (other_status result 3 delivered.form (omega arith) (λ e. omega (arith, e)) (λ e. omega (arith, e)) is);
  no_path = λ is. said (Means r files) answer result out err delivered meant is;
  proves = λ is.
      let at = written (Means r files) answer result 0 out err delivered meant (omega arith) is in
      (at.0, proves at.0 at.1, at.2);
  part = λ is. part_written (Means r files) answer result out delivered.status meant is (delivered.part is);
}

-- a refusal that the files mean
pub refused : (r : Reading) (files : Files) (line : List ℕ) (out err : Change) → Says err line → Means r files 3 line → Answered r files 3 out err
refused r files line out err says meant = record {
  yes = λ is. absurd (omega (arith, is));
  no = λ is. absurd (omega (arith, is));
  refused = λ is. (line, meant, says);
  no_path = λ is. absurd (omega (arith, is));
  proves = λ is. absurd (omega (arith, is));
  part = λ is. absurd (omega (arith, is));
}

-- an answer that may be given
pub has_form : (MayAnswer : ℕ → List ℕ → Type 0) (answer : Answer) (result : ℕ) (out err : Change) → Delivers result (status_of answer) (answer_text answer) out err →
    MayAnswer (status_of answer) (answer_text answer) → HasForm MayAnswer result out err
has_form MayAnswer answer result out err delivered form = record {
  written = λ small. written MayAnswer answer result result out err delivered form small refl;
  named = λ is. said MayAnswer answer result out err delivered form is;
}

-- the status is the one that is meant, unless a write failed
pub exact : (answer : Answer) (result status : ℕ) (out err : Change) → Delivers result (status_of answer) (answer_text answer) out err → status_of answer ≡ status →
    IsOrFails result status
exact answer result status out err delivered same = go delivered.status
  where
    go : (result ≡ status_of answer) ⊎ ((result ≡ 5) × (status_of answer ≤ 1)) → IsOrFails result status
    go (inl is) = inl (is ∙ same)
    go (inr failed) = inr (inr (inl failed.0))

-- and its text was written whole
pub complete : (P : ℕ → List ℕ → Type 0) (answer : Answer) (result status : ℕ) (out err : Change) → Delivers result (status_of answer) (answer_text answer) out err → status_of answer ≡ status →
    P (status_of answer) (answer_text answer) → ¬ Rose out.before out.now → GivesOrMemory result out status (P status)
complete P answer result status out err delivered same meant steady = go delivered.status
  where
    go : (result ≡ status_of answer) ⊎ ((result ≡ 5) × (status_of answer ≤ 1)) → GivesOrMemory result out status (P status)
    go (inl is) =
        let at : result ≡ status = is ∙ same in
        inl (at, λ small. written P answer result status out err delivered meant small at)
    go (inr failed) = absurd (steady (delivered.write failed.0))

form_known : (result : ℕ) → IsForm result → result ≤ 7
form_known result (inl small) = omega (arith, small)
form_known result (inr (inl is)) = omega (arith, is)
form_known result (inr (inr is)) = omega (arith, is)

-- the message of a failed write
form_said : (result : ℕ) (err : Change) → IsForm result → (result ≡ 5 → Says err (message 5)) → 2 ≤ result → result ≢ 3 → result ≢ 7 → Says err (message result)
form_said result err (inl small) says low three seven = absurd (omega (arith, small, low))
form_said result err (inr (inl is)) says low three seven = subst (λ (n : ℕ). Says err (message n)) (sym is) (says is)
form_said result err (inr (inr is)) says low three seven = absurd (seven is)

pub form_written : (result : ℕ) (out err : Change) → IsForm result → (2 ≤ result → result ≢ 5 → out.new ≡ out.old) → (result ≡ 5 → Says err (message 5)) →
    (result ≤ 1 → err.new ≡ err.old) → (result ≤ 1 → err.now ≡ err.before) → Written result out err
form_written result out err form silent says quiet steady = record {
  known = form_known result form;
  silent = silent;
  said = λ low three seven. form_said result err form says low three seven;
  quiet = quiet;
  err_faults = steady;
}
