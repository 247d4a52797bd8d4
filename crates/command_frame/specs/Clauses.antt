-- The clauses of the top call as one record of plain values, and a call that ends before it.
use Rattle.std.specs.Prelude.{◌≡◌, ◌≤◌, ◌↔◌, ℕ, List, None}
use Rattle.te_ports.specs.Ports.{Rose}
use Rattle.te_ports.specs.Record.{Adds}
use Rattle.te_ports.specs.Shown.{Shown}
use Rattle.command_frame.specs.Files.{span, told_files, known_files}
use Rattle.command_frame.specs.Reading.{Means, MeansStatus, ReadFailed}
use Rattle.command_frame.specs.Table.{TableOf, OfWords, OfToldWords, reading_in}
use Rattle.command_frame.specs.Run.{Change, Says, Answered, WritesMeant, SaysMeant, WritesProof, WritesPartMeant, HasForm, ReadsInOrder, IsOrFails, GivesOrMemory, Written, Steady, Later, message}

-- a read failed of a file that is reached
abbrev pub FailsToRead : {Command : Type 0} → TableOf Command → List (List ℕ) → Shown → Shown → Type 0
FailsToRead table words old new =
    OfWords table words (λ command. ReadFailed (reading_in table command) (known_files (span old.gave new.gave) old.content) (λ file. Rose (old.faults file) (new.faults file)))

-- what the told files mean is answered
abbrev pub AnswersTold : {Command : Type 0} → TableOf Command → List (List ℕ) → Shown → ℕ → Change → Change → Type 0
AnswersTold table words old result out err = OfToldWords table words old.content (λ command. Answered (reading_in table command) (told_files old.content) result out err)

-- their status is answered, or that of a failure
abbrev pub IsExact : {Command : Type 0} → TableOf Command → List (List ℕ) → Shown → ℕ → Type 0
IsExact table words old result =
    OfToldWords table words old.content
    (λ command. (status : ℕ) → MeansStatus (reading_in table command) (told_files old.content) status → IsOrFails result status)

-- and where no read or write failed, their status with its text, or that of the want of memory
abbrev pub IsComplete : {Command : Type 0} → TableOf Command → List (List ℕ) → Shown → Shown → ℕ → Change → Type 0
IsComplete table words old new result out =
    OfToldWords table words old.content (λ command. (status : ℕ) → MeansStatus (reading_in table command) (told_files old.content) status →
    ¬ ReadFailed (reading_in table command) (told_files old.content) (λ file. Rose (old.faults file) (new.faults file)) → ¬ Rose out.before out.now →
    GivesOrMemory result out status (Means (reading_in table command) (told_files old.content) status))

-- the clauses of `run` for these words, by their names
abbrev pub RunOf : {Command : Type 0} → TableOf Command → List (List ℕ) → Shown → Shown → ℕ → Change → Change → Type 0
RunOf table words old new result out err = record {
  usage : (result ≡ 2) ↔ (table.command_of words ≡ None);
  yes : result ≡ 0 → WritesMeant table words (known_files (span old.gave new.gave) old.content) 0 out;
  no : result ≡ 1 → WritesMeant table words (known_files (span old.gave new.gave) old.content) 1 out;
  refused : result ≡ 3 → SaysMeant table words (known_files (span old.gave new.gave) old.content) 3 err;
  no_path : result ≡ 7 → SaysMeant table words (known_files (span old.gave new.gave) old.content) 7 err;
  proves : result ≡ 0 → WritesProof table words (known_files (span old.gave new.gave) old.content) out;
  part : result ≡ 5 → WritesPartMeant table words (known_files (span old.gave new.gave) old.content) out;
  told : AnswersTold table words old result out err;
  form : OfWords table words (λ command. HasForm (table.entry_of command).may_answer result out err);
  order : ReadsInOrder table words (span old.gave new.gave);
  read : result ≡ 4 → FailsToRead table words old new;
  write : result ≡ 5 → Rose out.before out.now;
  exact : IsExact table words old result;
  complete : IsComplete table words old new result out;
  written : Written result out err;
  content : new.content ≡ old.content;
  added : Adds old.content old.gave new.gave;
  steady : Steady result old.faults new.faults out;
  later : Later old.faults new.faults out err;
}

-- memory is short for the words: nothing is read, nothing is written to out, and the message is said
pub record HasNoMemoryForWords (old new : Shown) (result : ℕ) (out err : Change) : Type 0 where
  pub status : result ≡ 6
  pub unread : new ≡ old
  pub unwritten : out.new ≡ out.old
  pub steady : out.now ≡ out.before
  pub said : Says err (message 6)
  pub later : err.before ≤ err.now
