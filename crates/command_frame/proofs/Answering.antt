-- What `run` promises of an answer and of a refusal.
use Rattle.std.proofs.Common.{◌≡◌, ◌≢◌, ℕ, List, [], inl, Option, Some, subst, arith}
use Rattle.te_ports.specs.Ports.{Rose}
use Rattle.te_ports.specs.Record.{Adds}
use Rattle.command_frame.specs.declared.answer.Answer.{Answer}
use Rattle.command_frame.specs.declared.answer.Answer.TheVariants.{Done, No, NoPath}
use Rattle.command_frame.specs.Files.{Files, Span, given_passes, known_passes, told_passes, given_files, told_files, known_files}
use Rattle.command_frame.specs.Reading.{Means, MeansStatus, IsTold, ReadFailed}
use Rattle.command_frame.specs.Table.{TableOf, IsSoundTable, OfWords, OfToldWords, reading_in}
use Rattle.command_frame.specs.Outcome.{status_of, answer_text, Delivers}
use Rattle.command_frame.specs.Run.{Change, Says, SaysSome, Answered, WritesMeant, SaysMeant, WritesProof, WritesPartMeant, HasForm, IsOrFails, GivesOrMemory}
use Rattle.command_frame.proofs.Telling.{means_known, failed_known, means_told, failed_told}
use Rattle.command_frame.proofs.Ending.{proved, formed, status_once, status_of_text}
use Rattle.command_frame.proofs.Delivering.{answered, refused, has_form, exact, complete}

-- what the reads of a call gave of told files are pieces of them
abbrev pub Agrees : (List ℕ → Option (List ℕ)) → Span → Type 0
Agrees content gave = Adds content gave.before gave.now

-- what holds of a command holds of the command of the words that ask for it
pub of_asked : {Command : Type 0} (table : TableOf Command) (P : Command → Type 0) (asked : Command) (words : List (List ℕ)) →
    table.command_of words ≡ Some asked → P asked → OfWords table words P
of_asked {Command = Command} table P asked words is holds command named = subst P (asked_is (table.command_of words) asked command is named) holds
  where
    asked_is : (o : Option Command) (x y : Command) → o ≡ Some x → o ≡ Some y → x ≡ y
    asked_is o x y p q = cc

-- what is promised at each status, of the command of the words
pub record AnsweredBy {Command : Type 0} (table : TableOf Command) (words : List (List ℕ)) (files : Files) (result : ℕ) (out err : Change) : Type 0 where
  pub yes : result ≡ 0 → WritesMeant table words files 0 out
  pub no : result ≡ 1 → WritesMeant table words files 1 out
  pub refused : result ≡ 3 → SaysMeant table words files 3 err
  pub no_path : result ≡ 7 → SaysMeant table words files 7 err
  pub proves : result ≡ 0 → WritesProof table words files out
  pub part : result ≡ 5 → WritesPartMeant table words files out

module _ {Command : Type 0} (table : TableOf Command) (all : IsSoundTable table) where
  known_means : (asked : Command) (content : List ℕ → Option (List ℕ)) (gave : Span) (s : ℕ) (text : List ℕ) → Agrees content gave →
      Means (reading_in table asked) (given_files gave) s text → Means (reading_in table asked) (known_files gave content) s text
  known_means asked content gave s text agrees means = means_known (reading_in table asked) content gave.now gave.before s text (all.entries asked).regular agrees means

  told_means : (asked : Command) (content : List ℕ → Option (List ℕ)) (gave : Span) (s : ℕ) (text : List ℕ) → Agrees content gave →
      Means (reading_in table asked) (given_files gave) s text → IsTold (reading_in table asked) content → Means (reading_in table asked) (told_files content) s text
  told_means asked content gave s text agrees means is =
      means_told (reading_in table asked) content gave.now gave.before [] s text is (known_means asked content gave s text agrees means)

  at_each_status : (words : List (List ℕ)) (files : Files) (result : ℕ) (out err : Change) →
      OfWords table words (λ command. Answered (reading_in table command) files result out err) → AnsweredBy table words files result out err
  at_each_status words files result out err of = record {
    yes = λ is command named. (of command named).yes is;
    no = λ is command named. (of command named).no is;
    refused = λ is command named. (of command named).refused is;
    no_path = λ is command named. (of command named).no_path is;
    proves = λ is command named. (of command named).proves is;
    part = λ is command named. (of command named).part is;
  }

  -- what reads gave, of any depot
  pub answer_given : (asked : Command) (words : List (List ℕ)) (content : List ℕ → Option (List ℕ)) (gave : Span) (answer : Answer) (result : ℕ)
      (out err : Change) → table.command_of words ≡ Some asked → Agrees content gave → Delivers result (status_of answer) (answer_text answer) out err →
      Means (reading_in table asked) (given_files gave) (status_of answer) (answer_text answer) →
      AnsweredBy table words (known_files gave content) result out err
  answer_given asked words content gave answer result out err is agrees delivered means =
      at_each_status words (known_files gave content) result out err (
      of_asked table (λ k. Answered (reading_in table k) (known_files gave content) result out err) asked words is
      (answered (reading_in table asked) (known_files gave content) answer result out err delivered
      (λ text. proved (table.entry_of asked).may_answer (reading_in table asked) (known_passes gave.now content) gave.before text (all.entries asked).sound)
      (known_means asked content gave _ _ agrees means)))

  pub refusal_given : (asked : Command) (words : List (List ℕ)) (content : List ℕ → Option (List ℕ)) (gave : Span) (line : List ℕ)
      (err : Change) → table.command_of words ≡ Some asked → Agrees content gave → Says err line → Means (reading_in table asked) (given_files gave) 3 line →
      SaysMeant table words (known_files gave content) 3 err
  refusal_given asked words content gave line err is agrees says means =
      of_asked table (λ k. SaysSome (Means (reading_in table k) (known_files gave content) 3) err) asked words is (line, known_means asked content gave 3 line agrees means, says)

  -- and of told files
  pub answer_told : (asked : Command) (words : List (List ℕ)) (content : List ℕ → Option (List ℕ)) (gave : Span) (answer : Answer) (result : ℕ)
      (out err : Change) → table.command_of words ≡ Some asked → Agrees content gave → Delivers result (status_of answer) (answer_text answer) out err →
      Means (reading_in table asked) (given_files gave) (status_of answer) (answer_text answer) →
      OfToldWords table words content (λ command. Answered (reading_in table command) (told_files content) result out err)
  answer_told asked words content gave answer result out err is agrees delivered means =
      of_asked table (λ k. IsTold (reading_in table k) content → Answered (reading_in table k) (told_files content) result out err) asked words is
      (λ tells. answered (reading_in table asked) (told_files content) answer result out err delivered
      (λ text. proved (table.entry_of asked).may_answer (reading_in table asked) (told_passes content) [] text (all.entries asked).sound)
      (told_means asked content gave _ _ agrees means tells))

  pub refusal_told : (asked : Command) (words : List (List ℕ)) (content : List ℕ → Option (List ℕ)) (gave : Span) (line : List ℕ)
      (out err : Change) → table.command_of words ≡ Some asked → Agrees content gave → Says err line → Means (reading_in table asked) (given_files gave) 3 line →
      OfToldWords table words content (λ command. Answered (reading_in table command) (told_files content) 3 out err)
  refusal_told asked words content gave line out err is agrees says means =
      of_asked table (λ k. IsTold (reading_in table k) content → Answered (reading_in table k) (told_files content) 3 out err) asked words is
      (λ tells. refused (reading_in table asked) (told_files content) line out err says (told_means asked content gave 3 line agrees means tells))

  -- no answer has the status of a refusal
  no_refusal : (answer : Answer) → status_of answer ≢ 3
  no_refusal (Done text) is = omega (arith, is)
  no_refusal (No line) is = omega (arith, is)
  no_refusal (NoPath line) is = omega (arith, is)

  -- the form of an answer
  pub answer_form : (asked : Command) (words : List (List ℕ)) (gave : Span) (answer : Answer) (result : ℕ)
      (out err : Change) → table.command_of words ≡ Some asked → Delivers result (status_of answer) (answer_text answer) out err →
      Means (reading_in table asked) (given_files gave) (status_of answer) (answer_text answer) → OfWords table words (λ command. HasForm (table.entry_of command).may_answer result out err)
  answer_form asked words gave answer result out err is delivered means =
      of_asked table (λ k. HasForm (table.entry_of k).may_answer result out err) asked words is
      (has_form (table.entry_of asked).may_answer answer result out err delivered (formed (table.entry_of asked).may_answer (reading_in table asked) (given_passes gave.now) gave.before _ _ (all.entries asked).sound (no_refusal answer) means))

  -- the status that is meant
  one_status : (asked : Command) (content : List ℕ → Option (List ℕ)) (s status : ℕ) (text : List ℕ) → Means (reading_in table asked) (told_files content) s text →
      MeansStatus (reading_in table asked) (told_files content) status → s ≡ status
  one_status asked content s status text means is =
      status_once (table.entry_of asked).may_answer (reading_in table asked) content [] [] s status (all.entries asked).regular (all.entries asked).sound
      (status_of_text (table.entry_of asked).may_answer (reading_in table asked) (told_passes content) [] s text (all.entries asked).sound means) is

  pub answer_exact : (asked : Command) (words : List (List ℕ)) (content : List ℕ → Option (List ℕ)) (gave : Span) (answer : Answer) (result : ℕ)
      (out err : Change) → table.command_of words ≡ Some asked → Agrees content gave → Delivers result (status_of answer) (answer_text answer) out err →
      Means (reading_in table asked) (given_files gave) (status_of answer) (answer_text answer) →
      OfToldWords table words content (λ command. (status : ℕ) → MeansStatus (reading_in table command) (told_files content) status →
      IsOrFails result status)
  answer_exact asked words content gave answer result out err is agrees delivered means =
      of_asked table (λ k. IsTold (reading_in table k) content → (status : ℕ) → MeansStatus (reading_in table k) (told_files content) status →
      IsOrFails result status) asked words is
      (λ tells status meant. exact answer result status out err delivered
      (one_status asked content _ status _ (told_means asked content gave _ _ agrees means tells) meant))

  pub refusal_exact : (asked : Command) (words : List (List ℕ)) (content : List ℕ → Option (List ℕ)) (gave : Span) (line : List ℕ) →
      table.command_of words ≡ Some asked → Agrees content gave → Means (reading_in table asked) (given_files gave) 3 line →
      OfToldWords table words content (λ command. (status : ℕ) → MeansStatus (reading_in table command) (told_files content) status →
      IsOrFails 3 status)
  refusal_exact asked words content gave line is agrees means =
      of_asked table (λ k. IsTold (reading_in table k) content → (status : ℕ) → MeansStatus (reading_in table k) (told_files content) status →
      IsOrFails 3 status) asked words is
      (λ tells status meant. inl (one_status asked content 3 status line (told_means asked content gave 3 line agrees means tells) meant))

  -- and its text
  pub answer_complete : (asked : Command) (words : List (List ℕ)) (content : List ℕ → Option (List ℕ)) (gave : Span) (Fails : List ℕ → Type 0)
      (answer : Answer) (result : ℕ) (out err : Change) → table.command_of words ≡ Some asked → Agrees content gave → Delivers result (status_of answer) (answer_text answer) out err →
      Means (reading_in table asked) (given_files gave) (status_of answer) (answer_text answer) →
      OfToldWords table words content (λ command. (status : ℕ) → MeansStatus (reading_in table command) (told_files content) status →
      ¬ ReadFailed (reading_in table command) (told_files content) Fails → ¬ Rose out.before out.now →
      GivesOrMemory result out status (Means (reading_in table command) (told_files content) status))
  answer_complete asked words content gave Fails answer result out err is agrees delivered means =
      of_asked table (λ k. IsTold (reading_in table k) content → (status : ℕ) → MeansStatus (reading_in table k) (told_files content) status →
      ¬ ReadFailed (reading_in table k) (told_files content) Fails → ¬ Rose out.before out.now →
      GivesOrMemory result out status (Means (reading_in table k) (told_files content) status)) asked words is
      (λ tells status meant unread steady.
      let at = told_means asked content gave _ _ agrees means tells in
      complete (Means (reading_in table asked) (told_files content)) answer result status out err delivered (one_status asked content _ status _ at meant) at steady)

  pub refusal_complete : (asked : Command) (words : List (List ℕ)) (content : List ℕ → Option (List ℕ)) (gave : Span) (Fails : List ℕ → Type 0)
      (line : List ℕ) (out : Change) → table.command_of words ≡ Some asked → Agrees content gave → Means (reading_in table asked) (given_files gave) 3 line →
      OfToldWords table words content (λ command. (status : ℕ) → MeansStatus (reading_in table command) (told_files content) status →
      ¬ ReadFailed (reading_in table command) (told_files content) Fails → ¬ Rose out.before out.now →
      GivesOrMemory 3 out status (Means (reading_in table command) (told_files content) status))
  refusal_complete asked words content gave Fails line out is agrees means =
      of_asked table (λ k. IsTold (reading_in table k) content → (status : ℕ) → MeansStatus (reading_in table k) (told_files content) status →
      ¬ ReadFailed (reading_in table k) (told_files content) Fails → ¬ Rose out.before out.now →
      GivesOrMemory 3 out status (Means (reading_in table k) (told_files content) status)) asked words is
      (λ tells status meant unread steady.
      let at = one_status asked content 3 status line (told_means asked content gave 3 line agrees means tells) meant in
      inl (at, λ small. absurd (omega (arith, at, small))))

  -- a failed read
  pub failed_given : (asked : Command) (words : List (List ℕ)) (content : List ℕ → Option (List ℕ)) (gave : Span) (Fails : List ℕ → Type 0) →
      table.command_of words ≡ Some asked → Agrees content gave → ReadFailed (reading_in table asked) (given_files gave) Fails →
      OfWords table words (λ command. ReadFailed (reading_in table command) (known_files gave content) Fails)
  failed_given asked words content gave Fails is agrees failed =
      of_asked table (λ k. ReadFailed (reading_in table k) (known_files gave content) Fails) asked words is
      (failed_known (reading_in table asked) content gave.now gave.before Fails agrees failed)

  pub failed_complete : (asked : Command) (words : List (List ℕ)) (content : List ℕ → Option (List ℕ)) (gave : Span) (Fails : List ℕ → Type 0)
      (out : Change) → table.command_of words ≡ Some asked → Agrees content gave → ReadFailed (reading_in table asked) (given_files gave) Fails →
      OfToldWords table words content (λ command. (status : ℕ) → MeansStatus (reading_in table command) (told_files content) status →
      ¬ ReadFailed (reading_in table command) (told_files content) Fails → ¬ Rose out.before out.now →
      GivesOrMemory 4 out status (Means (reading_in table command) (told_files content) status))
  failed_complete asked words content gave Fails out is agrees failed =
      of_asked table (λ k. IsTold (reading_in table k) content → (status : ℕ) → MeansStatus (reading_in table k) (told_files content) status →
      ¬ ReadFailed (reading_in table k) (told_files content) Fails → ¬ Rose out.before out.now →
      GivesOrMemory 4 out status (Means (reading_in table k) (told_files content) status)) asked words is
      (λ tells status meant unread steady. absurd (unread (failed_told (reading_in table asked) content gave.now gave.before [] Fails tells
      (failed_known (reading_in table asked) content gave.now gave.before Fails agrees failed))))
