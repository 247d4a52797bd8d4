-- All that `run` promises, at each of its ends.
use Rattle.std.proofs.Common.{◌≡◌, ◌≢◌, ◌≤◌, ◌↔◌, ℕ, List, Option, Some, None, Ok, Err, inl, inr, refl, sym, subst, arith, map, string_bytes, Result}
use Rattle.std.specs.declared.string.String.{String}
use Rattle.std.specs.declared.alloc.Global.{Global}
use Rattle.te_ports.specs.Shown.{Shown}
use Rattle.command_frame.specs.declared.answer.Answer.{Answer}
use Rattle.command_frame.specs.declared.answer.Fault.{Fault}
use Rattle.command_frame.specs.declared.answer.Fault.TheVariants.{Refused, Read, Memory}
use Rattle.command_frame.specs.Files.{Files, span, known_files}
use Rattle.command_frame.specs.Reading.{Reading}
use Rattle.command_frame.specs.Order.{ReadsAlong}
use Rattle.command_frame.specs.Table.{TableOf, IsSoundTable, reading_in}
use Rattle.command_frame.specs.Outcome.{AnswersWords, KeepsDepot, Delivers, Follows, status_of, answer_text, status_of_fault, fault_text}
use Rattle.command_frame.specs.Run.{Change, Says, Answered, SaysMeant, ReadsInOrder, message}
use Rattle.command_frame.specs.Clauses.{FailsToRead, AnswersTold, IsExact, IsComplete, RunOf}
use Rattle.command_frame.proofs.Delivering.{untouched, other_status, form_written}
use Rattle.command_frame.proofs.Following.{no_change}
use Rattle.command_frame.proofs.Answering.{Agrees, of_asked, answer_given, refusal_given, answer_told, refusal_told, answer_form, answer_exact, refusal_exact, answer_complete, refusal_complete, failed_given, failed_complete}

module _ {Command : Type 0} (table : TableOf Command) (all : IsSoundTable table) where
  none_or_some : (o : Option Command) (command : Command) → o ≡ None → o ≡ Some command → ⊥
  none_or_some o command p q = cc

  was_asked : (asked : Command) (words : List (List ℕ)) → table.command_of words ≡ Some asked → table.command_of words ≡ None → ⊥
  was_asked asked words is none = none_or_some (table.command_of words) asked none is

  -- so its files were read in their order
  in_order : (asked : Command) (words : List (List ℕ)) (old new : Shown) → table.command_of words ≡ Some asked → ReadsAlong (reading_in table asked) old.gave new.gave →
      ReadsInOrder table words (span old.gave new.gave)
  in_order asked words old new is along = record {
    unread = λ none. absurd (was_asked asked words is none);
    along = of_asked table (λ command. ReadsAlong (reading_in table command) old.gave new.gave) asked words is along;
  }

  -- and the status is not that of faulty words
  no_usage : (asked : Command) (words : List (List ℕ)) (result : ℕ) → table.command_of words ≡ Some asked → result ≢ 2 → (result ≡ 2) ↔ (table.command_of words ≡ None)
  no_usage asked words result is other = (λ two. absurd (other two), λ none. absurd (was_asked asked words is none))

  -- an answer was delivered
  answer_run : (asked : Command) (words : List (List ℕ)) (old new : Shown) (answer : Answer) (result : ℕ) (out err : Change) →
      table.command_of words ≡ Some asked → Agrees old.content (span old.gave new.gave) → Delivers result (status_of answer) (answer_text answer) out err → Follows (reading_in table asked) old new (Ok answer) →
      RunOf table words old new result out err
  answer_run asked words old new answer result out err is agrees d follows =
      let given = answer_given table all asked words old.content (span old.gave new.gave) answer result out err is agrees d follows.means in
      record {
        usage = no_usage asked words result is (λ two. other_status result 2 d.form (omega arith) (λ e. omega (arith, e)) (λ e. omega (arith, e)) two);
        yes = given.yes;
        no = given.no;
        refused = given.refused;
        no_path = given.no_path;
        proves = given.proves;
        part = given.part;
        told = answer_told table all asked words old.content (span old.gave new.gave) answer result out err is agrees d follows.means;
        form = answer_form table all asked words (span old.gave new.gave) answer result out err is d follows.means;
        order = in_order asked words old new is follows.order;
        read = λ four. absurd (other_status result 4 d.form (omega arith) (λ e. omega (arith, e)) (λ e. omega (arith, e)) four);
        write = d.write;
        exact = answer_exact table all asked words old.content (span old.gave new.gave) answer result out err is agrees d follows.means;
        complete = answer_complete table all asked words old.content (span old.gave new.gave) _ answer result out err is agrees d follows.means;
        written = form_written result out err d.form d.silent d.said d.quiet d.err_faults;
        content = follows.may.content;
        added = follows.may.added;
        steady = record { depot = λ other. follows.steady (λ e. cc); out_faults = d.out_faults };
        later = record { depot = follows.may.later; out_faults = d.out_later; err_faults = d.err_later };
      }

  -- no text is meant at a status that no file gives
  not_answered : (r : Reading) (files : Files) (result : ℕ) (out err : Change) → 2 ≤ result → result ≢ 3 → result ≢ 5 → result ≢ 7 →
      Answered r files result out err
  not_answered r files result out err many three five seven = record {
    yes = λ is. absurd (omega (arith, is, many));
    no = λ is. absurd (omega (arith, is, many));
    refused = λ is. absurd (three is);
    no_path = λ is. absurd (seven is);
    proves = λ is. absurd (omega (arith, is, many));
    part = λ is. absurd (five is);
  }

  -- nothing was written to `out`
  said_run : (words : List (List ℕ)) (old new : Shown) (result : ℕ) (text : Option (List ℕ)) (faults : ℕ) (err : Change) →
      2 ≤ result → result ≤ 6 → result ≢ 5 → (result ≡ 2) ↔ (table.command_of words ≡ None) →
      (result ≡ 3 → SaysMeant table words (known_files (span old.gave new.gave) old.content) 3 err) → AnswersTold table words old result (untouched text faults) err →
      ReadsInOrder table words (span old.gave new.gave) → (result ≡ 4 → FailsToRead table words old new) → IsExact table words old result → IsComplete table words old new result (untouched text faults) →
      (result ≢ 3 → Says err (message result)) → KeepsDepot old new → (result ≢ 4 → new.faults ≡ old.faults) → err.before ≤ err.now →
      RunOf table words old new result (untouched text faults) err
  said_run words old new result text faults err many few five usage refused told order read exact complete said may steady later = record {
    usage = usage;
    yes = λ is. absurd (omega (arith, is, many));
    no = λ is. absurd (omega (arith, is, many));
    refused = refused;
    no_path = λ is. absurd (omega (arith, is, few));
    proves = λ is. absurd (omega (arith, is, many));
    part = λ is. absurd (five is);
    told = told;
    form = λ command named. record { written = λ small. absurd (omega (arith, small, many)); named = λ is. absurd (omega (arith, is, few)) };
    order = order;
    read = read;
    write = λ is. absurd (five is);
    exact = exact;
    complete = complete;
    written = record {
      known = omega (arith, few);
      silent = λ low other. refl;
      said = λ low three seven. said three;
      quiet = λ small. absurd (omega (arith, small, many));
      err_faults = λ small. absurd (omega (arith, small, many));
    };
    content = may.content;
    added = may.added;
    steady = record { depot = steady; out_faults = λ other. refl };
    later = record { depot = may.later; out_faults = omega arith; err_faults = later };
  }

  -- the words are no form of a command
  usage_run : (words : List (List ℕ)) (s : Shown) (text : Option (List ℕ)) (faults : ℕ) (err : Change) → table.command_of words ≡ None →
      Says err (message 2) → err.before ≤ err.now → RunOf table words s s 2 (untouched text faults) err
  usage_run words s text faults err none says later =
      said_run words s s 2 text faults err (omega arith) (omega arith) (λ is. omega (arith, is)) (λ is. none, λ is. refl) (λ is. absurd (omega (arith, is)))
      (λ command named. absurd (none_or_some (table.command_of words) command none named))
      (record { unread = λ is. refl; along = λ command named. absurd (none_or_some (table.command_of words) command none named) }) (λ is. absurd (omega (arith, is)))
      (λ command named. absurd (none_or_some (table.command_of words) command none named)) (λ command named. absurd (none_or_some (table.command_of words) command none named))
      (λ other. says) (no_change s) (λ other. refl) later

  -- the command has no answer, for a fault
  by_fault : (asked : Command) (words : List (List ℕ)) (old new : Shown) (fault : Fault) (text : Option (List ℕ)) (faults : ℕ) (err : Change) →
      table.command_of words ≡ Some asked → Agrees old.content (span old.gave new.gave) → Follows (reading_in table asked) old new (Err fault) → Says err (fault_text fault) →
      err.before ≤ err.now → RunOf table words old new (status_of_fault fault) (untouched text faults) err
  by_fault asked words old new (Refused line) text faults err is agrees follows says later =
      said_run words old new 3 text faults err (omega arith) (omega arith) (λ e. omega (arith, e)) (no_usage asked words 3 is (λ e. omega (arith, e)))
      (λ three. refusal_given table all asked words old.content (span old.gave new.gave) _ err is agrees says follows.means)
      (refusal_told table all asked words old.content (span old.gave new.gave) _ _ err is agrees says follows.means) (in_order asked words old new is follows.order) (λ e. absurd (omega (arith, e)))
      (refusal_exact table all asked words old.content (span old.gave new.gave) _ is agrees follows.means)
      (refusal_complete table all asked words old.content (span old.gave new.gave) _ _ _ is agrees follows.means)
      (λ other. absurd (other refl)) follows.may (λ other. follows.steady (λ e. cc)) later
  by_fault asked words old new Read text faults err is agrees follows says later =
      said_run words old new 4 text faults err (omega arith) (omega arith) (λ e. omega (arith, e)) (no_usage asked words 4 is (λ e. omega (arith, e)))
      (λ e. absurd (omega (arith, e)))
      (λ command named tells. not_answered (reading_in table command) _ 4 _ _ (omega arith) (λ e. omega (arith, e)) (λ e. omega (arith, e)) (λ e. omega (arith, e)))
      (in_order asked words old new is follows.order) (λ four. failed_given table all asked words old.content (span old.gave new.gave) _ is agrees follows.failed)
      (λ command named tells status meant. inr (inl refl))
      (failed_complete table all asked words old.content (span old.gave new.gave) _ _ is agrees follows.failed)
      (λ other. says) follows.may (λ other. absurd (other refl)) later
  by_fault asked words old new Memory text faults err is agrees follows says later =
      said_run words old new 6 text faults err (omega arith) (omega arith) (λ e. omega (arith, e)) (no_usage asked words 6 is (λ e. omega (arith, e)))
      (λ e. absurd (omega (arith, e)))
      (λ command named tells. not_answered (reading_in table command) _ 6 _ _ (omega arith) (λ e. omega (arith, e)) (λ e. omega (arith, e)) (λ e. omega (arith, e)))
      (in_order asked words old new is follows.order) (λ e. absurd (omega (arith, e)))
      (λ command named tells status meant. inr (inr (inr refl)))
      (λ command named tells status meant unread steady. inr refl)
      (λ other. says) follows.may (λ other. follows.steady (λ e. cc)) later

  fault_run : (asked : Command) (words : List (List ℕ)) (old new : Shown) (fault : Fault) (result : ℕ) (text : Option (List ℕ)) (faults : ℕ) (err : Change) →
      table.command_of words ≡ Some asked → Agrees old.content (span old.gave new.gave) → Follows (reading_in table asked) old new (Err fault) → result ≡ status_of_fault fault →
      Says err (fault_text fault) → err.before ≤ err.now → RunOf table words old new result (untouched text faults) err
  fault_run asked words old new fault result text faults err is agrees follows status says later =
      subst (λ (n : ℕ). RunOf table words old new n (untouched text faults) err) (sym status)
      (by_fault asked words old new fault text faults err is agrees follows says later)

  -- by what the table answers of the words
  pub none_run : (words : List (List ℕ)) (old new : Shown) (text : Option (List ℕ)) (faults : ℕ) (err : Change) → AnswersWords table words old new None →
      Says err (message 2) → err.before ≤ err.now → RunOf table words old new 2 (untouched text faults) err
  none_run words old new text faults err is says later =
      subst (λ (s : Shown). RunOf table words old s 2 (untouched text faults) err) (sym is.1) (usage_run words old text faults err is.0 says later)

  pub some_run : (words : List (List ℕ)) (old new : Shown) (answer : Answer) (result : ℕ) (out err : Change) → AnswersWords table words old new (Some (Ok answer)) →
      Delivers result (status_of answer) (answer_text answer) out err → RunOf table words old new result out err
  some_run words old new answer result out err (asked, named, follows) delivered =
      answer_run asked words old new answer result out err named follows.may.added delivered follows

  pub failed_run : (words : List (List ℕ)) (old new : Shown) (fault : Fault) (result : ℕ) (text : Option (List ℕ)) (faults : ℕ) (err : Change) →
      AnswersWords table words old new (Some (Err fault)) → result ≡ status_of_fault fault → Says err (fault_text fault) → err.before ≤ err.now →
      RunOf table words old new result (untouched text faults) err
  failed_run words old new fault result text faults err (asked, named, follows) status says later =
      fault_run asked words old new fault result text faults err named follows.may.added follows status says later

-- the words in another place
pub answers_same : {Command : Type 0} (table : TableOf Command) (given words : List (String Global)) (old new : Shown) (result : Option (Result Answer Fault)) →
    given ≡ words → AnswersWords table (map string_bytes given) old new result → AnswersWords table (map string_bytes words) old new result
answers_same table given words old new result same is =
    subst (λ (strings : List (String Global)). AnswersWords table (map string_bytes strings) old new result) same is
