-- Where lines that are read one after the other leave what is due.
use Rattle.std.proofs.Common.{◌≡◌, ℕ, suc, ◌+◌, Bool, true, false, List, ◌∷◌, length, Some, Ok, Err, refl, sym, subst, arith, inr}
use Rattle.std.specs.Prelude.{bytes_eq}
use Rattle.std.proofs.lemmas.Bool.{and_from}
use Rattle.std.proofs.lemmas.Slice.Eq.{bytes_eq-Decides}
use Rattle.te_model.specs.Faults.{line_ends, LeavesAt}
use Rattle.number_tables.specs.declared.due.DueLines.{DueLines}
use Rattle.number_tables.specs.declared.fault.TableFault.{TableFault}
use Rattle.number_tables.specs.declared.fault.TableFault.TheVariants as faults
use Rattle.number_tables.specs.declared.line.NumLine.{NumLine}
use Rattle.number_tables.specs.Due.{Due, line, first_undue, word_line, AreFile, CanEnd, LeavesSmallFiles}
use Rattle.number_tables.specs.Table.{AreLines, table_text}
use Rattle.number_tables.specs.TakingDue.{TakesDue, next_line, BeginsWithLine, BeginsWithWord, LeavesAtLine, LeavesAtWord}
use Rattle.number_tables.proofs.FirstUndue.{first_undue_leaves}

-- ---- one line

-- the next line has the word, and its numbers fail the test
failed_test : (word : List ℕ) (test : List ℕ → Bool) (numbers : List ℕ) (more : List NumLine) → test numbers ≡ false →
    LeavesAtLine word test (word_line word numbers ∷ more) 0
failed_test word test numbers more e = λ next. rw ((bytes_eq-Decides word word).1 refl, e) refl

-- behind a line that is due, the first that is not comes one place later
pub after_line : (word : List ℕ) (test : List ℕ → Bool) (next : List ℕ → Due) (numbers : List ℕ) (more : List NumLine) (j : ℕ) →
    test numbers ≡ true → first_undue (next numbers) more ≡ Some j → first_undue (line word test next) (word_line word numbers ∷ more) ≡ Some (suc j)
after_line word test next numbers more j passes later =
    rw (and_from (bytes_eq word word) (test numbers) ((bytes_eq-Decides word word).1 refl) passes, later) refl

-- ---- the whole file

-- a table of which a line is not due leaves the files of its kind there
pub leaves_files : (first : List ℕ) (due : Due) (bytes : List ℕ) (ls : List NumLine) (j : ℕ) → line_ends first ≡ 0 → CanEnd due →
    AreLines ls → bytes ≡ table_text first ls → first_undue due ls ≡ Some j → LeavesSmallFiles first due bytes (j + 2)
leaves_files first due bytes ls j one can al is undue =
    inr ((ls, al, is), subst (λ b. LeavesAt (AreFile due) (table_text first) b (j + 2)) (sym is) ((first_undue_leaves first one due can ls al).1 j undue))

-- ---- what a reader answers

-- a fault of lines that leave what is due leaves what more says of them
pub fails_as : {X Y : Type 0} (Begins : X → List NumLine → List NumLine → Type 0) (Leaves : List NumLine → ℕ → Type 0)
    (Begins' : Y → List NumLine → List NumLine → Type 0) (Leaves' : List NumLine → ℕ → Type 0)
    (e : TableFault) (before after after' : DueLines) (ls : List NumLine) → ((j : ℕ) → Leaves ls j → Leaves' ls j) →
    TakesDue Begins Leaves (Err e) before after ls → TakesDue Begins' Leaves' (Err e) before after' ls
fails_as Begins Leaves Begins' Leaves' (faults.Shape k) before after after' ls more fails = (fails.0, fails.1, more fails.0 fails.2)
fails_as Begins Leaves Begins' Leaves' faults.Memory before after after' ls more fails = tt

-- a fault behind some lines that were taken
pub fails_behind : {X Y : Type 0} (Begins : X → List NumLine → List NumLine → Type 0) (Leaves : List NumLine → ℕ → Type 0)
    (Begins' : Y → List NumLine → List NumLine → Type 0) (Leaves' : List NumLine → ℕ → Type 0)
    (e : TableFault) (before mid after : DueLines) (ls more : List NumLine) (taken : ℕ) →
    next_line mid + length more ≡ next_line before + length ls → length ls ≡ taken + length more →
    ((j : ℕ) → Leaves more j → Leaves' ls (taken + j)) →
    TakesDue Begins Leaves (Err e) mid after more → TakesDue Begins' Leaves' (Err e) before after ls
fails_behind Begins Leaves Begins' Leaves' (faults.Shape k) before mid after ls more taken at count later fails =
    let here = fails.1 in
    (taken + fails.0, omega (arith, here, at, count), later fails.0 fails.2)
fails_behind Begins Leaves Begins' Leaves' faults.Memory before mid after ls more taken at count later fails = tt

-- the numbers of a line with the word pass the test, or fail it, or there is no such line
pub line_taken : (before after : DueLines) (word : List ℕ) (test : List ℕ → Bool) (numbers : List ℕ) (ls : List NumLine) → test numbers ≡ true →
    TakesDue (BeginsWithWord word) (LeavesAtWord word) (Ok numbers) before after ls →
    TakesDue (BeginsWithLine word test) (LeavesAtLine word test) (Ok numbers) before after ls
line_taken before after word test numbers ls passes taken = (taken.0, (passes, taken.1), taken.2, taken.3)

pub line_missed : (before after : DueLines) (word : List ℕ) (test : List ℕ → Bool) (numbers : List ℕ) (ls : List NumLine) → test numbers ≡ false →
    TakesDue (BeginsWithWord word) (LeavesAtWord word) (Ok numbers) before after ls →
    TakesDue {X = List ℕ} (BeginsWithLine word test) (LeavesAtLine word test) (Err (faults.Shape (next_line before))) before after ls
line_missed before after word test numbers ls fails taken =
    (0, omega arith, subst (λ (m : List NumLine). LeavesAtLine word test m 0) (sym taken.1) (failed_test word test numbers taken.0 fails))

pub line_fails : (before after : DueLines) (word : List ℕ) (test : List ℕ → Bool) (e : TableFault) (ls : List NumLine) →
    TakesDue (BeginsWithWord word) (LeavesAtWord word) (Err e) before after ls →
    TakesDue (BeginsWithLine word test) (LeavesAtLine word test) (Err e) before after ls
line_fails before after word test e ls fails =
    fails_as (BeginsWithWord word) (LeavesAtWord word) (BeginsWithLine word test) (LeavesAtLine word test) e before after after ls
    (λ j leaves next. leaves test next) fails
