-- Lines that are taken one after the other from a file, and where they leave what is due.
use Rattle.std.proofs.Common.{◌≡◌, ◌∙◌, ℕ, suc, ◌+◌, Bool, true, List, [], ◌∷◌, ◌++◌, length, Some, Err, Result, arith, refl, ap, sym, subst, inl, append_assoc, length-append}
use Rattle.te_model.specs.Faults.{line_ends, LeavesAt}
use Rattle.cert_text.specs.Fits.{AreWords}
use Rattle.number_tables.specs.declared.due.DueLines.{DueLines}
use Rattle.number_tables.specs.declared.fault.TableFault.{TableFault}
use Rattle.number_tables.specs.declared.fault.TableFault.TheVariants as tables
use Rattle.number_tables.specs.declared.line.NumLine.{NumLine}
use Rattle.number_tables.specs.Due.{Due, line, first_undue, word_line, CanEnd, LeavesSmallFiles}
use Rattle.number_tables.specs.Table.{AreLines, table_text}
use Rattle.number_tables.specs.TakingDue.{IsBefore, TakesDue, next_line}
use Rattle.number_tables.proofs.TakingDue.{after_line, leaves_files}
use Rattle.hose_bound.specs.Reading.{LeavesByFault}

-- where the rest of what is due is left behind these lines, what is due is left as much later
abbrev pub GoesOn : Due → List NumLine → Due → Type 0
GoesOn due taken rest =
    (more : List NumLine) (j : ℕ) → first_undue rest more ≡ Some j → first_undue due (taken ++ more) ≡ Some (length taken + j)

pub goes_nowhere : (due : Due) → GoesOn due [] due
goes_nowhere due more j leaves = let e : j ≡ 0 + j = omega arith in subst (λ k. first_undue due more ≡ Some k) e leaves

pub goes_line : (word : List ℕ) (test : List ℕ → Bool) (next : List ℕ → Due) (numbers : List ℕ) (taken : List NumLine) (rest : Due) → test numbers ≡ true →
    GoesOn (next numbers) taken rest → GoesOn (line word test next) (word_line word numbers ∷ taken) rest
goes_line word test next numbers taken rest passes on more j leaves =
    let one_more : suc (length taken + j) ≡ suc (length taken) + j = omega arith in
    subst (λ k. first_undue (line word test next) (word_line word numbers ∷ (taken ++ more)) ≡ Some k) one_more
    (after_line word test next numbers (taken ++ more) (length taken + j) passes (on more j leaves))

pub goes_both : (due mid rest : Due) (one two : List NumLine) → GoesOn due one mid → GoesOn mid two rest → GoesOn due (one ++ two) rest
goes_both due mid rest one two first second more j leaves =
    let count : length one + (length two + j) ≡ length (one ++ two) + j = (let l = length-append one two in omega (arith, l)) in
    subst (λ ls. first_undue due ls ≡ Some (length (one ++ two) + j)) (sym (append_assoc one two more))
    (subst (λ k. first_undue due (one ++ (two ++ more)) ≡ Some k) count (first (two ++ more) (length two + j) (second more j leaves)))

-- a file of which these lines are left, behind those that were taken
pub record StandsBehind (first : List ℕ) (due : Due) (bytes : List ℕ) (rest : Due) (taken : List NumLine) (now : DueLines) (more : List NumLine) : Type 0 where
  pub lines : AreLines (taken ++ more)
  pub file : bytes ≡ table_text first (taken ++ more)
  pub before : IsBefore now more
  pub place : next_line now ≡ 2 + length taken
  pub later : GoesOn due taken rest

pub stands_first : (first : List ℕ) (due : Due) (bytes : List ℕ) (now : DueLines) (ls : List NumLine) → bytes ≡ table_text first ls → IsBefore now ls → next_line now ≡ 2 →
    StandsBehind first due bytes due [] now ls
stands_first first due bytes now ls file before second =
    record { lines = before.0; file = file; before = before; place = omega (arith, second); later = goes_nowhere due }

-- behind some lines more
pub stands_on : (first : List ℕ) (due : Due) (bytes : List ℕ) (mid rest : Due) (taken item : List NumLine) (now after : DueLines) (more left : List NumLine) →
    StandsBehind first due bytes mid taken now more → more ≡ item ++ left → IsBefore after left → next_line after + length left ≡ next_line now + length more →
    GoesOn mid item rest → StandsBehind first due bytes rest (taken ++ item) after left
stands_on first due bytes mid rest taken item now after more left at parts before count on =
    let same : taken ++ more ≡ (taken ++ item) ++ left = ap (λ (m : List NumLine). taken ++ m) parts ∙ sym (append_assoc taken item left) in
    let whole : length more ≡ length item + length left = ap (λ (m : List NumLine). length m) parts ∙ length-append item left in
    let both = length-append taken item in
    let place = at.place in
    record {
      lines = subst AreLines same at.lines;
      file = at.file ∙ ap (table_text first) same;
      before = before;
      place = omega (arith, place, count, whole, both);
      later = goes_both due mid rest taken item at.later on;
    }

-- a line that is not due
pub stops : {X : Type 0} (Begins : X → List NumLine → List NumLine → Type 0) (Leaves : List NumLine → ℕ → Type 0) (first : List ℕ) (due : Due) (bytes : List ℕ) (rest : Due)
    (taken : List NumLine) (now after : DueLines) (more : List NumLine) (e : TableFault) → line_ends first ≡ 0 → CanEnd due →
    StandsBehind first due bytes rest taken now more → ((j : ℕ) → Leaves more j → first_undue rest more ≡ Some j) →
    TakesDue Begins Leaves (Err e) now after more → LeavesByFault first due bytes e
stops Begins Leaves first due bytes rest taken now after more tables.Memory one can at leaves fails = tt
stops Begins Leaves first due bytes rest taken now after more (tables.Shape k) one can at leaves fails =
    let here : (length taken + fails.0) + 2 ≡ k = (let e = fails.1 in let place = at.place in omega (arith, e, place)) in
    subst (λ n. LeavesSmallFiles first due bytes n) here
    (leaves_files first due bytes (taken ++ more) (length taken + fails.0) one can at.lines at.file (at.later more fails.0 (leaves fails.0 fails.2)))

-- bytes that are no table
pub no_table : (first : List ℕ) (due : Due) (bytes : List ℕ) (e : TableFault) →
    ((k : ℕ) → ◌≡◌ {A = Result DueLines TableFault} (Err e) (Err (tables.Shape k)) → LeavesAt AreLines (table_text first) bytes k) → LeavesByFault first due bytes e
no_table first due bytes tables.Memory shape = tt
no_table first due bytes (tables.Shape k) shape = inl (shape k refl)

-- the numbers of a line of a table
pub line_words : (word numbers : List ℕ) (ls more : List NumLine) → AreLines ls → ls ≡ word_line word numbers ∷ more → AreWords numbers
line_words word numbers ls more lines parts = (subst AreLines parts lines).0.numbers
