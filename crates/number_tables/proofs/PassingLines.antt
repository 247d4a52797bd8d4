-- Tables that are read line by line, of which one line is kept.
use Rattle.std.proofs.Common.{◌≡◌, ℕ, ◌+◌, true, false, List, [], ◌∷◌, ◌++◌, Result, Ok, Err, refl, sym, ap, subst, ◌∙◌, append_assoc, drop, ◌⊎◌, inl, inr}
use Rattle.std.specs.Prelude.{codes, IfOk}
use Rattle.std.specs.declared.alloc.Global.{Global}
use Rattle.te_model.specs.Faults.{line_ends, LeavesAt}
use Rattle.cert_text.specs.declared.fault.Stop.{Stop}
use Rattle.cert_text.specs.declared.fault.Stop.TheVariants as stops
use Rattle.cert_text.specs.Grammar.{read_closing}
use Rattle.cert_text.specs.Place.{Place, place, Stops, Passes, ◌>>=◌}
use Rattle.cert_text.specs.Reading.{read_word, read_line_end}
use Rattle.cert_text.proofs.Decimals.{ok_is}
use Rattle.cert_text.proofs.Laws.{one_leaving}
use Rattle.number_tables.specs.declared.fault.TableFault.{TableFault}
use Rattle.number_tables.specs.declared.fault.TableFault.TheVariants as faults
use Rattle.number_tables.specs.declared.line.NumLine.{NumLine}
use Rattle.number_tables.specs.Leaving.{body_lines, ReadsLines}
use Rattle.number_tables.specs.Outcome.{fault_of}
use Rattle.number_tables.specs.Passing.{PassesLines}
use Rattle.number_tables.specs.Reading.{begins_with_end, read_line}
use Rattle.number_tables.specs.Table.{IsLine, AreLines, line_text, file_of, table_lines, table_text}
use Rattle.number_tables.proofs.Body.{HasRead, one_more_line, after_end, line_stops, end_stops, ends_well}
use Rattle.number_tables.proofs.Faults.{not_ok}
use Rattle.number_tables.proofs.FilesOfLines.{one_first_line}
use Rattle.number_tables.proofs.Texts.{line_again, line_is_one, not_the_end}
use Rattle.number_tables.proofs.Whole.{first_line_again, took_first, lines_after_first, leaves_tables}

-- some lines were passed
abbrev pub HasPassed : Place → Place → Type 0
HasPassed start now = (made : List NumLine) × HasRead start now made

pub one_more_passed : (start now : Place) (l : NumLine) (q : Place) → HasPassed start now → read_line now ≡ Ok (l, q) → HasPassed start q
one_more_passed start now l q passed e = (passed.0 ++ l ∷ [], one_more_line start now passed.0 l q passed.1 e)

-- a fault of one who reads is that of one who passes
pub same_fault : (X : Type 0) (lines_of : List NumLine → List (List ℕ)) (e : Stop) (p : Place) → ReadsLines {A = Global} lines_of (Err e) p → PassesLines {X = X} lines_of (Err e) p
same_fault X lines_of stops.Memory p h = tt
same_fault X lines_of (stops.Shape k) p h = h

pub closing_passes : {X : Type 0} (start now after : Place) (result : Result X Stop) → HasPassed start now → begins_with_end now.rest ≡ true → Passes result after (read_closing now) → PassesLines body_lines result start
closing_passes start now after (Ok x) passed last e = let done = ends_well start now after passed.0 passed.1 last e in (passed.0, done.0, done.1)
closing_passes {X = X} start now after (Err e) passed last s = same_fault X body_lines e start (end_stops Global start now passed.0 e passed.1 last s)

pub line_passes_not : (X : Type 0) (start now : Place) (e : Stop) → HasPassed start now → begins_with_end now.rest ≡ false → Stops e (read_line now) → PassesLines {X = X} body_lines (Err e) start
line_passes_not X start now e passed more s = same_fault X body_lines e start (line_stops Global start now passed.0 e passed.1 more s)

other_fault : (X : Type 0) (lines_of : List NumLine → List (List ℕ)) (e : Stop) (p : Place) → PassesLines {X = X} lines_of (Err e) p → ReadsLines {A = Global} lines_of (Err e) p
other_fault X lines_of stops.Memory p h = tt
other_fault X lines_of (stops.Shape k) p h = h

pub passes_after_first : {X : Type 0} (first : List ℕ) (p mid q : Place) (result : Result X Stop) → read_word first p ≡ Ok mid → read_line_end mid ≡ Ok q → PassesLines body_lines result q → PassesLines (table_lines first) result p
passes_after_first first p mid q (Ok x) w l passes =
    let took = took_first first p mid q w l in
    (passes.0, passes.1, took.parts ∙ ap (λ (y : List ℕ). first ++ 10 ∷ y) passes.2 ∙ sym (append_assoc first (10 ∷ []) (file_of (body_lines passes.0))))
passes_after_first {X = X} first p mid q (Err e) w l passes =
    same_fault X (table_lines first) e p (lines_after_first Global first p mid q (Err e) w l (other_fault X body_lines e q passes))

-- ---- the clauses

pub record AnswersWhether (first bytes : List ℕ) (result : Result (Unit {0}) TableFault) : Type 0 where
  pub table : IfOk result (λ _. (ls : List NumLine) × AreLines ls × (bytes ≡ table_text first ls))
  pub accepted : (ls : List NumLine) → AreLines ls → bytes ≡ table_text first ls → (result ≡ Ok tt) ⊎ (result ≡ Err faults.Memory)
  pub shape : (k : ℕ) → result ≡ Err (faults.Shape k) → LeavesAt AreLines (table_text first) bytes k
  pub misshaped : (k : ℕ) → LeavesAt AreLines (table_text first) bytes k → (result ≡ Err (faults.Shape k)) ⊎ (result ≡ Err faults.Memory)

pub ok_whether : (first bytes : List ℕ) (x : Unit {0}) → PassesLines (table_lines first) (Ok x) (place 1 bytes) → AnswersWhether first bytes (Ok x)
ok_whether first bytes x passes = record {
  table = passes;
  accepted = λ ls al same. inl refl;
  shape = λ k e. absurd cc;
  misshaped = λ k leaves. absurd (leaves.no_file passes.0 passes.1 passes.2);
}

pub err_whether : (first bytes : List ℕ) (e : Stop) → line_ends first ≡ 0 → PassesLines {X = Unit {0}} (table_lines first) (Err e) (place 1 bytes) → AnswersWhether first bytes (Err (fault_of e))
err_whether first bytes stops.Memory one passes = record {
  table = tt;
  accepted = λ ls al same. inr refl;
  shape = λ k e. absurd cc;
  misshaped = λ k leaves. inr refl;
}
err_whether first bytes (stops.Shape j) one passes =
    let at = leaves_tables first bytes j one passes in
    record {
      table = tt;
      accepted = λ ls al same. absurd (at.no_file ls al same);
      shape = λ k e. let same : j ≡ k = cc in subst (λ (n : ℕ). LeavesAt AreLines (table_text first) bytes n) same at;
      misshaped = λ k leaves. inl (ap (λ (n : ℕ). Err (faults.Shape n)) (one_leaving AreLines (table_text first) bytes j k at leaves));
    }

-- ---- one line after the other, of a table

-- the end stands next exactly where no line is left
pub no_line_left : (ls : List NumLine) (bytes : List ℕ) → AreLines ls → bytes ≡ file_of (body_lines ls) → begins_with_end bytes ≡ true → ls ≡ []
no_line_left [] bytes al same last = refl
no_line_left (l ∷ ls) bytes al same last =
    let first = sym (append_assoc (line_text l) (10 ∷ []) (file_of (body_lines ls))) ∙ sym same ∙ after_end bytes last in
    absurd (not_the_end l al.0 (one_first_line (line_text l) (codes "end") (file_of (body_lines ls)) (drop 4 bytes) (line_is_one l al.0) refl first).0)

record LeftOver (bytes : List ℕ) (ls : List NumLine) : Type 0 where
  head : NumLine
  tail : List NumLine
  same : ls ≡ head ∷ tail
  good : IsLine head
  parts : bytes ≡ line_text head ++ 10 ∷ file_of (body_lines tail)

left_over : (ls : List NumLine) (bytes : List ℕ) → AreLines ls → bytes ≡ file_of (body_lines ls) → begins_with_end bytes ≡ false → LeftOver bytes ls
left_over [] bytes al same more = absurd (let last : begins_with_end bytes ≡ true = ap begins_with_end same in cc)
left_over (l ∷ ls) bytes al same more = record { head = l; tail = ls; same = refl; good = al.0; parts = same ∙ append_assoc (line_text l) (10 ∷ []) (file_of (body_lines ls)) }

pub next_is_first : (ls : List NumLine) (p : Place) (l : NumLine) (q : Place) → AreLines ls → p.rest ≡ file_of (body_lines ls) → begins_with_end p.rest ≡ false → read_line p ≡ Ok (l, q)
    → (more : List NumLine) × (ls ≡ l ∷ more) × (q.rest ≡ file_of (body_lines more)) × (q.line ≡ p.line + 1)
next_is_first ls p l q al same more e =
    let left = left_over ls p.rest al same more in
    let again = ap (λ (y : List ℕ). read_line (place p.line y)) left.parts ∙ line_again left.head p.line (file_of (body_lines left.tail)) left.good in
    let one : ◌≡◌ {A = NumLine × Place} (l, q) (left.head, place (p.line + 1) (file_of (body_lines left.tail))) = ok_is {A = NumLine × Place} (l, q) (left.head, place (p.line + 1) (file_of (body_lines left.tail))) (sym e ∙ again) in
    (left.tail, left.same ∙ ap (λ (y : NumLine × Place). y.0 ∷ left.tail) (sym one), ap (λ (y : NumLine × Place). y.1.rest) one, ap (λ (y : NumLine × Place). y.1.line) one)

pub no_next_fault : (ls : List NumLine) (p : Place) (e : Stop) → AreLines ls → p.rest ≡ file_of (body_lines ls) → begins_with_end p.rest ≡ false → Stops e (read_line p) → fault_of e ≡ faults.Memory
no_next_fault ls p stops.Memory al same more s = refl
no_next_fault ls p (stops.Shape k) al same more s =
    let left = left_over ls p.rest al same more in
    absurd (not_ok (left.head, place (p.line + 1) (file_of (body_lines left.tail))) k (read_line p) s (ap (λ (y : List ℕ). read_line (place p.line y)) left.parts ∙ line_again left.head p.line (file_of (body_lines left.tail)) left.good))

-- ---- the first line of a table

first_read : (first body : List ℕ) (p : Place) → p.rest ≡ (first ++ 10 ∷ []) ++ body → (read_word first p >>= read_line_end) ≡ Ok (place (p.line + 1) body)
first_read first body p same =
    ap (λ (y : List ℕ). read_word first (place p.line y) >>= read_line_end) (same ∙ append_assoc first (10 ∷ []) body) ∙ first_line_again first p.line body

pub first_stands : (X : Type 0) (first body : List ℕ) (p : Place) (e : Stop) → p.rest ≡ (first ++ 10 ∷ []) ++ body → ¬ (◌≡◌ {A = Result X Stop} (Err e) (Err stops.Memory)) → Stops e (read_word first p) → ⊥
first_stands X first body p stops.Memory same room s = room refl
first_stands X first body p (stops.Shape k) same room s =
    not_ok (place (p.line + 1) body) k (read_word first p >>= read_line_end) (ap (λ (r : Result Place ℕ). r >>= read_line_end) s) (first_read first body p same)

pub first_ends : (X : Type 0) (first body : List ℕ) (p mid : Place) (e : Stop) → p.rest ≡ (first ++ 10 ∷ []) ++ body → ¬ (◌≡◌ {A = Result X Stop} (Err e) (Err stops.Memory)) → read_word first p ≡ Ok mid → Stops e (read_line_end mid) → ⊥
first_ends X first body p mid stops.Memory same room w s = room refl
first_ends X first body p mid (stops.Shape k) same room w s =
    not_ok (place (p.line + 1) body) k (read_word first p >>= read_line_end) (ap (λ (r : Result Place ℕ). r >>= read_line_end) w ∙ s) (first_read first body p same)

pub behind_it : (first body : List ℕ) (p mid q : Place) → p.rest ≡ (first ++ 10 ∷ []) ++ body → read_word first p ≡ Ok mid → read_line_end mid ≡ Ok q → (q.rest ≡ body) × (q.line ≡ p.line + 1)
behind_it first body p mid q same w l =
    let read : (read_word first p >>= read_line_end) ≡ Ok q = ap (λ (r : Result Place ℕ). r >>= read_line_end) w ∙ l in
    let one = ok_is q (place (p.line + 1) body) (sym read ∙ first_read first body p same) in
    (ap (λ (y : Place). y.rest) one, ap (λ (y : Place). y.line) one)
