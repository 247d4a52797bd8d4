-- What a whole table answers.
use Rattle.std.proofs.Common.{◌≡◌, ℕ, ◌+◌, List, [], ◌∷◌, ◌++◌, length, Result, Ok, Err, refl, sym, ap, subst, ◌∙◌, arith, append_assoc, inl, inr}
use Rattle.std.specs.Prelude.{codes, IfOk}
use Rattle.std.specs.declared.vec.Vec.{Vec}
use Rattle.std.proofs.lemmas.Bool.{cases_lt}
use Rattle.std.proofs.lemmas.List.{append-nil}
use Rattle.te_model.specs.Faults.{line_ends, LeavesAt}
use Rattle.cert_text.specs.declared.fault.Stop.{Stop}
use Rattle.cert_text.specs.declared.fault.Stop.TheVariants as stops
use Rattle.cert_text.specs.Place.{Place, place, Stops, ◌>>=◌}
use Rattle.cert_text.specs.Reading.{read_word, read_line_end}
use Rattle.cert_text.proofs.Decimals.{ok_is}
use Rattle.cert_text.proofs.Tokens.{word_takes, word_again, line_end_takes}
use Rattle.cert_text.proofs.Laws.{one_leaving}
use Rattle.number_tables.specs.declared.fault.TableFault.{TableFault}
use Rattle.number_tables.specs.declared.fault.TableFault.TheVariants as faults
use Rattle.number_tables.specs.declared.line.NumLine.{NumLine}
use Rattle.number_tables.specs.Leaving.{LeavesAfter, body_lines, ReadsLines}
use Rattle.number_tables.specs.Outcome.{fault_of, GivesLinesOrMemory, IsFaultOrMemory}
use Rattle.number_tables.specs.Table.{AreLines, line_text, file_of, table_lines, table_text}
use Rattle.number_tables.proofs.Faults.{not_ok, PassesOn, byte_on, word_on}
use Rattle.number_tables.proofs.FilesOfLines.{first_same, AreOneLine, file_cons, lines_after, none_left, leaves_at}
use Rattle.number_tables.proofs.Texts.{line_is_one, not_the_end, one_line_text}

-- ---- the first line

pub first_line_on : (first : List ℕ) (p : Place) (k : ℕ) → (read_word first p >>= read_line_end) ≡ Err k → k ≡ p.line
first_line_on first p k e = from (read_word first p) (word_on first p p.line refl) e
  where
    end_of : (q : Place) → (r : Result Place ℕ) → PassesOn p.line r → (r >>= λ q. Ok (place (q.line + 1) q.rest)) ≡ Err k → k ≡ p.line
    end_of q (Ok x) on h = absurd cc
    end_of q (Err j) on h = let same : j ≡ k = cc in sym same ∙ on

    from : (r : Result Place ℕ) → PassesOn p.line r → (r >>= read_line_end) ≡ Err k → k ≡ p.line
    from (Ok q) on h = end_of q _ (byte_on 10 q p.line on) h
    from (Err j) on h = let same : j ≡ k = cc in sym same ∙ on

pub first_line_again : (first : List ℕ) (k : ℕ) (r : List ℕ) → (read_word first (place k (first ++ 10 ∷ r)) >>= read_line_end) ≡ Ok (place (k + 1) r)
first_line_again first k r = rw (word_again first k (10 ∷ r)) refl

-- another first line
leaves_first : (first : List ℕ) (p : Place) (k : ℕ) → (read_word first p >>= read_line_end) ≡ Err k → (front : List (List ℕ)) × (k ≡ p.line + length front) × LeavesAfter AreLines (table_lines first) p.rest front
leaves_first first p k e = (
  [],
  (let on = first_line_on first p k e in omega (arith, on)),
  record {
    rest = p.rest;
    parts = refl;
    begun = ([], tt, table_lines first [], refl);
    stuck = λ ls al line more left same rest. not_ok (place (p.line + 1) left) k (read_word first p >>= read_line_end) e (ap (λ (y : List ℕ). read_word first (place p.line y) >>= read_line_end) (rest ∙ ap (λ (y : List ℕ). y ++ 10 ∷ left) (sym (first_same first line (body_lines ls) more same).0)) ∙ first_line_again first p.line left);
    unended = λ ls al same none. cc;
  },
)

-- the first line is not so
pub first_stops : (A : Type 0) (first : List ℕ) (p : Place) (e : Stop) → Stops e (read_word first p) → ReadsLines {A = A} (table_lines first) (Err e) p
first_stops A first p stops.Memory s = tt
first_stops A first p (stops.Shape k) s = leaves_first first p k (ap (λ (r : Result Place ℕ). r >>= read_line_end) s)

pub first_end_stops : (A : Type 0) (first : List ℕ) (p mid : Place) (e : Stop) → read_word first p ≡ Ok mid → Stops e (read_line_end mid) → ReadsLines {A = A} (table_lines first) (Err e) p
first_end_stops A first p mid stops.Memory w s = tt
first_end_stops A first p mid (stops.Shape k) w s = leaves_first first p k (ap (λ (r : Result Place ℕ). r >>= read_line_end) w ∙ s)

-- ---- the lines after it

pub record TookFirst (first : List ℕ) (p q : Place) : Type 0 where
  pub parts : p.rest ≡ first ++ 10 ∷ q.rest
  pub line : q.line ≡ p.line + 1

pub took_first : (first : List ℕ) (p mid q : Place) → read_word first p ≡ Ok mid → read_line_end mid ≡ Ok q → TookFirst first p q
took_first first p mid q w l =
    let parts : p.rest ≡ first ++ 10 ∷ q.rest = word_takes first p mid w ∙ ap (λ (y : List ℕ). first ++ y) (line_end_takes mid q l) in
    let again = ap (λ (y : List ℕ). read_word first (place p.line y) >>= read_line_end) parts ∙ first_line_again first p.line q.rest in
    let read : (read_word first p >>= read_line_end) ≡ Ok q = ap (λ (r : Result Place ℕ). r >>= read_line_end) w ∙ l in
    record { parts = parts; line = ap (λ (y : Place). y.line) (ok_is q (place (p.line + 1) q.rest) (sym read ∙ again)) }

pub lines_after_first : (A : Type 0) (first : List ℕ) (p mid q : Place) (result : Result (Vec NumLine A) Stop) → read_word first p ≡ Ok mid → read_line_end mid ≡ Ok q → ReadsLines body_lines result q → ReadsLines (table_lines first) result p
lines_after_first A first p mid q (Ok v) w l reads =
    let took = took_first first p mid q w l in
    (reads.0, took.parts ∙ ap (λ (y : List ℕ). first ++ 10 ∷ y) reads.1 ∙ sym (append_assoc first (10 ∷ []) (file_of (body_lines v.items))))
lines_after_first A first p mid q (Err stops.Memory) w l reads = tt
lines_after_first A first p mid q (Err (stops.Shape k)) w l reads =
    let took = took_first first p mid q w l in
    let front = reads.0 in
    let leaves = reads.2 in (
      first ∷ front,
      (let at = reads.1 in let on = took.line in omega (arith, at, on)),
      record {
        rest = leaves.rest;
        parts = took.parts ∙ ap (λ (y : List ℕ). first ++ 10 ∷ y) leaves.parts ∙ sym (file_cons first front leaves.rest);
        begun = let b = leaves.begun in (b.0, b.1, b.2, ap (λ (y : List (List ℕ)). first ∷ y) b.3);
        stuck = λ ls al line more left same rest. leaves.stuck ls al line more left (first_same first first (body_lines ls) (front ++ line ∷ more) same).1 rest;
        unended = λ ls al same none. leaves.unended ls al (first_same first first (body_lines ls) front same).1 none;
      },
    )

-- ---- the clauses

pub body_one_line : (ls : List NumLine) → AreLines ls → AreOneLine (body_lines ls)
body_one_line [] al = (refl, tt)
body_one_line (l ∷ ls) al = (line_is_one l al.0, body_one_line ls al.1)

same_lines : (ms ls : List NumLine) → AreLines ms → AreLines ls → body_lines ms ≡ body_lines ls → ms ≡ ls
same_lines [] [] am al e = refl
same_lines [] (l ∷ ls) am al e = absurd (not_the_end l al.0 (sym (first_same (codes "end") (line_text l) [] (body_lines ls) e).0))
same_lines (m ∷ ms) [] am al e = absurd (not_the_end m am.0 (first_same (line_text m) (codes "end") (body_lines ms) [] e).0)
same_lines (m ∷ ms) (l ∷ ls) am al e =
    let f = first_same (line_text m) (line_text l) (body_lines ms) (body_lines ls) e in
    let one = one_line_text m l am.0 al.0 f.0 in
    let more = same_lines ms ls am.1 al.1 f.1 in
    ap (λ (x : NumLine). x ∷ ms) one ∙ ap (λ (xs : List NumLine). l ∷ xs) more

same_files : (xs ys : List (List ℕ)) → AreOneLine xs → AreOneLine ys → file_of xs ≡ file_of ys → xs ≡ ys
same_files xs ys ox oy e =
    let same : file_of xs ++ [] ≡ file_of ys ++ [] = ap (λ (y : List ℕ). y ++ []) e in
    elim (cases_lt (length ys) (length xs)) [
      | inl lt ↦
          let after = lines_after ys xs [] [] oy ox (sym same) (omega (arith, lt)) in
          let none = none_left after.0 [] after.2 in
          after.1 ∙ ap (λ (y : List (List ℕ)). ys ++ y) none.0 ∙ append-nil ys
      | inr ge ↦
          let after = lines_after xs ys [] [] ox oy same ge in
          let none = none_left after.0 [] after.2 in
          sym (after.1 ∙ ap (λ (y : List (List ℕ)). xs ++ y) none.0 ∙ append-nil xs)
    ]

-- tables of one text are one
pub one_table : (first : List ℕ) (ms ls : List NumLine) → line_ends first ≡ 0 → AreLines ms → AreLines ls → table_text first ms ≡ table_text first ls → ms ≡ ls
one_table first ms ls one am al e =
    same_lines ms ls am al (first_same first first (body_lines ms) (body_lines ls) (same_files (table_lines first ms) (table_lines first ls) (one, body_one_line ms am) (one, body_one_line ls al) e)).1

pub record AnswersTable {A : Type 0} (first bytes : List ℕ) (result : Result (Vec NumLine A) TableFault) : Type 0 where
  pub lines : IfOk result (λ ls. AreLines ls.items × (bytes ≡ table_text first ls.items))
  pub accepted : (ls : List NumLine) → AreLines ls → bytes ≡ table_text first ls → GivesLinesOrMemory result ls
  pub shape : (k : ℕ) → result ≡ Err (faults.Shape k) → LeavesAt AreLines (table_text first) bytes k
  pub misshaped : (k : ℕ) → LeavesAt AreLines (table_text first) bytes k → IsFaultOrMemory result (faults.Shape k)

pub leaves_tables : (first bytes : List ℕ) (k : ℕ) → line_ends first ≡ 0 → (front : List (List ℕ)) × (k ≡ 1 + length front) × LeavesAfter AreLines (table_lines first) bytes front → LeavesAt AreLines (table_text first) bytes k
leaves_tables first bytes k one found =
    subst (λ (n : ℕ). LeavesAt AreLines (table_text first) bytes n) (sym found.1)
    (leaves_at AreLines (table_lines first) (λ ls al. (one, body_one_line ls al)) bytes found.0 found.2)

pub ok_answers : (A : Type 0) (first bytes : List ℕ) (v : Vec NumLine A) → line_ends first ≡ 0 → ReadsLines (table_lines first) (Ok v) (place 1 bytes) → AnswersTable first bytes (Ok v)
ok_answers A first bytes v one reads = record {
  lines = reads;
  accepted = λ ls al same. one_table first v.items ls one reads.0 al (sym reads.1 ∙ same);
  shape = λ k e. absurd cc;
  misshaped = λ k leaves. absurd (leaves.no_file v.items reads.0 reads.1);
}

pub err_answers : (A : Type 0) (first bytes : List ℕ) (e : Stop) → line_ends first ≡ 0 → ReadsLines {A = A} (table_lines first) (Err e) (place 1 bytes) → AnswersTable {A = A} first bytes (Err (fault_of e))
err_answers A first bytes stops.Memory one reads = record {
  lines = tt;
  accepted = λ ls al same. refl;
  shape = λ k e. absurd cc;
  misshaped = λ k leaves. inr refl;
}
err_answers A first bytes (stops.Shape j) one reads =
    let at = leaves_tables first bytes j one reads in
    record {
      lines = tt;
      accepted = λ ls al same. absurd (at.no_file ls al same);
      shape = λ k e. let same : j ≡ k = cc in subst (λ (n : ℕ). LeavesAt AreLines (table_text first) bytes n) same at;
      misshaped = λ k leaves. inl (ap (λ (n : ℕ). Err (faults.Shape n)) (one_leaving AreLines (table_text first) bytes j k at leaves));
    }

-- who does more with the lines that were read refuses as who reads does
pub same_refusal : (X Y : Type 0) (e due : TableFault) → IsFaultOrMemory {X = X} (Err e) due → IsFaultOrMemory {X = Y} (Err e) due
same_refusal X Y e due (inl same) = let is : e ≡ due = cc in inl (ap (λ (f : TableFault). Err f) is)
same_refusal X Y e due (inr short) = let is : e ≡ faults.Memory = cc in inr (ap (λ (f : TableFault). Err f) is)
