-- The first line that is not due is where a table leaves the files of its kind.
use Rattle.std.proofs.Common.{◌≡◌, ℕ, zero, suc, Bool, true, false, ◌&&◌, cond, List, [], ◌∷◌, ◌++◌, length, Option, Some, None, refl, sym, ap, subst, ◌∙◌, arith, append_assoc, inl, inr}
use Rattle.std.specs.Prelude.{codes, bytes_eq}
use Rattle.std.proofs.lemmas.Bool.{and_parts, and_from}
use Rattle.std.proofs.lemmas.Slice.Eq.{bytes_eq-Decides}
use Rattle.te_model.specs.Faults.{LeavesAt}
use Rattle.cert_text.proofs.Laws.{one_leaving}
use Rattle.number_tables.specs.declared.line.NumLine.{NumLine}
use Rattle.number_tables.specs.Due.{Due, done, line, AreDue, CanEnd, one_later, first_undue, AreFile, LeavesSmallFiles, FirstUndueLeaves, OneSmallFault}
use Rattle.number_tables.specs.Leaving.{LeavesAfter, body_lines}
use Rattle.number_tables.specs.Table.{IsLine, AreLines, line_text, file_of, table_lines, table_text}
use Rattle.number_tables.proofs.FilesOfLines.{first_same, file_cons, one_first_line, leaves_at}
use Rattle.number_tables.proofs.Texts.{line_is_one, not_the_end, one_line_text}
use Rattle.number_tables.proofs.Whole.{body_one_line}

-- ---- whether a line is the one that is due

abbrev fits : List ℕ → (List ℕ → Bool) → NumLine → Bool
fits word test l = bytes_eq l.word word && test l.numbers

fits_word : (word : List ℕ) (test : List ℕ → Bool) (l : NumLine) → fits word test l ≡ true → l.word ≡ word
fits_word word test l e = (bytes_eq-Decides l.word word).0 (and_parts (bytes_eq l.word word) (test l.numbers) e).0

fits_test : (word : List ℕ) (test : List ℕ → Bool) (l : NumLine) → fits word test l ≡ true → test l.numbers ≡ true
fits_test word test l e = (and_parts (bytes_eq l.word word) (test l.numbers) e).1

does_fit : (word : List ℕ) (test : List ℕ → Bool) (l : NumLine) → l.word ≡ word → test l.numbers ≡ true → fits word test l ≡ true
does_fit word test l same passes = and_from (bytes_eq l.word word) (test l.numbers) ((bytes_eq-Decides l.word word).1 same) passes

later_none : (o : Option ℕ) → one_later o ≡ None → o ≡ None
later_none None e = refl
later_none (Some k) e = cc

-- of lines that are due, none is the first that is not
due_none : (due : Due) (ls : List NumLine) → AreDue due ls → first_undue due ls ≡ None
due_none done [] is = refl
due_none done (l ∷ ls) is = absurd is
due_none (line word test next) [] is = absurd is
due_none (line word test next) (l ∷ ls) is =
    rw (does_fit word test l is.0 is.1, due_none (next l.numbers) ls is.2) refl

none_due : (due : Due) (ls : List NumLine) → first_undue due ls ≡ None → AreDue due ls
none_due done [] none = tt
none_due done (l ∷ ls) none = cc
none_due (line word test next) [] none = cc
none_due (line word test next) (l ∷ ls) none = go (fits word test l) refl none (none_due (next l.numbers) ls)
  where
    go : (b : Bool) → fits word test l ≡ b → cond b (one_later (first_undue (next l.numbers) ls)) (Some 0) ≡ None →
        (first_undue (next l.numbers) ls ≡ None → AreDue (next l.numbers) ls) → AreDue (line word test next) (l ∷ ls)
    go true e is rest = (fits_word word test l e, fits_test word test l e, rest (later_none (first_undue (next l.numbers) ls) is))
    go false e is rest = cc

-- ---- where the lines leave the files

-- some file of this kind
some_file : (due : Due) → CanEnd due → (ls : List NumLine) × AreFile due ls
some_file done can = ([], (tt, tt))
some_file (line word test next) can =
    let numbers = can.0.0 in
    let rest = some_file (next numbers) (can.1 numbers can.0.2) in
    (record { word = word; numbers = numbers } ∷ rest.0, ((can.0.1, rest.1.0), (refl, can.0.2, rest.1.1)))

-- a first line that is not due comes one place later behind a line that is
later_some : (o : Option ℕ) (k : ℕ) → one_later o ≡ Some k → (j : ℕ) × (o ≡ Some j) × (k ≡ suc j)
later_some None k e = cc
later_some (Some j) k e = (j, refl, sym (some_same (suc j) k e))
  where
    some_same : (x y : ℕ) → Some x ≡ Some y → x ≡ y
    some_same x y e' = cc

zero_some : (k : ℕ) → Some zero ≡ Some k → k ≡ 0
zero_some k e = cc

abbrev LeavesBody : Due → List NumLine → ℕ → Type 0
LeavesBody due ls k = (front : List (List ℕ)) × (k ≡ length front) × LeavesAfter (AreFile due) body_lines (file_of (body_lines ls)) front

-- the first lines of two tables are one where their texts are
abbrev BeginAlike : List NumLine → List NumLine → Type 0
BeginAlike [] [] = Unit {0}
BeginAlike [] (m ∷ ms) = ⊥
BeginAlike (l ∷ ls) [] = ⊥
BeginAlike (l ∷ ls) (m ∷ ms) = l ≡ m

begin_alike : (ls ms : List NumLine) (first left : List ℕ) (more : List (List ℕ)) → AreLines ls → AreLines ms → body_lines ms ≡ first ∷ more → file_of (body_lines ls) ≡ first ++ 10 ∷ left → BeginAlike ls ms
begin_alike [] [] first left more al am e f = tt
begin_alike [] (m ∷ ms) first left more al am e f =
    let text = (first_same (line_text m) first (body_lines ms) more e).0 in
    let same = one_first_line (codes "end") (line_text m) [] left refl (line_is_one m am.0) (f ∙ ap (λ (y : List ℕ). y ++ 10 ∷ left) (sym text)) in
    not_the_end m am.0 (sym same.0)
begin_alike (l ∷ ls) [] first left more al am e f =
    let text = (first_same (codes "end") first [] more e).0 in
    let same = one_first_line (line_text l) (codes "end") (file_of (body_lines ls)) left (line_is_one l al.0) refl (sym (append_assoc (line_text l) (10 ∷ []) (file_of (body_lines ls))) ∙ f ∙ ap (λ (y : List ℕ). y ++ 10 ∷ left) (sym text)) in
    not_the_end l al.0 same.0
begin_alike (l ∷ ls) (m ∷ ms) first left more al am e f =
    let text = (first_same (line_text m) first (body_lines ms) more e).0 in
    let same = one_first_line (line_text l) (line_text m) (file_of (body_lines ls)) left (line_is_one l al.0) (line_is_one m am.0) (sym (append_assoc (line_text l) (10 ∷ []) (file_of (body_lines ls))) ∙ f ∙ ap (λ (y : List ℕ). y ++ 10 ∷ left) (sym text)) in
    one_line_text l m al.0 am.0 same.0

-- no file begins as lines of which the first is not due
not_alike : (due : Due) (ls ms : List NumLine) → first_undue due ls ≡ Some 0 → AreDue due ms → BeginAlike ls ms → ⊥
not_alike done [] ms undue am alike = cc
not_alike done (l ∷ ls) [] undue am alike = absurd alike
not_alike done (l ∷ ls) (m ∷ ms) undue am alike = absurd am
not_alike (line word test next) ls [] undue am alike = absurd am
not_alike (line word test next) [] (m ∷ ms) undue am alike = absurd alike
not_alike (line word test next) (l ∷ ls) (m ∷ ms) undue am alike =
    let fit : fits word test l ≡ true = does_fit word test l (ap (λ (x : NumLine). x.word) alike ∙ am.0) (ap (λ (x : NumLine). test x.numbers) alike ∙ am.1) in
    let found = later_some (first_undue (next l.numbers) ls) 0 (rw fit at undue) in
    let never = found.2 in
    cc

leaves_here : (due : Due) → CanEnd due → (ls : List NumLine) → AreLines ls → first_undue due ls ≡ Some 0 → LeavesBody due ls 0
leaves_here due can ls al undue = (
  [],
  refl,
  record {
    rest = file_of (body_lines ls);
    parts = refl;
    begun = let some = some_file due can in (some.0, some.1, body_lines some.0, refl);
    stuck = λ ms is first more left same rest. not_alike due ls ms undue is.1 (begin_alike ls ms first left more al is.0 same rest);
    unended = λ ms is same none. nothing ms same;
  },
)
  where
    nothing : (ms : List NumLine) → body_lines ms ≡ [] → ⊥
    nothing [] e = cc
    nothing (m ∷ ms) e = cc

-- a file that begins with a line has it as its first line
file_after : (word : List ℕ) (test : List ℕ → Bool) (next : List ℕ → Due) (l : NumLine) (ms : List NumLine) (others : List (List ℕ)) → IsLine l → AreFile (line word test next) ms → body_lines ms ≡ line_text l ∷ others
    → (ys : List NumLine) × AreFile (next l.numbers) ys × (body_lines ys ≡ others)
file_after word test next l [] others il is e = absurd is.1
file_after word test next l (m ∷ ms) others il is e =
    let h = first_same (line_text m) (line_text l) (body_lines ms) others e in
    let same : m ≡ l = one_line_text m l is.0.0 il h.0 in
    (ms, (is.0.1, subst (λ (x : NumLine). AreDue (next x.numbers) ms) same is.1.2), h.1)

leaves_later : (word : List ℕ) (test : List ℕ → Bool) (next : List ℕ → Due) (l : NumLine) (ls : List NumLine) (k j : ℕ) → IsLine l → l.word ≡ word → test l.numbers ≡ true → k ≡ suc j → LeavesBody (next l.numbers) ls j
    → LeavesBody (line word test next) (l ∷ ls) k
leaves_later word test next l ls k j il same passes later found =
    let front = found.0 in
    let leaves = found.2 in (
      line_text l ∷ front,
      later ∙ ap suc found.1,
      record {
        rest = leaves.rest;
        parts = append_assoc (line_text l) (10 ∷ []) (file_of (body_lines ls)) ∙ ap (λ (y : List ℕ). line_text l ++ 10 ∷ y) leaves.parts ∙ sym (file_cons (line_text l) front leaves.rest);
        begun = let b = leaves.begun in (l ∷ b.0, ((il, b.1.0), (same, passes, b.1.1)), b.2, ap (λ (y : List (List ℕ)). line_text l ∷ y) b.3);
        stuck = λ ms is first more left e rest.
            let after = file_after word test next l ms (front ++ first ∷ more) il is e in
            leaves.stuck after.0 after.1 first more left after.2 rest;
        unended = λ ms is e none.
            let after = file_after word test next l ms front il is e in
            leaves.unended after.0 after.1 after.2 none;
      },
    )

leaves_body : (due : Due) → CanEnd due → (ls : List NumLine) → AreLines ls → (k : ℕ) → first_undue due ls ≡ Some k → LeavesBody due ls k
leaves_body done can [] al k is = cc
leaves_body done can (l ∷ ls) al k is = rw (zero_some k is) (leaves_here done can (l ∷ ls) al refl)
leaves_body (line word test next) can [] al k is = rw (zero_some k is) (leaves_here (line word test next) can [] al refl)
leaves_body (line word test next) can (l ∷ ls) al k is =
    go (fits word test l) refl is (λ passes j at. leaves_body (next l.numbers) (can.1 l.numbers passes) ls al.1 j at)
  where
    go : (b : Bool) → fits word test l ≡ b → cond b (one_later (first_undue (next l.numbers) ls)) (Some 0) ≡ Some k →
        (test l.numbers ≡ true → (j : ℕ) → first_undue (next l.numbers) ls ≡ Some j → LeavesBody (next l.numbers) ls j) →
        LeavesBody (line word test next) (l ∷ ls) k
    go false e first later = rw (zero_some k first) (leaves_here (line word test next) can (l ∷ ls) al (rw e refl))
    go true e first later =
        let found = later_some (first_undue (next l.numbers) ls) k first in
        let passes = fits_test word test l e in
        leaves_later word test next l ls k found.0 al.0 (fits_word word test l e) passes found.2 (later passes found.0 found.1)

-- behind the first line of the file
behind_first : (first : List ℕ) (due : Due) (ls : List NumLine) (front : List (List ℕ)) → LeavesAfter (AreFile due) body_lines (file_of (body_lines ls)) front
    → LeavesAfter (AreFile due) (table_lines first) (table_text first ls) (first ∷ front)
behind_first first due ls front leaves = record {
  rest = leaves.rest;
  parts = append_assoc first (10 ∷ []) (file_of (body_lines ls)) ∙ ap (λ (y : List ℕ). first ++ 10 ∷ y) leaves.parts ∙ sym (file_cons first front leaves.rest);
  begun = let b = leaves.begun in (b.0, b.1, b.2, ap (λ (y : List (List ℕ)). first ∷ y) b.3);
  stuck = λ ms is l more left e rest. leaves.stuck ms is l more left (first_same first first (body_lines ms) (front ++ l ∷ more) e).1 rest;
  unended = λ ms is e none. leaves.unended ms is (first_same first first (body_lines ms) front e).1 none;
}

pub first_undue_leaves : FirstUndueLeaves
first_undue_leaves first one due can ls al = (
  (none_due due ls, due_none due ls),
  λ k is.
      let found = leaves_body due can ls al k is in
      let at = leaves_at (AreFile due) (table_lines first) (λ ms file. (one, body_one_line ms file.0)) (table_text first ls) (first ∷ found.0) (behind_first first due ls found.0 found.2) in
      let count = found.1 in
      subst (λ (n : ℕ). LeavesAt (AreFile due) (table_text first) (table_text first ls) n) (omega (arith, count)) at,
)

-- bytes leave the small files of a kind at one line at most, and no such file does
pub one_small_fault : OneSmallFault
one_small_fault first due bytes = (at_one, never)
  where
    at_one : (j k : ℕ) → LeavesSmallFiles first due bytes j → LeavesSmallFiles first due bytes k → j ≡ k
    at_one j k (inl a) (inl b) = one_leaving AreLines (table_text first) bytes j k a b
    at_one j k (inl a) (inr b) = absurd (a.no_file b.0.0 b.0.1 b.0.2)
    at_one j k (inr a) (inl b) = absurd (b.no_file a.0.0 a.0.1 a.0.2)
    at_one j k (inr a) (inr b) = one_leaving (AreFile due) (table_text first) bytes j k a.1 b.1

    never : (ls : List NumLine) → AreFile due ls → bytes ≡ table_text first ls → (k : ℕ) → LeavesSmallFiles first due bytes k → ⊥
    never ls file same k (inl a) = a.no_file ls file.0 same
    never ls file same k (inr a) = a.1.no_file ls file same
