-- The text of a line of a table is read as the line, and what is read of a line is its text.
use Rattle.std.proofs.Common.{◌≡◌, ◌≢◌, ℕ, suc, ◌+◌, ◌<◌, ◌≤◌, Bool, true, false, ◌&&◌, cond, not, List, [], ◌∷◌, ◌++◌, length, Ok, Err, refl, sym, ap, subst, ◌∙◌, eqb, arith, append_assoc, get_or}
use Rattle.std.specs.Prelude.{nat_le, codes, bytes_eq}
use Rattle.std.specs.Char.{is_ascii_digit}
use Rattle.std.specs.Fmt.{decimal}
use Rattle.std.specs.List.{flat_map, list_all}
use Rattle.std.specs.Str.{all_ascii_digits}
use Rattle.std.proofs.lemmas.Bool.{and_parts, and_from, leb-true, le-leb}
use Rattle.std.proofs.lemmas.Bool.Decides.{nat_tests}
use Rattle.std.proofs.lemmas.Fmt.{digits_decimal, decimal_nonempty}
use Rattle.std.proofs.lemmas.List.{append-nil}
use Rattle.std.proofs.lemmas.Slice.Eq.{bytes_eq-Decides}
use Rattle.te_model.specs.Faults.{line_ends}
use Rattle.te_model.specs.Network.{is_name_byte, is_name}
use Rattle.te_model.specs.Text.{numbers, words}
use Rattle.cert_text.specs.Fits.{IsWord, AreWords}
use Rattle.cert_text.specs.LineEnds.{read_line_end_after}
use Rattle.cert_text.specs.Pieces.{with_space}
use Rattle.cert_text.specs.Place.{Place, place, ◌>>=◌}
use Rattle.cert_text.specs.Reading.{read_line_end, read_number, read_name, read_next_number, read_many}
use Rattle.cert_text.proofs.Completable.{ends_append}
use Rattle.cert_text.proofs.Decimals.{own, bind_ok, where_ok, ok_is, number_takes, number_again, name_takes, name_again, begins_with_digit, begins_with_letter}
use Rattle.cert_text.proofs.Productions.{joined, spaced_stop}
use Rattle.cert_text.proofs.Tokens.{next_number_takes, next_number_again, line_end_takes, many_takes}
use Rattle.cert_text.proofs.Completable.{digits_ends}
use Rattle.number_tables.specs.declared.line.NumLine.{NumLine}
use Rattle.number_tables.specs.Reading.{spaces_in_line, read_word_token, read_last, read_numbers_line, read_word_line, read_line}
use Rattle.number_tables.specs.Table.{is_letter, is_word, IsLine, line_text}
use Rattle.number_tables.proofs.Faults.{EndsOn, FaultsOn, then_ends, then_faults, mapped_faults, fault_on, guard_on, line_end_faults, name_on, number_on, next_number_on, many_on}

-- ---- the spaces of a line

digits_no_space : (ds r : List ℕ) → all_ascii_digits ds ≡ true → spaces_in_line (ds ++ r) ≡ spaces_in_line r
digits_no_space [] r all = refl
digits_no_space (d ∷ ds) r all =
    let parts = and_parts (is_ascii_digit d) (all_ascii_digits ds) all in
    let digit = parts.0 in
    let no_end : eqb d 10 ≡ false = grind (arith, nat_tests) in
    let no_space : eqb d 32 ≡ false = grind (arith, nat_tests) in
    rw (no_end, no_space) (digits_no_space ds r parts.1)

spaces_are : (xs r : List ℕ) → AreWords xs → spaces_in_line (flat_map with_space xs ++ 10 ∷ r) ≡ length xs
spaces_are [] r words = refl
spaces_are (x ∷ xs) r words =
    ap (λ (bs : List ℕ). suc (spaces_in_line bs)) (append_assoc (decimal x) (flat_map with_space xs) (10 ∷ r))
    ∙ ap suc (digits_no_space (decimal x) (flat_map with_space xs ++ 10 ∷ r) (digits_decimal own x words.0) ∙ spaces_are xs r words.1)

-- ---- no line feed in a line

letters_end_none : (w : List ℕ) → list_all is_letter w ≡ true → line_ends w ≡ 0
letters_end_none [] all = refl
letters_end_none (b ∷ bs) all =
    let parts = and_parts (is_letter b) (list_all is_letter bs) all in
    let letter = parts.0 in
    let no_end : eqb b 10 ≡ false = grind (arith, nat_tests) in
    rw no_end (letters_end_none bs parts.1)

spaced_end_none : (xs : List ℕ) → AreWords xs → line_ends (flat_map with_space xs) ≡ 0
spaced_end_none [] words = refl
spaced_end_none (x ∷ xs) words =
    ends_append (decimal x) (flat_map with_space xs)
    ∙ rw (digits_ends (decimal x) (digits_decimal own x words.0), spaced_end_none xs words.1) refl

-- ---- numbers to the end of the line

numbers_again : (xs : List ℕ) (k : ℕ) (r : List ℕ) → AreWords xs → begins_with_digit r ≡ false → read_many (length xs) read_next_number (place k (flat_map with_space xs ++ r)) ≡ Ok (xs, place k r)
unfolding read_many
numbers_again [] k r words stop = refl
numbers_again (x ∷ xs) k r words stop =
    ap (λ (bs : List ℕ). read_many (suc (length xs)) read_next_number (place k bs)) (append_assoc (with_space x) (flat_map with_space xs) r)
    ∙ rw (next_number_again k x (flat_map with_space xs ++ r) words.0 (spaced_stop xs r stop), numbers_again xs k r words.1 stop) refl

last_again : (front xs : List ℕ) (k : ℕ) (r : List ℕ) → AreWords xs → read_last front (place k (flat_map with_space xs ++ 10 ∷ r)) ≡ Ok (front ++ xs, place (k + 1) r)
unfolding read_last read_line_end_after
last_again front xs k r words =
    ap (λ (n : ℕ). read_many n read_next_number (place k (flat_map with_space xs ++ 10 ∷ r)) >>= λ x. read_line_end_after (front ++ x.0) x.1) (spaces_are xs r words)
    ∙ rw (numbers_again xs k (10 ∷ r) words refl) refl

record TookLast (front : List ℕ) (p : Place) (all : List ℕ) (q : Place) : Type 0 where
  xs : List ℕ
  same : all ≡ front ++ xs
  words : AreWords xs
  parts : p.rest ≡ flat_map with_space xs ++ 10 ∷ q.rest

last_takes : (front : List ℕ) (p : Place) (all : List ℕ) (q : Place) → read_last front p ≡ Ok (all, q) → TookLast front p all q
unfolding read_last read_line_end_after
last_takes front p all q e =
    let s0 = bind_ok (read_many (spaces_in_line p.rest) read_next_number p) (λ x. read_line_end_after (front ++ x.0) x.1) (all, q) e in
    let t0 = many_takes read_next_number with_space IsWord next_number_takes (spaces_in_line p.rest) p s0.0.0 s0.0.1 s0.1 in
    let s1 = bind_ok (read_line_end s0.0.1) (λ x. Ok (front ++ s0.0.0, x)) (all, q) s0.2 in
    let t1 = line_end_takes s0.0.1 s1.0 s1.1 in
    let made = ok_is {A = List ℕ × Place} (front ++ s0.0.0, s1.0) (all, q) s1.2 in
    record {
      xs = s0.0.0;
      same = sym (ap (λ (y : List ℕ × Place). y.0) made);
      words = t0.2;
      parts = t0.0 ∙ ap (λ (r : List ℕ). flat_map with_space s0.0.0 ++ r) (t1 ∙ ap (λ (y : List ℕ × Place). 10 ∷ y.1.rest) made);
    }

-- ---- the text of a line

pub no_word_text : (l : NumLine) → eqb (length l.word) 0 ≡ true → line_text l ≡ numbers l.numbers
no_word_text l none = rw none refl

pub word_text : (l : NumLine) → eqb (length l.word) 0 ≡ false → line_text l ≡ l.word ++ flat_map with_space l.numbers
word_text l some = rw some (joined l.word l.numbers)

one_more_letter : (b : ℕ) (w : List ℕ) → eqb (length (b ∷ w)) 0 ≡ false
one_more_letter b w = grind (arith, nat_tests)

spaced_no_letter : (xs r : List ℕ) → begins_with_letter (flat_map with_space xs ++ 10 ∷ r) ≡ false
spaced_no_letter [] r = refl
spaced_no_letter (x ∷ xs) r = refl

letter_is_name : (b : ℕ) → is_letter b ≡ true → is_name_byte b ≡ true
letter_is_name b letter = grind (arith, nat_tests)

letters_are_names : (w : List ℕ) → list_all is_letter w ≡ true → list_all is_name_byte w ≡ true
letters_are_names [] all = refl
letters_are_names (b ∷ bs) all =
    let parts = and_parts (is_letter b) (list_all is_letter bs) all in
    and_from (is_name_byte b) (list_all is_name_byte bs) (letter_is_name b parts.0) (letters_are_names bs parts.1)

record WordParts (w : List ℕ) : Type 0 where
  some : 1 ≤ length w
  short : length w ≤ 16
  letters : list_all is_letter w ≡ true
  other : bytes_eq w (codes "end") ≡ false

word_parts : (w : List ℕ) → is_word w ≡ true → WordParts w
word_parts w is =
    let a = and_parts ((nat_le 1 (length w) && nat_le (length w) 16) && list_all is_letter w) (not (bytes_eq w (codes "end"))) is in
    let b = and_parts (nat_le 1 (length w) && nat_le (length w) 16) (list_all is_letter w) a.0 in
    let c = and_parts (nat_le 1 (length w)) (nat_le (length w) 16) b.0 in
    record { some = leb-true 1 (length w) c.0; short = leb-true (length w) 16 c.1; letters = b.1; other = opposite (bytes_eq w (codes "end")) a.1 }
  where
    opposite : (t : Bool) → not t ≡ true → t ≡ false
    opposite true e = absurd cc
    opposite false e = refl

word_is_name : (w : List ℕ) → is_word w ≡ true → is_name w ≡ true
word_is_name w is =
    let p = word_parts w is in
    let some = p.some in
    let short = p.short in
    let low : nat_le 1 (length w) ≡ true = le-leb _ _ some in
    let high : nat_le (length w) 32 ≡ true = le-leb _ _ (omega (arith, short)) in
    rw (low, high) (letters_are_names w p.letters)

-- a word begins with no digit
no_digit_first : (w r : List ℕ) → is_word w ≡ true → is_ascii_digit (get_or (w ++ r) 0 0) ≡ false
no_digit_first [] r is = absurd (let p = word_parts [] is in let some = p.some in omega (arith, some))
no_digit_first (b ∷ bs) r is =
    let letter = (and_parts (is_letter b) (list_all is_letter bs) (word_parts (b ∷ bs) is).letters).0 in
    grind (arith, nat_tests)

digit_first : (n : ℕ) (r : List ℕ) → IsWord n → is_ascii_digit (get_or (decimal n ++ r) 0 0) ≡ true
digit_first n r small = from (decimal n) (digits_decimal own n small) (decimal_nonempty n small)
  where
    from : (ds : List ℕ) → all_ascii_digits ds ≡ true → 0 < length ds → is_ascii_digit (get_or (ds ++ r) 0 0) ≡ true
    from [] all some = absurd (omega (arith, some))
    from (d ∷ ds) all some = (and_parts (is_ascii_digit d) (all_ascii_digits ds) all).0

-- ---- a line is read again

token_again : (w : List ℕ) (k : ℕ) (r : List ℕ) → is_word w ≡ true → begins_with_letter r ≡ false → read_word_token (place k (w ++ r)) ≡ Ok (w, place k r)
unfolding read_word_token
token_again w k r is stop = rw (name_again k w r (word_is_name w is) stop, is) refl

numbers_line_again : (x : ℕ) (xs : List ℕ) (k : ℕ) (r : List ℕ) → AreWords (x ∷ xs) → read_numbers_line (place k (decimal x ++ (flat_map with_space xs ++ 10 ∷ r))) ≡ Ok (record { word = []; numbers = x ∷ xs }, place (k + 1) r)
unfolding read_numbers_line
numbers_line_again x xs k r words =
    rw (number_again k x (flat_map with_space xs ++ 10 ∷ r) words.0 (spaced_stop xs (10 ∷ r) refl), last_again (x ∷ []) xs k r words.1) refl

word_line_again : (w xs : List ℕ) (k : ℕ) (r : List ℕ) → is_word w ≡ true → AreWords xs → read_word_line (place k (w ++ (flat_map with_space xs ++ 10 ∷ r))) ≡ Ok (record { word = w; numbers = xs }, place (k + 1) r)
unfolding read_word_line
word_line_again w xs k r is words =
    rw (token_again w k (flat_map with_space xs ++ 10 ∷ r) is (spaced_no_letter xs r), last_again [] xs k r words) refl

pub line_again : (l : NumLine) (k : ℕ) (r : List ℕ) → IsLine l → read_line (place k (line_text l ++ 10 ∷ r)) ≡ Ok (l, place (k + 1) r)
unfolding read_line
line_again l k r is = by_parts l.word l.numbers is
  where
    by_parts : (w xs : List ℕ) → IsLine (record { word = w; numbers = xs }) → read_line (place k (line_text (record { word = w; numbers = xs }) ++ 10 ∷ r)) ≡ Ok (record { word = w; numbers = xs }, place (k + 1) r)
    by_parts [] [] is = absurd (let b = is.begun in cc)
    by_parts [] (x ∷ xs) is =
        let text : numbers (x ∷ xs) ++ 10 ∷ r ≡ decimal x ++ (flat_map with_space xs ++ 10 ∷ r) =
        ap (λ (y : List ℕ). y ++ 10 ∷ r) (joined (decimal x) xs) ∙ append_assoc (decimal x) (flat_map with_space xs) (10 ∷ r) in
        ap (λ (y : List ℕ). read_line (place k y)) text
        ∙ rw (digit_first x (flat_map with_space xs ++ 10 ∷ r) is.numbers.0) (numbers_line_again x xs k r is.numbers)
    by_parts (b ∷ w) xs is =
        let some = one_more_letter b w in
        let word : is_word (b ∷ w) ≡ true = rw some at is.begun in
        let text : line_text (record { word = b ∷ w; numbers = xs }) ++ 10 ∷ r ≡ (b ∷ w) ++ (flat_map with_space xs ++ 10 ∷ r) =
        ap (λ (y : List ℕ). y ++ 10 ∷ r) (word_text (record { word = b ∷ w; numbers = xs }) some) ∙ append_assoc (b ∷ w) (flat_map with_space xs) (10 ∷ r) in
        ap (λ (y : List ℕ). read_line (place k y)) text
        ∙ rw (no_digit_first (b ∷ w) (flat_map with_space xs ++ 10 ∷ r) word) (word_line_again (b ∷ w) xs k r word is.numbers)

-- ---- what is read of a line is its text

pub record TookLine (p : Place) (l : NumLine) (q : Place) : Type 0 where
  pub good : IsLine l
  pub parts : p.rest ≡ line_text l ++ 10 ∷ q.rest

numbers_line_takes : (p : Place) (l : NumLine) (q : Place) → read_numbers_line p ≡ Ok (l, q) → TookLine p l q
unfolding read_numbers_line
numbers_line_takes p l q e =
    let s0 = bind_ok (read_number p) (λ first. read_last (first.0 ∷ []) first.1 >>= λ all. Ok (record { word = []; numbers = all.0 }, all.1)) (l, q) e in
    let t0 = number_takes p s0.0.0 s0.0.1 s0.1 in
    let s1 = bind_ok (read_last (s0.0.0 ∷ []) s0.0.1) (λ all. Ok (record { word = []; numbers = all.0 }, all.1)) (l, q) s0.2 in
    let t1 = last_takes (s0.0.0 ∷ []) s0.0.1 s1.0.0 s1.0.1 s1.1 in
    let xs = t1.xs in
    let made : NumLine = record { word = []; numbers = s0.0.0 ∷ xs } in
    let text : p.rest ≡ line_text made ++ 10 ∷ s1.0.1.rest =
    t0.parts ∙ ap (λ (y : List ℕ). decimal s0.0.0 ++ y) t1.parts ∙ sym (append_assoc (decimal s0.0.0) (flat_map with_space xs) (10 ∷ s1.0.1.rest))
    ∙ ap (λ (y : List ℕ). y ++ 10 ∷ s1.0.1.rest) (sym (joined (decimal s0.0.0) xs)) in
    let took : TookLine p made s1.0.1 = record { good = record { begun = le-leb 1 (length (s0.0.0 ∷ xs)) (omega arith); numbers = (t0.small, t1.words) }; parts = text } in
    let same : ◌≡◌ {A = NumLine × Place} (made, s1.0.1) (l, q) =
    ap (λ (ys : List ℕ). (record { word = []; numbers = ys }, s1.0.1)) (sym t1.same) ∙ ok_is {A = NumLine × Place} (record { word = []; numbers = s1.0.0 }, s1.0.1) (l, q) s1.2 in
    subst (λ (y : NumLine × Place). TookLine p y.0 y.1) same took

token_takes : (p : Place) (w : List ℕ) (q : Place) → read_word_token p ≡ Ok (w, q) → (p.rest ≡ w ++ q.rest) × (is_word w ≡ true)
unfolding read_word_token
token_takes p w q e =
    let s0 = bind_ok (read_name p) (λ x. cond (is_word x.0) (Ok x) (Err x.1.line)) (w, q) e in
    let g = where_ok (is_word s0.0.0) s0.0.1.line s0.0 (w, q) s0.2 in
    let t0 = name_takes p s0.0.0 s0.0.1 s0.1 in
    subst (λ (y : List ℕ × Place). (p.rest ≡ y.0 ++ y.1.rest) × (is_word y.0 ≡ true)) g.1 (t0.parts, g.0)

word_line_takes : (p : Place) (l : NumLine) (q : Place) → read_word_line p ≡ Ok (l, q) → TookLine p l q
unfolding read_word_line
word_line_takes p l q e =
    let s0 = bind_ok (read_word_token p) (λ w. read_last [] w.1 >>= λ all. Ok (record { word = w.0; numbers = all.0 }, all.1)) (l, q) e in
    let t0 = token_takes p s0.0.0 s0.0.1 s0.1 in
    let w = s0.0.0 in
    let s1 = bind_ok (read_last [] s0.0.1) (λ all. Ok (record { word = w; numbers = all.0 }, all.1)) (l, q) s0.2 in
    let t1 = last_takes [] s0.0.1 s1.0.0 s1.0.1 s1.1 in
    let xs = t1.xs in
    let made : NumLine = record { word = w; numbers = xs } in
    let some : eqb (length w) 0 ≡ false = let h = (word_parts w t0.1).some in grind (arith, nat_tests) in
    let text : p.rest ≡ line_text made ++ 10 ∷ s1.0.1.rest =
    t0.0 ∙ ap (λ (y : List ℕ). w ++ y) t1.parts ∙ sym (append_assoc w (flat_map with_space xs) (10 ∷ s1.0.1.rest))
    ∙ ap (λ (y : List ℕ). y ++ 10 ∷ s1.0.1.rest) (sym (word_text made some)) in
    let took : TookLine p made s1.0.1 = record { good = record { begun = rw some t0.1; numbers = t1.words }; parts = text } in
    let same : ◌≡◌ {A = NumLine × Place} (made, s1.0.1) (l, q) =
    ap (λ (ys : List ℕ). (record { word = w; numbers = ys }, s1.0.1)) (sym t1.same) ∙ ok_is {A = NumLine × Place} (record { word = w; numbers = s1.0.0 }, s1.0.1) (l, q) s1.2 in
    subst (λ (y : NumLine × Place). TookLine p y.0 y.1) same took

pub line_takes : (p : Place) (l : NumLine) (q : Place) → read_line p ≡ Ok (l, q) → TookLine p l q
unfolding read_line
line_takes p l q e = chosen (is_ascii_digit (get_or p.rest 0 0)) e
  where
    chosen : (t : Bool) → cond t (read_numbers_line p) (read_word_line p) ≡ Ok (l, q) → TookLine p l q
    chosen true h = numbers_line_takes p l q h
    chosen false h = word_line_takes p l q h

-- after a line the next one begins
pub next_line : (p : Place) (l : NumLine) (q : Place) → read_line p ≡ Ok (l, q) → q.line ≡ p.line + 1
next_line p l q e =
    let t = line_takes p l q e in
    let again = line_again l p.line q.rest t.good in
    let same : ◌≡◌ {A = NumLine × Place} (l, q) (l, place (p.line + 1) q.rest) = ok_is {A = NumLine × Place} (l, q) (l, place (p.line + 1) q.rest) (sym e ∙ ap (λ (y : List ℕ). read_line (place p.line y)) t.parts ∙ again) in
    ap (λ (y : NumLine × Place). y.1.line) same

-- ---- a fault of a line is there

last_faults : (front : List ℕ) (p : Place) (n : ℕ) → p.line ≡ n → FaultsOn n (read_last front p)
unfolding read_last read_line_end_after
last_faults front p n on =
    then_faults n (read_many (spaces_in_line p.rest) read_next_number p) (λ x. read_line_end_after (front ++ x.0) x.1) (many_on read_next_number next_number_on (spaces_in_line p.rest) p n on)
    (λ x at. mapped_faults n (read_line_end x.1) (λ e. (front ++ x.0, e)) (line_end_faults x.1 n at))

numbers_line_faults : (p : Place) (n : ℕ) → p.line ≡ n → FaultsOn n (read_numbers_line p)
unfolding read_numbers_line
numbers_line_faults p n on =
    then_faults n (read_number p) (λ first. read_last (first.0 ∷ []) first.1 >>= λ all. Ok (record { word = []; numbers = all.0 }, all.1)) (number_on p n on)
    (λ x at. mapped_faults n (read_last (x.0 ∷ []) x.1) (λ all. (record { word = []; numbers = all.0 }, all.1)) (last_faults (x.0 ∷ []) x.1 n at))

token_on : (p : Place) (n : ℕ) → p.line ≡ n → EndsOn n (read_word_token p)
unfolding read_word_token
token_on p n on =
    then_ends n (read_name p) (λ w. cond (is_word w.0) (Ok w) (Err w.1.line)) (name_on p n on) (λ x at. guard_on n (is_word x.0) x at)

word_line_faults : (p : Place) (n : ℕ) → p.line ≡ n → FaultsOn n (read_word_line p)
unfolding read_word_line
word_line_faults p n on =
    then_faults n (read_word_token p) (λ w. read_last [] w.1 >>= λ all. Ok (record { word = w.0; numbers = all.0 }, all.1)) (token_on p n on)
    (λ x at. mapped_faults n (read_last [] x.1) (λ all. (record { word = x.0; numbers = all.0 }, all.1)) (last_faults [] x.1 n at))

line_faults : (p : Place) → FaultsOn p.line (read_line p)
unfolding read_line
line_faults p = chosen (is_ascii_digit (get_or p.rest 0 0))
  where
    chosen : (t : Bool) → FaultsOn p.line (cond t (read_numbers_line p) (read_word_line p))
    chosen true = numbers_line_faults p p.line refl
    chosen false = word_line_faults p p.line refl

pub line_fault : (p : Place) (k : ℕ) → read_line p ≡ Err k → k ≡ p.line
line_fault p k e = fault_on p.line k (read_line p) e (line_faults p)

-- ---- a line is one line, and not the last one

both_none : (a b : ℕ) → a ≡ 0 → b ≡ 0 → a + b ≡ 0
both_none a b e f = omega (arith, e, f)

pub line_is_one : (l : NumLine) → IsLine l → line_ends (line_text l) ≡ 0
line_is_one l is = by_parts l.word l.numbers is
  where
    by_parts : (w xs : List ℕ) → IsLine (record { word = w; numbers = xs }) → line_ends (line_text (record { word = w; numbers = xs })) ≡ 0
    by_parts [] [] is = absurd (let b = is.begun in cc)
    by_parts [] (x ∷ xs) is =
        ap line_ends (joined (decimal x) xs) ∙ ends_append (decimal x) (flat_map with_space xs)
        ∙ both_none (line_ends (decimal x)) (line_ends (flat_map with_space xs)) (digits_ends (decimal x) (digits_decimal own x is.numbers.0)) (spaced_end_none xs is.numbers.1)
    by_parts (b ∷ w) xs is =
        let some = one_more_letter b w in
        let word : is_word (b ∷ w) ≡ true = rw some at is.begun in
        ap line_ends (word_text (record { word = b ∷ w; numbers = xs }) some) ∙ ends_append (b ∷ w) (flat_map with_space xs)
        ∙ both_none (line_ends (b ∷ w)) (line_ends (flat_map with_space xs)) (letters_end_none (b ∷ w) (word_parts (b ∷ w) word).letters) (spaced_end_none xs is.numbers)

no_space : (w r : List ℕ) → list_all is_letter (w ++ 32 ∷ r) ≡ true → ⊥
no_space [] r all = absurd cc
no_space (b ∷ w) r all = no_space w r (and_parts (is_letter b) (list_all is_letter (w ++ 32 ∷ r)) all).1

pub not_the_end : (l : NumLine) → IsLine l → line_text l ≢ codes "end"
not_the_end l is e = by_parts l.word l.numbers is e
  where
    by_parts : (w xs : List ℕ) → IsLine (record { word = w; numbers = xs }) → line_text (record { word = w; numbers = xs }) ≡ codes "end" → ⊥
    by_parts [] [] is e = absurd (let b = is.begun in cc)
    by_parts [] (x ∷ xs) is e =
        let digit = digit_first x (flat_map with_space xs) is.numbers.0 in
        let other : is_ascii_digit (get_or (decimal x ++ flat_map with_space xs) 0 0) ≡ false = ap (λ (y : List ℕ). is_ascii_digit (get_or y 0 0)) (sym (joined (decimal x) xs) ∙ e) in
        absurd cc
    by_parts (b ∷ w) [] is e =
        let some = one_more_letter b w in
        let word : is_word (b ∷ w) ≡ true = rw some at is.begun in
        let same : (b ∷ w) ≡ codes "end" = sym (append-nil (b ∷ w)) ∙ sym (word_text (record { word = b ∷ w; numbers = [] }) some) ∙ e in
        let equal : bytes_eq (b ∷ w) (codes "end") ≡ true = (bytes_eq-Decides (b ∷ w) (codes "end")).1 same in
        let other = (word_parts (b ∷ w) word).other in
        absurd cc
    by_parts (b ∷ w) (x ∷ xs) is e =
        let same : (b ∷ w) ++ flat_map with_space (x ∷ xs) ≡ codes "end" = sym (word_text (record { word = b ∷ w; numbers = x ∷ xs }) (one_more_letter b w)) ∙ e in
        no_space (b ∷ w) (decimal x ++ flat_map with_space xs) (ap (λ (y : List ℕ). list_all is_letter y) same)

-- lines with one text are one
pub one_line_text : (l m : NumLine) → IsLine l → IsLine m → line_text l ≡ line_text m → l ≡ m
one_line_text l m il im same =
    let one : ◌≡◌ {A = NumLine × Place} (l, place 1 []) (m, place 1 []) =
    ok_is {A = NumLine × Place} (l, place 1 []) (m, place 1 []) (sym (line_again l 0 [] il) ∙ ap (λ (y : List ℕ). read_line (place 0 (y ++ 10 ∷ []))) same ∙ line_again m 0 [] im) in
    ap (λ (y : NumLine × Place). y.0) one
