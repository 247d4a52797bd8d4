-- Where reading stops at a fault, the lines before it begin the text of something that is read.
use Rattle.std.proofs.Common.{◌≡◌, ℕ, suc, ◌+◌, ◌-◌, ◌*◌, ◌^◌, ◌<◌, ◌≤◌, Bool, true, false, ◌&&◌, cond, List, [], ◌∷◌, ◌++◌, length, Result, Ok, Err, refl, sym, ap, subst, ◌∙◌, arith, eqb, eq-eqb, ltb, get_or, inl, inr, ◌⊎◌, append_assoc}
use mathlib.Core.Path.{fun_ext}
use Rattle.std.specs.Prelude.{nat_le}
use Rattle.std.specs.Char.{is_ascii_digit}
use Rattle.std.specs.Fmt.{decimal}
use Rattle.std.specs.Str.{all_ascii_digits}
use Rattle.std.specs.List.{list_all}
use Rattle.std.proofs.lemmas.Bool.{cases_lt, eqb-true, and_parts}
use Rattle.std.proofs.lemmas.Bool.Decides.{nat_tests}
use Rattle.std.proofs.lemmas.Fmt.{digits_decimal}
use Rattle.te_model.specs.Network.{is_name_byte}
use Rattle.cert_text.specs.Place.{Place, place, ◌>>=◌}
use Rattle.cert_text.specs.Reading.{byte_from, read_byte, read_line_end, read_digits, number_from, read_number, read_count, name_from, read_name}
use Rattle.te_model.specs.Faults.{line_ends}
use Rattle.cert_text.proofs.Decimals.{own, begins, bind_ok, ok_is, where_ok, number_takes, number_again, name_takes, name_again}
use Rattle.cert_text.proofs.Tokens.{byte_again, IsCount, count_again}
use Rattle.cert_text.proofs.Local.{quiet, silent, silent_bind}

-- no byte
abbrev pub no_byte : ℕ → Bool
no_byte b = false

-- each byte
abbrev pub each_byte : ℕ → Bool
each_byte b = true

-- what was read stands in front of the place after it, and is read again before whatever may follow; what is before is
-- the first byte that may not stand in front, what is after the first that may not follow
pub record Resumes {X : Type 0} (before after : ℕ → Bool) (f : Place → Result (X × Place) ℕ) (n : ℕ) (s : List ℕ) (x : X) (q : Place) : Type 0 where
  pub front : List ℕ
  pub parts : s ≡ front ++ q.rest
  pub line : q.line ≡ n + line_ends front
  pub stops : begins after q.rest ≡ false
  pub opens : (r : List ℕ) → begins after r ≡ false → begins before (front ++ r) ≡ false
  pub again : (r : List ℕ) → begins after r ≡ false → f (place n (front ++ r)) ≡ Ok (x, place q.line r)

-- what stands before the faulty line goes on to something that is read
pub record Completes {X : Type 0} (after : ℕ → Bool) (f : Place → Result (X × Place) ℕ) (n : ℕ) (s : List ℕ) (k : ℕ) : Type 0 where
  pub front : List ℕ
  pub left : List ℕ
  pub more : List ℕ
  pub value : X
  pub line : ℕ
  pub parts : s ≡ front ++ left
  pub lines : n + line_ends front ≡ k
  pub again : (r : List ℕ) → begins after r ≡ false → f (place n (front ++ (more ++ r))) ≡ Ok (value, place line r)

-- something is read
pub record Starts {X : Type 0} (before after : ℕ → Bool) (f : Place → Result (X × Place) ℕ) (n : ℕ) : Type 0 where
  pub more : List ℕ
  pub value : X
  pub line : ℕ
  pub opens : (r : List ℕ) → begins after r ≡ false → begins before (more ++ r) ≡ false
  pub again : (r : List ℕ) → begins after r ≡ false → f (place n (more ++ r)) ≡ Ok (value, place line r)

pub record IsCompletable {X : Type 0} (before after : ℕ → Bool) (f : Place → Result (X × Place) ℕ) : Type 0 where
  pub resumes : (n : ℕ) (s : List ℕ) (x : X) (q : Place) → begins before s ≡ false → f (place n s) ≡ Ok (x, q) → Resumes before after f n s x q
  pub completes : (n : ℕ) (s : List ℕ) (k : ℕ) → begins before s ≡ false → f (place n s) ≡ Err k → (n ≤ k) × (n < k → Completes after f n s k)
  pub starts : (n : ℕ) → Starts before after f n

bind_err : {A B : Type 0} (r : Result A ℕ) (f : A → Result B ℕ) (k : ℕ) → (r >>= f) ≡ Err k → (r ≡ Err k) ⊎ ((x : A) × (r ≡ Ok x) × (f x ≡ Err k))
bind_err (Ok x) f k e = inr (x, refl, e)
bind_err (Err j) f k e = inl cc

pub ends_append : (xs ys : List ℕ) → line_ends (xs ++ ys) ≡ line_ends xs + line_ends ys
ends_append [] ys = omega arith
ends_append (x ∷ xs) ys = chosen (eqb x 10) (ends_append xs ys)
  where
    chosen : (t : Bool) → line_ends (xs ++ ys) ≡ line_ends xs + line_ends ys → cond t (suc (line_ends (xs ++ ys))) (line_ends (xs ++ ys)) ≡ cond t (suc (line_ends xs)) (line_ends xs) + line_ends ys
    chosen true e = omega arith
    chosen false e = e

-- a first byte decides whatever stands after it
same_first : (test : ℕ → Bool) (u v w : List ℕ) → 0 < line_ends u → begins test (u ++ v) ≡ false → begins test (u ++ w) ≡ false
same_first test [] v w some h = absurd (omega arith)
same_first test (b ∷ bs) v w some h = h

module _ {X Y : Type 0} {a b c : ℕ → Bool} (f : Place → Result (X × Place) ℕ) (g : X → Place → Result (Y × Place) ℕ) (cf : IsCompletable a b f) (cg : (x : X) → IsCompletable b c (g x)) where
  then_resumes : (n : ℕ) (s : List ℕ) (y : Y) (q : Place) → begins a s ≡ false → (f (place n s) >>= λ x. g x.0 x.1) ≡ Ok (y, q) → Resumes a c (λ p. f p >>= λ x. g x.0 x.1) n s y q
  then_resumes n s y q free e =
      let d = bind_ok (f (place n s)) (λ x. g x.0 x.1) (y, q) e in
      let one = cf.resumes n s d.0.0 d.0.1 free d.1 in
      let two = (cg d.0.0).resumes d.0.1.line d.0.1.rest y q one.stops d.2 in
      record {
        front = one.front ++ two.front;
        parts = one.parts ∙ ap (λ (r : List ℕ). one.front ++ r) two.parts ∙ sym (append_assoc one.front two.front q.rest);
        line = let l1 = one.line in let l2 = two.line in omega (arith, ends_append one.front two.front);
        stops = two.stops;
        opens = λ r no. rw (append_assoc one.front two.front r) (one.opens (two.front ++ r) (two.opens r no));
        again = λ r no.
            ap (λ (bs : List ℕ). f (place n bs) >>= λ x. g x.0 x.1) (append_assoc one.front two.front r)
            ∙ ap (λ (t : Result (X × Place) ℕ). t >>= λ x. g x.0 x.1) (one.again (two.front ++ r) (two.opens r no)) ∙ two.again r no;
      }

  then_completes : (n : ℕ) (s : List ℕ) (k : ℕ) → begins a s ≡ false → (f (place n s) >>= λ x. g x.0 x.1) ≡ Err k → (n ≤ k) × (n < k → Completes c (λ p. f p >>= λ x. g x.0 x.1) n s k)
  then_completes n s k free e =
      elim (bind_err (f (place n s)) (λ x. g x.0 x.1) k e) [
        | inl here ↦
            let one = cf.completes n s k free here in (
              one.0,
              λ lt.
                  let m = one.1 lt in
                  let two = (cg m.value).starts m.line in
                  record {
                    front = m.front;
                    left = m.left;
                    more = m.more ++ two.more;
                    value = two.value;
                    line = two.line;
                    parts = m.parts;
                    lines = m.lines;
                    again = λ r no.
                        ap (λ (bs : List ℕ). f (place n (m.front ++ bs)) >>= λ x. g x.0 x.1) (append_assoc m.more two.more r)
                        ∙ ap (λ (t : Result (X × Place) ℕ). t >>= λ x. g x.0 x.1) (m.again (two.more ++ r) (two.opens r no)) ∙ two.again r no;
                  },
            )
        | inr there ↦
            let x = there.0.0 in
            let q = there.0.1 in
            let one = cf.resumes n s x q free there.1 in
            let at : q.line ≡ n + line_ends one.front = one.line in
            let two = (cg x).completes q.line q.rest k one.stops there.2 in
            let up : q.line ≤ k = two.0 in
            (omega arith, λ lt. later n s k x q one at (cases_lt q.line k) up (two.1))
      ]
    where
      later : (n : ℕ) (s : List ℕ) (k : ℕ) (x : X) (q : Place) (one : Resumes a b f n s x q) → q.line ≡ n + line_ends one.front → (q.line < k) ⊎ (k ≤ q.line) → q.line ≤ k
          → (q.line < k → Completes c (g x) q.line q.rest k) → Completes c (λ p. f p >>= λ x. g x.0 x.1) n s k
      later n s k x q one at (inl lt) up two =
          let m = two lt in
          let some : 0 < line_ends m.front = let l = m.lines in omega arith in
          let free : begins b (m.front ++ m.left) ≡ false = subst (λ (r : List ℕ). begins b r ≡ false) m.parts one.stops in
          record {
            front = one.front ++ m.front;
            left = m.left;
            more = m.more;
            value = m.value;
            line = m.line;
            parts = one.parts ∙ ap (λ (r : List ℕ). one.front ++ r) m.parts ∙ sym (append_assoc one.front m.front m.left);
            lines = let l = m.lines in omega (arith, ends_append one.front m.front);
            again = λ r no.
                ap (λ (bs : List ℕ). f (place n bs) >>= λ x. g x.0 x.1) (append_assoc one.front m.front (m.more ++ r))
                ∙ ap (λ (t : Result (X × Place) ℕ). t >>= λ x. g x.0 x.1) (one.again (m.front ++ (m.more ++ r)) (same_first b m.front m.left (m.more ++ r) some free)) ∙ m.again r no;
          }
      later n s k x q one at (inr ge) up two =
          let m = (cg x).starts q.line in
          record {
            front = one.front;
            left = q.rest;
            more = m.more;
            value = m.value;
            line = m.line;
            parts = one.parts;
            lines = omega arith;
            again = λ r no. ap (λ (t : Result (X × Place) ℕ). t >>= λ x. g x.0 x.1) (one.again (m.more ++ r) (m.opens r no)) ∙ m.again r no;
          }

  then_starts : (n : ℕ) → Starts a c (λ p. f p >>= λ x. g x.0 x.1) n
  then_starts n =
      let one = cf.starts n in
      let two = (cg one.value).starts one.line in
      record {
        more = one.more ++ two.more;
        value = two.value;
        line = two.line;
        opens = λ r no. rw (append_assoc one.more two.more r) (one.opens (two.more ++ r) (two.opens r no));
        again = λ r no.
            ap (λ (bs : List ℕ). f (place n bs) >>= λ x. g x.0 x.1) (append_assoc one.more two.more r)
            ∙ ap (λ (t : Result (X × Place) ℕ). t >>= λ x. g x.0 x.1) (one.again (two.more ++ r) (two.opens r no)) ∙ two.again r no;
      }

  -- one step after another
  pub then_completable : IsCompletable a c (λ p. f p >>= λ x. g x.0 x.1)
  then_completable = record { resumes = then_resumes; completes = then_completes; starts = then_starts }

pub same_completable : {X : Type 0} {a b : ℕ → Bool} (f g : Place → Result (X × Place) ℕ) → ((p : Place) → f p ≡ g p) → IsCompletable a b f → IsCompletable a b g
same_completable {X} {a} {b} f g same h = subst (λ (r : Place → Result (X × Place) ℕ). IsCompletable a b r) (fun_ext same) h

pub then_silent_completable : {Y : Type 0} {a b c : ℕ → Bool} (f : Place → Result Place ℕ) (g : Place → Result (Y × Place) ℕ) → IsCompletable a b (silent f) → IsCompletable b c g → IsCompletable a c (λ p. f p >>= g)
then_silent_completable f g cf cg = same_completable (λ p. silent f p >>= λ x. g x.1) (λ p. f p >>= g) (λ p. silent_bind (f p) g) (then_completable (silent f) (λ _ p. g p) cf (λ _. cg))

pub done_completable : {X : Type 0} {a : ℕ → Bool} (x : X) → IsCompletable a a (λ p. Ok (x, p))
done_completable {X} {a} x = record {
  resumes = λ n s y q free e.
      let same : ◌≡◌ {A = X × Place} (x, place n s) (y, q) = ok_is {A = X × Place} (x, place n s) (y, q) e in
      subst (λ (z : X × Place). Resumes a a (λ p. Ok (x, p)) n s z.0 z.1) same
      (record { front = []; parts = refl; line = omega arith; stops = free; opens = λ r no. no; again = λ r no. refl });
  completes = λ n s k free e. absurd cc;
  starts = λ n. record { more = []; value = x; line = n; opens = λ r no. no; again = λ r no. refl };
}

-- ---- tokens

-- a fault at the line of the place leaves nothing to show
at_once : {X : Type 0} (after : ℕ → Bool) (f : Place → Result (X × Place) ℕ) (n : ℕ) (s : List ℕ) (k : ℕ) → k ≡ n → (n ≤ k) × (n < k → Completes after f n s k)
at_once after f n s k same = (omega arith, λ lt. absurd (omega arith))

pub begins_with_none : (r : List ℕ) → begins no_byte r ≡ false
begins_with_none [] = refl
begins_with_none (b ∷ bs) = refl

quiet_read : (r : Result Place ℕ) (x : Unit {0}) (q : Place) → (r >>= quiet) ≡ Ok (x, q) → r ≡ Ok q
quiet_read (Ok p) x q e = ap (λ (y : Unit {0} × Place). Ok y.1) (ok_is {A = Unit {0} × Place} (tt, p) (x, q) e)
quiet_read (Err k) x q e = absurd cc

quiet_stops : (r : Result Place ℕ) (k : ℕ) → (r >>= quiet) ≡ Err k → r ≡ Err k
quiet_stops (Ok p) k e = absurd cc
quiet_stops (Err j) k e = cc

byte_read : (n b : ℕ) (s : List ℕ) (q : Place) → byte_from n b s ≡ Ok q → (s ≡ b ∷ q.rest) × (q.line ≡ n)
byte_read n b [] q e = absurd cc
byte_read n b (x ∷ xs) q e = chosen (eqb x b) refl e
  where
    chosen : (t : Bool) → eqb x b ≡ t → cond t (Ok (place n xs)) (Err n) ≡ Ok q → ((x ∷ xs) ≡ b ∷ q.rest) × (q.line ≡ n)
    chosen true is h =
        let at : place n xs ≡ q = ok_is (place n xs) q h in
        (ap (λ (y : ℕ). y ∷ xs) (eqb-true x b is) ∙ ap (λ (y : Place). b ∷ y.rest) at, ap (λ (y : Place). y.line) (sym at))
    chosen false is h = absurd cc

byte_stops : (n b : ℕ) (s : List ℕ) (k : ℕ) → byte_from n b s ≡ Err k → k ≡ n
byte_stops n b [] k e = cc
byte_stops n b (x ∷ xs) k e = chosen (eqb x b) e
  where
    chosen : (t : Bool) → cond t (Ok (place n xs)) (Err n) ≡ Err k → k ≡ n
    chosen true h = absurd cc
    chosen false h = cc

-- a byte that is no line feed
pub byte_completable : {a : ℕ → Bool} (b : ℕ) → a b ≡ false → eqb b 10 ≡ false → IsCompletable a no_byte (silent (read_byte b))
byte_completable {a} b opens no_end = record {
  resumes = λ n s x q free e.
      let t = byte_read n b s q (quiet_read (byte_from n b s) x q e) in
      let at : q.line ≡ n = t.1 in
      record {
        front = b ∷ [];
        parts = t.0;
        line = rw no_end (omega arith);
        stops = begins_with_none q.rest;
        opens = λ r no. opens;
        again = λ r no. ap (λ (y : Result Place ℕ). y >>= quiet) (byte_again b n r) ∙ ap (λ (m : ℕ). Ok (tt, place m r)) (sym at);
      };
  completes = λ n s k free e. at_once no_byte (silent (read_byte b)) n s k (byte_stops n b s k (quiet_stops (byte_from n b s) k e));
  starts = λ n. record { more = b ∷ []; value = tt; line = n; opens = λ r no. opens; again = λ r no. ap (λ (y : Result Place ℕ). y >>= quiet) (byte_again b n r) };
}

line_end_read : (n : ℕ) (s : List ℕ) (q : Place) → read_line_end (place n s) ≡ Ok q → (s ≡ 10 ∷ q.rest) × (q.line ≡ n + 1)
line_end_read n s q e =
    let d = bind_ok (byte_from n 10 s) (λ y. Ok (place (y.line + 1) y.rest)) q e in
    let t = byte_read n 10 s d.0 d.1 in
    let at : place (d.0.line + 1) d.0.rest ≡ q = ok_is (place (d.0.line + 1) d.0.rest) q d.2 in
    (t.0 ∙ ap (λ (y : Place). 10 ∷ y.rest) at, ap (λ (y : Place). y.line) (sym at) ∙ ap (λ (m : ℕ). m + 1) t.1)

line_end_stops : (n : ℕ) (s : List ℕ) (k : ℕ) → read_line_end (place n s) ≡ Err k → k ≡ n
line_end_stops n s k e = elim (bind_err (byte_from n 10 s) (λ y. Ok (place (y.line + 1) y.rest)) k e) [ inl here ↦ byte_stops n 10 s k here | inr there ↦ absurd (let no = there.2 in cc) ]

pub line_end_completable : {a : ℕ → Bool} → a 10 ≡ false → IsCompletable a no_byte (silent read_line_end)
line_end_completable {a} opens = record {
  resumes = λ n s x q free e.
      let t = line_end_read n s q (quiet_read (read_line_end (place n s)) x q e) in
      let at : q.line ≡ n + 1 = t.1 in
      record {
        front = 10 ∷ [];
        parts = t.0;
        line = omega arith;
        stops = begins_with_none q.rest;
        opens = λ r no. opens;
        again = λ r no. ap (λ (m : ℕ). Ok (tt, place m r)) (sym at);
      };
  completes = λ n s k free e. at_once no_byte (silent read_line_end) n s k (line_end_stops n s k (quiet_stops (read_line_end (place n s)) k e));
  starts = λ n. record { more = 10 ∷ []; value = tt; line = n + 1; opens = λ r no. opens; again = λ r no. refl };
}

digits_stops : (n d : ℕ) (xs : List ℕ) (k : ℕ) → read_digits n d xs ≡ Err k → k ≡ n
digits_stops n d [] k e = absurd cc
digits_stops n d (x ∷ xs) k e = chosen (is_ascii_digit x) (eqb d 0) (ltb (d * 10 + (x - 48)) (2 ^ 64)) (digits_stops n (d * 10 + (x - 48)) xs k) e
  where
    chosen : (t z f : Bool) → (read_digits n (d * 10 + (x - 48)) xs ≡ Err k → k ≡ n) → cond t (cond z (Err n) (cond f (read_digits n (d * 10 + (x - 48)) xs) (Err n))) (Ok (d, place n (x ∷ xs))) ≡ Err k → k ≡ n
    chosen true true f h e = cc
    chosen true false true h e = h e
    chosen true false false h e = cc
    chosen false z f h e = absurd cc

number_from_stops : (n : ℕ) (xs : List ℕ) (k : ℕ) → number_from n xs ≡ Err k → k ≡ n
number_from_stops n [] k e = cc
number_from_stops n (x ∷ xs) k e = chosen (is_ascii_digit x) e
  where
    chosen : (t : Bool) → cond t (read_digits n (x - 48) xs) (Err n) ≡ Err k → k ≡ n
    chosen true h = digits_stops n (x - 48) xs k h
    chosen false h = cc

number_stops : (n : ℕ) (s : List ℕ) (k : ℕ) → read_number (place n s) ≡ Err k → k ≡ n
unfolding read_number
number_stops n s k e = number_from_stops n s k e

-- digits and letters are on one line
pub digits_ends : (ds : List ℕ) → all_ascii_digits ds ≡ true → line_ends ds ≡ 0
digits_ends [] all = refl
digits_ends (d ∷ ds) all =
    let parts = and_parts (is_ascii_digit d) (all_ascii_digits ds) all in
    let first = parts.0 in
    let no_end : eqb d 10 ≡ false = grind (arith, nat_tests) in
    rw no_end (digits_ends ds parts.1)

letters_ends : (bs : List ℕ) → list_all is_name_byte bs ≡ true → line_ends bs ≡ 0
letters_ends [] all = refl
letters_ends (b ∷ bs) all =
    let parts = and_parts (is_name_byte b) (list_all is_name_byte bs) all in
    let first = parts.0 in
    let no_end : eqb b 10 ≡ false = grind (arith, nat_tests) in
    rw no_end (letters_ends bs parts.1)

number_resumes : (n : ℕ) (s : List ℕ) (x : ℕ) (q : Place) → read_number (place n s) ≡ Ok (x, q) → Resumes no_byte is_ascii_digit read_number n s x q
number_resumes n s x q e =
    let t = number_takes (place n s) x q e in
    let there : read_number (place n s) ≡ Ok (x, place n q.rest) = ap (λ (bs : List ℕ). read_number (place n bs)) t.parts ∙ number_again n x q.rest t.small t.stop in
    let same : ◌≡◌ {A = ℕ × Place} (x, q) (x, place n q.rest) = ok_is {A = ℕ × Place} (x, q) (x, place n q.rest) (sym e ∙ there) in
    let at : q.line ≡ n = ap (λ (y : ℕ × Place). y.1.line) same in
    let one : line_ends (decimal x) ≡ 0 = digits_ends (decimal x) (digits_decimal own x t.small) in
    record {
      front = decimal x;
      parts = t.parts;
      line = omega arith;
      stops = t.stop;
      opens = λ r no. begins_with_none (decimal x ++ r);
      again = λ r no. number_again n x r t.small no ∙ ap (λ (m : ℕ). Ok (x, place m r)) (sym at);
    }

pub number_completable : IsCompletable no_byte is_ascii_digit read_number
number_completable = record {
  resumes = λ n s x q free e. number_resumes n s x q e;
  completes = λ n s k free e. at_once is_ascii_digit read_number n s k (number_stops n s k e);
  starts = λ n. record { more = decimal 0; value = 0; line = n; opens = λ r no. begins_with_none (decimal 0 ++ r); again = λ r no. number_again n 0 r (omega arith) no };
}

count_stops : (low high n : ℕ) (s : List ℕ) (k : ℕ) → read_count low high (place n s) ≡ Err k → k ≡ n
unfolding read_count
count_stops low high n s k e =
    elim (bind_err (read_number (place n s)) (λ x. cond (nat_le low x.0 && nat_le x.0 high) (Ok x) (Err x.1.line)) k e) [
      | inl here ↦ number_stops n s k here
      | inr there ↦
          let read = number_resumes n s there.0.0 there.0.1 there.1 in
          let at : there.0.1.line ≡ n + line_ends read.front = read.line in
          let t = number_takes (place n s) there.0.0 there.0.1 there.1 in
          chosen (nat_le low there.0.0 && nat_le there.0.0 high) there.0 (same_line n s there.0.0 there.0.1 there.1) there.2
    ]
  where
    same_line : (n : ℕ) (s : List ℕ) (x : ℕ) (q : Place) → read_number (place n s) ≡ Ok (x, q) → q.line ≡ n
    same_line n s x q e =
        let t = number_takes (place n s) x q e in
        let there : read_number (place n s) ≡ Ok (x, place n q.rest) = ap (λ (bs : List ℕ). read_number (place n bs)) t.parts ∙ number_again n x q.rest t.small t.stop in
        ap (λ (y : ℕ × Place). y.1.line) (ok_is {A = ℕ × Place} (x, q) (x, place n q.rest) (sym e ∙ there))

    chosen : (t : Bool) (x : ℕ × Place) → x.1.line ≡ n → cond t (Ok x) (Err x.1.line) ≡ Err k → k ≡ n
    chosen true x at h = absurd cc
    chosen false x at h = let stop : k ≡ x.1.line = cc in stop ∙ at

count_resumes : (low high n : ℕ) (s : List ℕ) (x : ℕ) (q : Place) → read_count low high (place n s) ≡ Ok (x, q) → Resumes no_byte is_ascii_digit (read_count low high) n s x q
unfolding read_count
count_resumes low high n s x q e =
    let d = bind_ok (read_number (place n s)) (λ y. cond (nat_le low y.0 && nat_le y.0 high) (Ok y) (Err y.1.line)) (x, q) e in
    let g = where_ok (nat_le low d.0.0 && nat_le d.0.0 high) d.0.1.line d.0 (x, q) d.2 in
    let within : (nat_le low x && nat_le x high) ≡ true = subst (λ (y : ℕ × Place). (nat_le low y.0 && nat_le y.0 high) ≡ true) g.1 g.0 in
    let one = number_resumes n s x q (d.1 ∙ ap (λ (y : ℕ × Place). Ok y) g.1) in
    record {
      front = one.front;
      parts = one.parts;
      line = one.line;
      stops = one.stops;
      opens = one.opens;
      again = λ r no. ap (λ (y : Result (ℕ × Place) ℕ). y >>= λ x. cond (nat_le low x.0 && nat_le x.0 high) (Ok x) (Err x.1.line)) (one.again r no) ∙ rw within refl;
    }

pub count_completable : (low high : ℕ) → IsCount low high low → low < 2 ^ 64 → IsCompletable no_byte is_ascii_digit (read_count low high)
count_completable low high some small = record {
  resumes = λ n s x q free e. count_resumes low high n s x q e;
  completes = λ n s k free e. at_once is_ascii_digit (read_count low high) n s k (count_stops low high n s k e);
  starts = λ n. record { more = decimal low; value = low; line = n; opens = λ r no. begins_with_none (decimal low ++ r); again = λ r no. count_again low high n low r some small no };
}

name_from_stops : (n : ℕ) (front xs : List ℕ) (k : ℕ) → name_from n front xs ≡ Err k → k ≡ n
name_from_stops n front [] k e = absurd cc
name_from_stops n front (x ∷ xs) k e = chosen (is_name_byte x) (eqb (length front) 32) (name_from_stops n (front ++ x ∷ []) xs k) e
  where
    chosen : (t f : Bool) → (name_from n (front ++ x ∷ []) xs ≡ Err k → k ≡ n) → cond t (cond f (Err n) (name_from n (front ++ x ∷ []) xs)) (Ok (front, place n (x ∷ xs))) ≡ Err k → k ≡ n
    chosen true true h e = cc
    chosen true false h e = h e
    chosen false f h e = absurd cc

name_from_line : (n : ℕ) (front xs name : List ℕ) (q : Place) → name_from n front xs ≡ Ok (name, q) → q.line ≡ n
name_from_line n front [] name q e = ap (λ (y : List ℕ × Place). y.1.line) (sym (ok_is {A = List ℕ × Place} (front, place n []) (name, q) e))
name_from_line n front (x ∷ xs) name q e = chosen (is_name_byte x) (eqb (length front) 32) (name_from_line n (front ++ x ∷ []) xs name q) e
  where
    chosen : (t f : Bool) → (name_from n (front ++ x ∷ []) xs ≡ Ok (name, q) → q.line ≡ n) → cond t (cond f (Err n) (name_from n (front ++ x ∷ []) xs)) (Ok (front, place n (x ∷ xs))) ≡ Ok (name, q) → q.line ≡ n
    chosen true true h e = absurd cc
    chosen true false h e = h e
    chosen false f h e = ap (λ (y : List ℕ × Place). y.1.line) (sym (ok_is {A = List ℕ × Place} (front, place n (x ∷ xs)) (name, q) e))

name_stops : (n : ℕ) (s : List ℕ) (k : ℕ) → read_name (place n s) ≡ Err k → k ≡ n
unfolding read_name
name_stops n s k e =
    elim (bind_err (name_from n [] s) (λ x. cond (eqb (length x.0) 0) (Err x.1.line) (Ok x)) k e) [
      | inl here ↦ name_from_stops n [] s k here
      | inr there ↦ chosen (eqb (length there.0.0) 0) there.0 (name_from_line n [] s there.0.0 there.0.1 there.1) there.2
    ]
  where
    chosen : (t : Bool) (x : List ℕ × Place) → x.1.line ≡ n → cond t (Err x.1.line) (Ok x) ≡ Err k → k ≡ n
    chosen true x at h = let stop : k ≡ x.1.line = cc in stop ∙ at
    chosen false x at h = absurd cc

name_resumes : (n : ℕ) (s : List ℕ) (x : List ℕ) (q : Place) → read_name (place n s) ≡ Ok (x, q) → Resumes no_byte is_name_byte read_name n s x q
name_resumes n s x q e =
    let t = name_takes (place n s) x q e in
    let there : read_name (place n s) ≡ Ok (x, place n q.rest) = ap (λ (bs : List ℕ). read_name (place n bs)) t.parts ∙ name_again n x q.rest t.good t.stop in
    let same : ◌≡◌ {A = List ℕ × Place} (x, q) (x, place n q.rest) = ok_is {A = List ℕ × Place} (x, q) (x, place n q.rest) (sym e ∙ there) in
    let at : q.line ≡ n = ap (λ (y : List ℕ × Place). y.1.line) same in
    let letters = and_parts (nat_le 1 (length x) && nat_le (length x) 32) (list_all is_name_byte x) t.good in
    let one : line_ends x ≡ 0 = letters_ends x letters.1 in
    record {
      front = x;
      parts = t.parts;
      line = omega arith;
      stops = t.stop;
      opens = λ r no. begins_with_none (x ++ r);
      again = λ r no. name_again n x r t.good no ∙ ap (λ (m : ℕ). Ok (x, place m r)) (sym at);
    }

pub name_completable : IsCompletable no_byte is_name_byte read_name
name_completable = record {
  resumes = λ n s x q free e. name_resumes n s x q e;
  completes = λ n s k free e. at_once is_name_byte read_name n s k (name_stops n s k e);
  starts = λ n. record { more = 97 ∷ []; value = 97 ∷ []; line = n; opens = λ r no. refl; again = λ r no. name_again n (97 ∷ []) r refl no };
}

-- nothing stands after the end
pub end_completable : {a : ℕ → Bool} → IsCompletable a each_byte (silent (λ e. cond (eqb (length e.rest) 0) (Ok e) (Err e.line)))
end_completable {a} = record {
  resumes = λ n s x q free e. nothing n s x q (quiet_read (cond (eqb (length s) 0) (Ok (place n s)) (Err n)) x q e);
  completes = λ n s k free e. at_once each_byte (silent (λ e. cond (eqb (length e.rest) 0) (Ok e) (Err e.line))) n s k (stops n s k (quiet_stops (cond (eqb (length s) 0) (Ok (place n s)) (Err n)) k e));
  starts = λ n. record { more = []; value = tt; line = n; opens = λ r no. empty_opens r no; again = λ r no. empty_again n r no };
}
  where
    empty_opens : (r : List ℕ) → begins each_byte r ≡ false → begins a r ≡ false
    empty_opens [] none = refl
    empty_opens (b ∷ bs) none = absurd cc

    empty_again : (n : ℕ) (r : List ℕ) → begins each_byte r ≡ false → silent (λ e. cond (eqb (length e.rest) 0) (Ok e) (Err e.line)) (place n r) ≡ Ok (tt, place n r)
    empty_again n [] none = refl
    empty_again n (b ∷ bs) none = absurd cc

    stops : (n : ℕ) (s : List ℕ) (k : ℕ) → cond (eqb (length s) 0) (Ok (place n s)) (Err n) ≡ Err k → k ≡ n
    stops n s k e = chosen (eqb (length s) 0) e
      where
        chosen : (t : Bool) → cond t (Ok (place n s)) (Err n) ≡ Err k → k ≡ n
        chosen true h = absurd cc
        chosen false h = cc

    nothing : (n : ℕ) (s : List ℕ) (x : Unit {0}) (q : Place) → cond (eqb (length s) 0) (Ok (place n s)) (Err n) ≡ Ok q
        → Resumes a each_byte (silent (λ e. cond (eqb (length e.rest) 0) (Ok e) (Err e.line))) n s x q
    nothing n [] x q e =
        subst (λ (z : Place). Resumes a each_byte (silent (λ e. cond (eqb (length e.rest) 0) (Ok e) (Err e.line))) n [] x z) (ok_is (place n []) q e)
        (record { front = []; parts = refl; line = omega arith; stops = refl; opens = empty_opens; again = λ r no. empty_again n r no })
    nothing n (b ∷ bs) x q e = absurd (let some : eqb (length (b ∷ bs)) 0 ≡ false = grind (arith, nat_tests) in let no : Err n ≡ Ok q = rw some at e in cc)

-- two ways to read, of which the first is taken where this byte stands next
module _ {X : Type 0} (byte : ℕ) (some : eqb 0 byte ≡ false) (f g : Place → Result (X × Place) ℕ) (cf : IsCompletable no_byte no_byte f) (cg : IsCompletable no_byte no_byte g)
    (nf : (n : ℕ) (x : X) (q : Place) → f (place n []) ≡ Ok (x, q) → ⊥) (ng : (n : ℕ) (x : X) (q : Place) → g (place n []) ≡ Ok (x, q) → ⊥) where
  fork_resumes : (n b : ℕ) (bs : List ℕ) (x : X) (q : Place) (t : Bool) → eqb b byte ≡ t → cond t (f (place n (b ∷ bs))) (g (place n (b ∷ bs))) ≡ Ok (x, q)
      → Resumes no_byte no_byte (λ a. cond (eqb (get_or a.rest 0 0) byte) (f a) (g a)) n (b ∷ bs) x q
  fork_resumes n b bs x q true is e =
      let one = cf.resumes n (b ∷ bs) x q refl e in
      begun one.front one.parts one.line one.again
    where
      begun : (front : List ℕ) → (b ∷ bs) ≡ front ++ q.rest → q.line ≡ n + line_ends front → ((r : List ℕ) → begins no_byte r ≡ false → f (place n (front ++ r)) ≡ Ok (x, place q.line r))
          → Resumes no_byte no_byte (λ a. cond (eqb (get_or a.rest 0 0) byte) (f a) (g a)) n (b ∷ bs) x q
      begun [] parts line again = absurd (nf n x (place q.line []) (again [] refl))
      begun (c ∷ cs) parts line again =
          let same : b ≡ c = cc in
          let first : eqb c byte ≡ true = subst (λ (y : ℕ). eqb y byte ≡ true) same is in
          record { front = c ∷ cs; parts = parts; line = line; stops = begins_with_none q.rest; opens = λ r no. refl; again = λ r no. rw first (again r no) }
  fork_resumes n b bs x q false is e =
      let one = cg.resumes n (b ∷ bs) x q refl e in
      begun one.front one.parts one.line one.again
    where
      begun : (front : List ℕ) → (b ∷ bs) ≡ front ++ q.rest → q.line ≡ n + line_ends front → ((r : List ℕ) → begins no_byte r ≡ false → g (place n (front ++ r)) ≡ Ok (x, place q.line r))
          → Resumes no_byte no_byte (λ a. cond (eqb (get_or a.rest 0 0) byte) (f a) (g a)) n (b ∷ bs) x q
      begun [] parts line again = absurd (ng n x (place q.line []) (again [] refl))
      begun (c ∷ cs) parts line again =
          let same : b ≡ c = cc in
          let first : eqb c byte ≡ false = subst (λ (y : ℕ). eqb y byte ≡ false) same is in
          record { front = c ∷ cs; parts = parts; line = line; stops = begins_with_none q.rest; opens = λ r no. refl; again = λ r no. rw first (again r no) }

  fork_completes : (n b : ℕ) (bs : List ℕ) (k : ℕ) (t : Bool) → eqb b byte ≡ t → cond t (f (place n (b ∷ bs))) (g (place n (b ∷ bs))) ≡ Err k
      → (n ≤ k) × (n < k → Completes no_byte (λ a. cond (eqb (get_or a.rest 0 0) byte) (f a) (g a)) n (b ∷ bs) k)
  fork_completes n b bs k true is e = let one = cf.completes n (b ∷ bs) k refl e in (one.0, λ lt. let m = one.1 lt in begun lt m m.front m.parts m.lines m.again)
    where
      begun : n < k → (m : Completes no_byte f n (b ∷ bs) k) (front : List ℕ) → (b ∷ bs) ≡ front ++ m.left → n + line_ends front ≡ k
          → ((r : List ℕ) → begins no_byte r ≡ false → f (place n (front ++ (m.more ++ r))) ≡ Ok (m.value, place m.line r))
          → Completes no_byte (λ a. cond (eqb (get_or a.rest 0 0) byte) (f a) (g a)) n (b ∷ bs) k
      begun lt m [] parts lines again = absurd (omega arith)
      begun lt m (c ∷ cs) parts lines again =
          let same : b ≡ c = cc in
          let first : eqb c byte ≡ true = subst (λ (y : ℕ). eqb y byte ≡ true) same is in
          record { front = c ∷ cs; left = m.left; more = m.more; value = m.value; line = m.line; parts = parts; lines = lines; again = λ r no. rw first (again r no) }
  fork_completes n b bs k false is e = let one = cg.completes n (b ∷ bs) k refl e in (one.0, λ lt. let m = one.1 lt in begun lt m m.front m.parts m.lines m.again)
    where
      begun : n < k → (m : Completes no_byte g n (b ∷ bs) k) (front : List ℕ) → (b ∷ bs) ≡ front ++ m.left → n + line_ends front ≡ k
          → ((r : List ℕ) → begins no_byte r ≡ false → g (place n (front ++ (m.more ++ r))) ≡ Ok (m.value, place m.line r))
          → Completes no_byte (λ a. cond (eqb (get_or a.rest 0 0) byte) (f a) (g a)) n (b ∷ bs) k
      begun lt m [] parts lines again = absurd (omega arith)
      begun lt m (c ∷ cs) parts lines again =
          let same : b ≡ c = cc in
          let first : eqb c byte ≡ false = subst (λ (y : ℕ). eqb y byte ≡ false) same is in
          record { front = c ∷ cs; left = m.left; more = m.more; value = m.value; line = m.line; parts = parts; lines = lines; again = λ r no. rw first (again r no) }

  fork_of_none : (n k : ℕ) → g (place n []) ≡ Err k → (n ≤ k) × (n < k → Completes no_byte (λ a. cond (eqb (get_or a.rest 0 0) byte) (f a) (g a)) n [] k)
  fork_of_none n k e = let one = cg.completes n [] k refl e in (one.0, λ lt. let m = one.1 lt in begun lt m m.front m.parts m.lines)
    where
      begun : n < k → (m : Completes no_byte g n [] k) (front : List ℕ) → [] ≡ front ++ m.left → n + line_ends front ≡ k → Completes no_byte (λ a. cond (eqb (get_or a.rest 0 0) byte) (f a) (g a)) n [] k
      begun lt m [] parts lines = absurd (omega arith)
      begun lt m (c ∷ cs) parts lines = absurd cc

  pub fork_completable : (bs : List ℕ) (x : X) (lines : ℕ) → ((n : ℕ) (r : List ℕ) → f (place n (byte ∷ (bs ++ r))) ≡ Ok (x, place (n + lines) r))
      → IsCompletable no_byte no_byte (λ a. cond (eqb (get_or a.rest 0 0) byte) (f a) (g a))
  fork_completable bs x lines starts = record { resumes = resumed; completes = completed; starts = λ n. record { more = byte ∷ bs; value = x; line = n + lines; opens = λ r no. refl; again = λ r no. rw (eq-eqb byte byte refl) (starts n r) } }
    where
      resumed : (n : ℕ) (s : List ℕ) (y : X) (q : Place) → begins no_byte s ≡ false → cond (eqb (get_or s 0 0) byte) (f (place n s)) (g (place n s)) ≡ Ok (y, q)
          → Resumes no_byte no_byte (λ a. cond (eqb (get_or a.rest 0 0) byte) (f a) (g a)) n s y q
      resumed n [] y q free e = absurd (ng n y q (subst (λ (t : Bool). cond t (f (place n [])) (g (place n [])) ≡ Ok (y, q)) some e))
      resumed n (b ∷ s) y q free e = fork_resumes n b s y q (eqb b byte) refl e

      completed : (n : ℕ) (s : List ℕ) (k : ℕ) → begins no_byte s ≡ false → cond (eqb (get_or s 0 0) byte) (f (place n s)) (g (place n s)) ≡ Err k
          → (n ≤ k) × (n < k → Completes no_byte (λ a. cond (eqb (get_or a.rest 0 0) byte) (f a) (g a)) n s k)
      completed n [] k free e = fork_of_none n k (subst (λ (t : Bool). cond t (f (place n [])) (g (place n [])) ≡ Err k) some e)
      completed n (b ∷ s) k free e = fork_completes n b s k (eqb b byte) refl e
