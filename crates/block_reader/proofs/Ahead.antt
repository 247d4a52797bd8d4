-- How far reading looks: what stands behind so many bytes changes nothing.
use Rattle.std.proofs.Common.{◌≡◌, ◌∙◌, ℕ, zero, suc, ◌+◌, ◌-◌, ◌*◌, ◌^◌, ◌<◌, ◌≤◌, Bool, true, false, ◌&&◌, not, cond, List, [], ◌∷◌, ◌++◌, length, Result, Ok, Err, refl, sym, ap, subst, arith, eqb, ltb, get_or, append-nil, length-append}
use Rattle.std.specs.Prelude.{nat_le}
use Rattle.std.proofs.Math.Nat.{pow-succ', mul_assoc, mul-le-mul_right}
use Rattle.std.specs.Char.{is_ascii_digit}
use Rattle.std.proofs.lemmas.Bool.Decides.{nat_tests}
use Rattle.te_model.specs.Network.{is_name_byte}
use Rattle.cert_text.specs.Place.{Place, place, ◌>>=◌}
use Rattle.cert_text.specs.Reading.{read_byte, read_word, read_line_end, read_digits, number_from, read_number, read_count, read_narrow, read_next_number, read_next_narrow, read_next_count, read_many, name_from, read_name}
use Rattle.cert_text.proofs.Tokens.{IsCount, next_count_takes}
use Rattle.cert_text.proofs.Local.{silent, quiet, silent_bind, regroup_silent}
use Rattle.block_reader.specs.Ahead.{longer, TakesAtMost, IsAhead}

-- what is read has this property
abbrev pub Gives : {X : Type 0} → (X → Type 0) → (Place → Result (X × Place) ℕ) → Type 0
Gives {X} P f = (p : Place) (x : X) (q : Place) → f p ≡ Ok (x, q) → P x

then_takes : {X Y : Type 0} (n m : ℕ) (s : List ℕ) (r : Result (X × Place) ℕ) (g : X → Place → Result (Y × Place) ℕ) → TakesAtMost n s r →
    ((x : X) (q : Place) → r ≡ Ok (x, q) → TakesAtMost m q.rest (g x q)) → TakesAtMost (n + m) s (r >>= λ x. g x.0 x.1)
then_takes n m s (Err k) g first next = tt
then_takes {X} {Y} n m s (Ok x) g first next = go (g x.0 x.1) (next x.0 x.1 refl)
  where
    go : (t : Result (Y × Place) ℕ) → TakesAtMost m x.1.rest t → TakesAtMost (n + m) s t
    go (Ok y) h = omega (arith, first, h)
    go (Err k) h = tt

then_same : {X Y : Type 0} (n m : ℕ) (s more : List ℕ) (r t : Result (X × Place) ℕ) (g : X → Place → Result (Y × Place) ℕ) → n + m ≤ length s →
    TakesAtMost n s r → t ≡ longer more r → ((x : X) (q : Place) → r ≡ Ok (x, q) → m ≤ length q.rest → g x (place q.line (q.rest ++ more)) ≡ longer more (g x q)) →
    (t >>= λ x. g x.0 x.1) ≡ longer more (r >>= λ x. g x.0 x.1)
then_same n m s more (Err k) t g room takes same next = ap (λ u. u >>= λ x. g x.0 x.1) same
then_same n m s more (Ok x) t g room takes same next =
    ap (λ u. u >>= λ y. g y.0 y.1) same ∙ next x.0 x.1 refl (omega (arith, room, takes))

-- one step after another
pub then_ahead : {X Y : Type 0} (n m : ℕ) (P : X → Type 0) (f : Place → Result (X × Place) ℕ) (g : X → Place → Result (Y × Place) ℕ) →
    IsAhead n f → Gives P f → ((x : X) → P x → IsAhead m (g x)) → IsAhead (n + m) (λ p. f p >>= λ x. g x.0 x.1)
then_ahead n m P f g af gives ag = record {
  takes = λ k s. then_takes n m s (f (place k s)) g (af.takes k s) (λ x q is. (ag x (gives (place k s) x q is)).takes q.line q.rest);
  same = λ k s more room. then_same n m s more (f (place k s)) (f (place k (s ++ more))) g room (af.takes k s) (af.same k s more (omega (arith, room)))
      (λ x q is left. (ag x (gives (place k s) x q is)).same q.line q.rest more left);
}

anything : {X : Type 0} (f : Place → Result (X × Place) ℕ) → Gives (λ x. Unit {0}) f
anything f p x q is = tt

pub then_any : {X Y : Type 0} (n m : ℕ) (f : Place → Result (X × Place) ℕ) (g : X → Place → Result (Y × Place) ℕ) →
    IsAhead n f → ((x : X) → IsAhead m (g x)) → IsAhead (n + m) (λ p. f p >>= λ x. g x.0 x.1)
then_any n m f g af ag = then_ahead n m (λ x. Unit {0}) f g af (anything f) (λ x h. ag x)

pub done_ahead : {X : Type 0} (x : X) → IsAhead 0 (λ p. Ok (x, p))
done_ahead x = record { takes = λ k s. omega arith; same = λ k s more room. refl }

pub ahead_same : {X : Type 0} (n : ℕ) (f g : Place → Result (X × Place) ℕ) → ((p : Place) → f p ≡ g p) → IsAhead n f → IsAhead n g
ahead_same n f g same af = record {
  takes = λ k s. subst (λ r. TakesAtMost n s r) (same (place k s)) (af.takes k s);
  same = λ k s more room. sym (same (place k (s ++ more))) ∙ af.same k s more room ∙ ap (longer more) (same (place k s));
}

pub then_quiet : {Y : Type 0} (n m : ℕ) (f : Place → Result Place ℕ) (g : Place → Result (Y × Place) ℕ) → IsAhead n (silent f) → IsAhead m g → IsAhead (n + m) (λ p. f p >>= g)
then_quiet n m f g af ag =
    ahead_same (n + m) (λ p. silent f p >>= λ x. g x.1) (λ p. f p >>= g) (λ p. silent_bind (f p) g) (then_any n m (silent f) (λ _ p. g p) af (λ _. ag))

more_takes : {X : Type 0} (n m : ℕ) (s : List ℕ) (r : Result (X × Place) ℕ) → n ≤ m → TakesAtMost n s r → TakesAtMost m s r
more_takes n m s (Ok x) le h = omega (arith, le, h)
more_takes n m s (Err k) le h = tt

pub ahead_more : {X : Type 0} (n m : ℕ) (f : Place → Result (X × Place) ℕ) → n ≤ m → IsAhead n f → IsAhead m f
ahead_more n m f le af = record {
  takes = λ k s. more_takes n m s (f (place k s)) le (af.takes k s);
  same = λ k s more room. af.same k s more (omega (arith, le, room));
}

pub byte_ahead : (b : ℕ) → IsAhead 1 (silent (read_byte b))
byte_ahead b = record { takes = takes; same = same }
  where
    taken : (k : ℕ) (xs : List ℕ) (t : Bool) → TakesAtMost 1 (b ∷ xs) (cond t (Ok (place k xs)) (Err k) >>= quiet)
    taken k xs true = omega arith
    taken k xs false = tt

    takes : (k : ℕ) (s : List ℕ) → TakesAtMost 1 s (silent (read_byte b) (place k s))
    takes k [] = tt
    takes k (x ∷ xs) = taken k xs (eqb x b)

    chosen : (k : ℕ) (xs more : List ℕ) (t : Bool) → (cond t (Ok (place k (xs ++ more))) (Err k) >>= quiet) ≡ longer more (cond t (Ok (place k xs)) (Err k) >>= quiet)
    chosen k xs more true = refl
    chosen k xs more false = refl

    same : (k : ℕ) (s more : List ℕ) → 1 ≤ length s → silent (read_byte b) (place k (s ++ more)) ≡ longer more (silent (read_byte b) (place k s))
    same k [] more room = absurd (omega (arith, room))
    same k (x ∷ xs) more room = chosen k xs more (eqb x b)

-- a number that would leave 64 bits with r digits more ends before
chosen_digits : (k v x r : ℕ) (xs more : List ℕ) (t z f : Bool) → (f ≡ true → TakesAtMost r xs (read_digits k (v * 10 + (x - 48)) xs)) →
    TakesAtMost (suc r) (x ∷ xs) (cond t (cond z (Err k) (cond f (read_digits k (v * 10 + (x - 48)) xs) (Err k))) (Ok (v, place k (x ∷ xs))))
chosen_digits k v x r xs more false z f next = omega arith
chosen_digits k v x r xs more true true f next = tt
chosen_digits k v x r xs more true false false next = tt
chosen_digits k v x r xs more true false true next = go (read_digits k (v * 10 + (x - 48)) xs) (next refl)
  where
    go : (t : Result (ℕ × Place) ℕ) → TakesAtMost r xs t → TakesAtMost (suc r) (x ∷ xs) t
    go (Ok y) h = omega (arith, h)
    go (Err k) h = tt

longer_digits : (k v x : ℕ) (xs more : List ℕ) (t z f : Bool) → (f ≡ true → read_digits k (v * 10 + (x - 48)) (xs ++ more) ≡ longer more (read_digits k (v * 10 + (x - 48)) xs)) →
    cond t (cond z (Err k) (cond f (read_digits k (v * 10 + (x - 48)) (xs ++ more)) (Err k))) (Ok (v, place k (x ∷ (xs ++ more))))
    ≡ longer more (cond t (cond z (Err k) (cond f (read_digits k (v * 10 + (x - 48)) xs) (Err k))) (Ok (v, place k (x ∷ xs))))
longer_digits k v x xs more false z f next = refl
longer_digits k v x xs more true true f next = refl
longer_digits k v x xs more true false false next = refl
longer_digits k v x xs more true false true next = next refl

small_enough : (v x : ℕ) → ltb (v * 10 + (x - 48)) (2 ^ 64) ≡ true → v < 2 ^ 64
small_enough v x e = grind (arith, nat_tests)

tenfold : (v x r : ℕ) → 2 ^ 64 ≤ v * 10 ^ suc r → 2 ^ 64 ≤ (v * 10 + (x - 48)) * 10 ^ r
tenfold v x r past =
    let one : v * 10 ^ suc r ≡ v * 10 * 10 ^ r = ap (λ n. v * n) (pow-succ' 10 r) ∙ sym (mul_assoc v 10 (10 ^ r)) in
    let more : v * 10 * 10 ^ r ≤ (v * 10 + (x - 48)) * 10 ^ r = mul-le-mul_right (10 ^ r) (omega arith) in
    omega (arith, past, one, more)

digits_take : (r k v : ℕ) (s : List ℕ) → 2 ^ 64 ≤ v * 10 ^ r → TakesAtMost r s (read_digits k v s)
digits_take r k v [] past = omega arith
digits_take zero k v (x ∷ xs) past = none (is_ascii_digit x) (eqb v 0) (ltb (v * 10 + (x - 48)) (2 ^ 64)) refl
  where
    none : (t z f : Bool) → ltb (v * 10 + (x - 48)) (2 ^ 64) ≡ f → TakesAtMost 0 (x ∷ xs) (cond t (cond z (Err k) (cond f (read_digits k (v * 10 + (x - 48)) xs) (Err k))) (Ok (v, place k (x ∷ xs))))
    none false z f e = omega arith
    none true true f e = tt
    none true false false e = tt
    none true false true e = absurd (omega (arith, past, small_enough v x e))
digits_take (suc r) k v (x ∷ xs) past = chosen_digits k v x r xs [] (is_ascii_digit x) (eqb v 0) (ltb (v * 10 + (x - 48)) (2 ^ 64))
    (λ e. digits_take r k (v * 10 + (x - 48)) xs (tenfold v x r past))

digits_same : (r k v : ℕ) (s more : List ℕ) → 2 ^ 64 ≤ v * 10 ^ r → suc r ≤ length s → read_digits k v (s ++ more) ≡ longer more (read_digits k v s)
digits_same r k v [] more past room = absurd (omega (arith, room))
digits_same zero k v (x ∷ xs) more past room = longer_digits k v x xs more (is_ascii_digit x) (eqb v 0) (ltb (v * 10 + (x - 48)) (2 ^ 64))
    (λ e. absurd (omega (arith, past, small_enough v x e)))
digits_same (suc r) k v (x ∷ xs) more past room = longer_digits k v x xs more (is_ascii_digit x) (eqb v 0) (ltb (v * 10 + (x - 48)) (2 ^ 64))
    (λ e. digits_same r k (v * 10 + (x - 48)) xs more (tenfold v x r past) (omega (arith, room)))

pub many_ahead : {X : Type 0} (b : ℕ) (item : Place → Result (X × Place) ℕ) → IsAhead b item → (n : ℕ) → IsAhead (n * b) (read_many n item)
unfolding read_many
many_ahead b item a zero = ahead_more 0 (0 * b) (λ p. Ok ([], p)) (omega arith) (done_ahead [])
many_ahead {X} b item a (suc n) =
    ahead_more (b + (n * b + 0)) (suc n * b) (read_many (suc n) item) (omega arith)
    (then_any b (n * b + 0) item (λ x p. read_many n item p >>= λ others. Ok (x ∷ others.0, others.1)) a
    (λ x. then_any (n * b) 0 (read_many n item) (λ xs p. Ok (x ∷ xs, p)) (many_ahead b item a n) (λ xs. done_ahead (x ∷ xs))))

-- the first digit, and what follows it
pub number_ahead : IsAhead 22 read_number
unfolding read_number
number_ahead = record { takes = takes; same = same }
  where
    ten_to_twenty : (d : ℕ) → 1 ≤ d → 2 ^ 64 ≤ d * 10 ^ 20
    ten_to_twenty d some = omega (arith, some)

    first : (k d x : ℕ) (xs : List ℕ) → TakesAtMost 20 xs (read_digits k d xs) → TakesAtMost 22 (x ∷ xs) (read_digits k d xs)
    first k d x xs h = go (read_digits k d xs) h
      where
        go : (t : Result (ℕ × Place) ℕ) → TakesAtMost 20 xs t → TakesAtMost 22 (x ∷ xs) t
        go (Ok y) h = omega (arith, h)
        go (Err e) h = tt

    -- after a zero no digit may follow
    zero_takes : (k : ℕ) (xs : List ℕ) → TakesAtMost 20 xs (read_digits k 0 xs)
    zero_takes k [] = omega arith
    zero_takes k (x ∷ xs) = go (is_ascii_digit x)
      where
        go : (t : Bool) → TakesAtMost {X = ℕ} 20 (x ∷ xs) (cond t (Err k) (Ok (0, place k (x ∷ xs))))
        go true = tt
        go false = omega arith

    zero_same : (k : ℕ) (xs more : List ℕ) → 1 ≤ length xs → read_digits k 0 (xs ++ more) ≡ longer more (read_digits k 0 xs)
    zero_same k [] more room = absurd (omega (arith, room))
    zero_same k (x ∷ xs) more room = go (is_ascii_digit x)
      where
        go : (t : Bool) → cond {A = Result (ℕ × Place) ℕ} t (Err k) (Ok (0, place k (x ∷ (xs ++ more)))) ≡ longer {X = ℕ} more (cond t (Err k) (Ok (0, place k (x ∷ xs))))
        go true = refl
        go false = refl

    any_takes : (k d : ℕ) (xs : List ℕ) → TakesAtMost 20 xs (read_digits k d xs)
    any_takes k zero xs = zero_takes k xs
    any_takes k (suc d) xs = digits_take 20 k (suc d) xs (ten_to_twenty (suc d) (omega arith))

    any_same : (k d : ℕ) (xs more : List ℕ) → 21 ≤ length xs → read_digits k d (xs ++ more) ≡ longer more (read_digits k d xs)
    any_same k zero xs more room = zero_same k xs more (omega (arith, room))
    any_same k (suc d) xs more room = digits_same 20 k (suc d) xs more (ten_to_twenty (suc d) (omega arith)) (omega (arith, room))

    takes : (k : ℕ) (s : List ℕ) → TakesAtMost 22 s (number_from k s)
    takes k [] = tt
    takes k (x ∷ xs) = go (is_ascii_digit x)
      where
        go : (t : Bool) → TakesAtMost 22 (x ∷ xs) (cond t (read_digits k (x - 48) xs) (Err k))
        go true = first k (x - 48) x xs (any_takes k (x - 48) xs)
        go false = tt

    same : (k : ℕ) (s more : List ℕ) → 22 ≤ length s → number_from k (s ++ more) ≡ longer more (number_from k s)
    same k [] more room = absurd (omega (arith, room))
    same k (x ∷ xs) more room = go (is_ascii_digit x)
      where
        go : (t : Bool) → cond t (read_digits k (x - 48) (xs ++ more)) (Err k) ≡ longer more (cond t (read_digits k (x - 48) xs) (Err k))
        go true = any_same k (x - 48) xs more (omega (arith, room))
        go false = refl

pub next_number_ahead : IsAhead 23 read_next_number
unfolding read_next_number
next_number_ahead = then_quiet 1 22 (read_byte 32) read_number (byte_ahead 32) number_ahead

-- a value that was read, or none, nothing being looked at
guard_ahead : {X : Type 0} (x : X) (t : Bool) → IsAhead 0 (λ p. cond t (Ok (x, p)) (Err p.line))
guard_ahead x true = record { takes = λ k s. omega arith; same = λ k s more room. refl }
guard_ahead x false = record { takes = λ k s. tt; same = λ k s more room. refl }

unless_ahead : {X : Type 0} (x : X) (t : Bool) → IsAhead 0 (λ p. cond t (Err p.line) (Ok (x, p)))
unless_ahead x false = record { takes = λ k s. omega arith; same = λ k s more room. refl }
unless_ahead x true = record { takes = λ k s. tt; same = λ k s more room. refl }

pub count_ahead : (low high : ℕ) → IsAhead 22 (read_count low high)
unfolding read_count
count_ahead low high =
    then_any 22 0 read_number (λ x p. cond (nat_le low x && nat_le x high) (Ok (x, p)) (Err p.line)) number_ahead (λ x. guard_ahead x (nat_le low x && nat_le x high))

pub narrow_ahead : (keep : ℕ → ℕ) → IsAhead 22 (read_narrow keep)
unfolding read_narrow
narrow_ahead keep = then_any 22 0 read_number (λ x p. Ok (keep x, p)) number_ahead (λ x. done_ahead (keep x))

pub next_narrow_ahead : (keep : ℕ → ℕ) → IsAhead 23 (read_next_narrow keep)
unfolding read_next_narrow
next_narrow_ahead keep = then_quiet 1 22 (read_byte 32) (read_narrow keep) (byte_ahead 32) (narrow_ahead keep)

pub next_count_ahead : (low high : ℕ) → IsAhead 23 (read_next_count low high)
unfolding read_next_count
next_count_ahead low high = then_quiet 1 22 (read_byte 32) (read_count low high) (byte_ahead 32) (count_ahead low high)

pub count_within : (low high n : ℕ) → IsCount low high n → n ≤ high
count_within low high n within = grind (arith, nat_tests)

pub next_count_gives : (low high : ℕ) → Gives (λ n. n ≤ high) (read_next_count low high)
next_count_gives low high p n q is = count_within low high n ((next_count_takes low high p n q is).good)

-- at most so many items
pub some_ahead : {X : Type 0} (b high : ℕ) (item : Place → Result (X × Place) ℕ) → IsAhead b item → (n : ℕ) → n ≤ high → IsAhead (high * b) (read_many n item)
some_ahead b high item a n few = ahead_more (n * b) (high * b) (read_many n item) (mul-le-mul_right b few) (many_ahead b item a n)

pub line_end_ahead : IsAhead 1 (silent read_line_end)
line_end_ahead = record { takes = takes; same = same }
  where
    taken : (k : ℕ) (x : ℕ) (xs : List ℕ) (t : Bool) → TakesAtMost 1 (x ∷ xs) ((cond t (Ok (place k xs)) (Err k) >>= λ q. Ok (place (q.line + 1) q.rest)) >>= quiet)
    taken k x xs true = omega arith
    taken k x xs false = tt

    takes : (k : ℕ) (s : List ℕ) → TakesAtMost 1 s (silent read_line_end (place k s))
    takes k [] = tt
    takes k (x ∷ xs) = taken k x xs (eqb x 10)

    chosen : (k : ℕ) (xs more : List ℕ) (t : Bool) → ((cond t (Ok (place k (xs ++ more))) (Err k) >>= λ q. Ok (place (q.line + 1) q.rest)) >>= quiet)
        ≡ longer more ((cond t (Ok (place k xs)) (Err k) >>= λ q. Ok (place (q.line + 1) q.rest)) >>= quiet)
    chosen k xs more true = refl
    chosen k xs more false = refl

    same : (k : ℕ) (s more : List ℕ) → 1 ≤ length s → silent read_line_end (place k (s ++ more)) ≡ longer more (silent read_line_end (place k s))
    same k [] more room = absurd (omega (arith, room))
    same k (x ∷ xs) more room = chosen k xs more (eqb x 10)

pub word_ahead : (w : List ℕ) → IsAhead (length w) (silent (read_word w))
word_ahead [] = done_ahead tt
word_ahead (b ∷ bs) =
    ahead_more (1 + length bs) (length (b ∷ bs)) (silent (read_word (b ∷ bs))) (omega arith)
    (ahead_same (1 + length bs) (λ p. read_byte b p >>= silent (read_word bs)) (silent (read_word (b ∷ bs))) (λ p. regroup_silent (read_byte b p) (read_word bs))
    (then_quiet 1 (length bs) (read_byte b) (silent (read_word bs)) (byte_ahead b) (word_ahead bs)))

-- a name has at most 32 bytes, and reading one looks at the byte behind them
full : (n : ℕ) → n ≡ 32 → eqb n 32 ≡ false → ⊥
full n is not = grind (arith, nat_tests)

letters_take : (r k : ℕ) (front s : List ℕ) → length front + r ≡ 32 → TakesAtMost r s (name_from k front s)
letters_take r k front [] all = omega arith
letters_take zero k front (x ∷ xs) all = none (is_name_byte x) (eqb (length front) 32) refl
  where
    none : (t f : Bool) → eqb (length front) 32 ≡ f → TakesAtMost 0 (x ∷ xs) (cond t (cond f (Err k) (name_from k (front ++ x ∷ []) xs)) (Ok (front, place k (x ∷ xs))))
    none false f e = omega arith
    none true true e = tt
    none true false e = absurd (full (length front) (omega (arith, all)) e)
letters_take (suc r) k front (x ∷ xs) all =
    chosen (is_name_byte x) (eqb (length front) 32) (letters_take r k (front ++ x ∷ []) xs (omega (arith, all, length-append front (x ∷ []))))
  where
    chosen : (t f : Bool) → TakesAtMost r xs (name_from k (front ++ x ∷ []) xs) → TakesAtMost (suc r) (x ∷ xs) (cond t (cond f (Err k) (name_from k (front ++ x ∷ []) xs)) (Ok (front, place k (x ∷ xs))))
    chosen false f h = omega arith
    chosen true true h = tt
    chosen true false h = go (name_from k (front ++ x ∷ []) xs) h
      where
        go : (t : Result (List ℕ × Place) ℕ) → TakesAtMost r xs t → TakesAtMost (suc r) (x ∷ xs) t
        go (Ok y) h = omega (arith, h)
        go (Err k) h = tt

longer_letters : (k x : ℕ) (front xs more : List ℕ) (t f : Bool) →
    (f ≡ false → name_from k (front ++ x ∷ []) (xs ++ more) ≡ longer more (name_from k (front ++ x ∷ []) xs)) →
    cond t (cond f (Err k) (name_from k (front ++ x ∷ []) (xs ++ more))) (Ok (front, place k (x ∷ (xs ++ more))))
    ≡ longer more (cond t (cond f (Err k) (name_from k (front ++ x ∷ []) xs)) (Ok (front, place k (x ∷ xs))))
longer_letters k x front xs more false f next = refl
longer_letters k x front xs more true true next = refl
longer_letters k x front xs more true false next = next refl

letters_same : (r k : ℕ) (front s more : List ℕ) → length front + r ≡ 32 → suc r ≤ length s →
    name_from k front (s ++ more) ≡ longer more (name_from k front s)
letters_same r k front [] more all room = absurd (omega (arith, room))
letters_same zero k front (x ∷ xs) more all room =
    longer_letters k x front xs more (is_name_byte x) (eqb (length front) 32) (λ e. absurd (full (length front) (omega (arith, all)) e))
letters_same (suc r) k front (x ∷ xs) more all room = longer_letters k x front xs more (is_name_byte x) (eqb (length front) 32)
    (λ e. letters_same r k (front ++ x ∷ []) xs more (omega (arith, all, length-append front (x ∷ []))) (omega (arith, room)))

letters_ahead : IsAhead 33 (λ p. name_from p.line [] p.rest)
letters_ahead = record {
  takes = λ k s. more_takes 32 33 s (name_from k [] s) (omega arith) (letters_take 32 k [] s refl);
  same = λ k s more room. letters_same 32 k [] s more refl room;
}

pub name_ahead : IsAhead 33 read_name
unfolding read_name
name_ahead = then_any 33 0 (λ p. name_from p.line [] p.rest) (λ x p. cond (eqb (length x) 0) (Err p.line) (Ok (x, p))) letters_ahead (λ x. unless_ahead x (eqb (length x) 0))

-- two ways to read, of which the first is taken where this byte stands next
pub fork_ahead : {X : Type 0} (byte n : ℕ) (f g : Place → Result (X × Place) ℕ) → 1 ≤ n → IsAhead n f → IsAhead n g →
    IsAhead n (λ a. cond (eqb (get_or a.rest 0 0) byte) (f a) (g a))
fork_ahead byte n f g some af ag = record { takes = takes; same = same }
  where
    either : (k : ℕ) (s : List ℕ) (t : Bool) → TakesAtMost n s (cond t (f (place k s)) (g (place k s)))
    either k s true = af.takes k s
    either k s false = ag.takes k s

    takes : (k : ℕ) (s : List ℕ) → TakesAtMost n s (cond (eqb (get_or s 0 0) byte) (f (place k s)) (g (place k s)))
    takes k s = either k s (eqb (get_or s 0 0) byte)

    chosen : (k : ℕ) (s more : List ℕ) (t : Bool) → n ≤ length s → cond t (f (place k (s ++ more))) (g (place k (s ++ more))) ≡ longer more (cond t (f (place k s)) (g (place k s)))
    chosen k s more true room = af.same k s more room
    chosen k s more false room = ag.same k s more room

    same : (k : ℕ) (s more : List ℕ) → n ≤ length s → cond (eqb (get_or (s ++ more) 0 0) byte) (f (place k (s ++ more))) (g (place k (s ++ more)))
        ≡ longer more (cond (eqb (get_or s 0 0) byte) (f (place k s)) (g (place k s)))
    same k [] more room = absurd (omega (arith, room, some))
    same k (x ∷ xs) more room = chosen k (x ∷ xs) more (eqb x byte) room

-- the end, behind which nothing stands
pub end_ahead : IsAhead 1 (silent (λ e. cond (eqb (length e.rest) 0) (Ok e) (Err e.line)))
end_ahead = record { takes = takes; same = same }
  where
    chosen : (k : ℕ) (s : List ℕ) (t : Bool) → TakesAtMost 1 s (cond t (Ok (place k s)) (Err k) >>= quiet)
    chosen k s true = omega arith
    chosen k s false = tt

    takes : (k : ℕ) (s : List ℕ) → TakesAtMost 1 s (cond (eqb (length s) 0) (Ok (place k s)) (Err k) >>= quiet)
    takes k s = chosen k s (eqb (length s) 0)

    same : (k : ℕ) (s more : List ℕ) → 1 ≤ length s → (cond (eqb (length (s ++ more)) 0) (Ok (place k (s ++ more))) (Err k) >>= quiet)
        ≡ longer more (cond (eqb (length s) 0) (Ok (place k s)) (Err k) >>= quiet)
    same k [] more room = absurd (omega (arith, room))
    same k (x ∷ xs) more room =
        let some : eqb (length (x ∷ xs)) 0 ≡ false = grind (arith, nat_tests) in
        let too : eqb (length (x ∷ (xs ++ more))) 0 ≡ false = grind (arith, nat_tests) in
        rw (some, too) refl

pub longer_by_none : {X : Type 0} (r : Result (X × Place) ℕ) → longer [] r ≡ r
longer_by_none (Ok x) = ap (λ s. Ok (x.0, place x.1.line s)) (append-nil x.1.rest)
longer_by_none (Err k) = refl
