-- What is read of a line stays in it, and so does a fault.
use Rattle.std.proofs.Common.{◌≡◌, ℕ, zero, suc, ◌+◌, ◌-◌, ◌*◌, ◌^◌, Bool, true, false, cond, List, [], ◌∷◌, ◌++◌, length, Result, Ok, Err, refl, sym, ◌∙◌, eqb, ltb}
use Rattle.std.specs.Char.{is_ascii_digit}
use Rattle.te_model.specs.Network.{is_name_byte}
use Rattle.cert_text.specs.Place.{Place, place, ◌>>=◌}
use Rattle.cert_text.specs.Reading.{byte_from, read_byte, read_word, read_line_end, read_digits, number_from, read_number, read_next_number, read_many, name_from, read_name}

pub not_ok : {X : Type 0} (x : X) (k : ℕ) (r : Result X ℕ) → r ≡ Err k → r ≡ Ok x → ⊥
not_ok x k r e f = absurd cc

-- what is read ends on line n, or the fault is there
abbrev pub EndsOn : {X : Type 0} → ℕ → Result (X × Place) ℕ → Type 0
EndsOn n (Ok x) = x.1.line ≡ n
EndsOn n (Err k) = k ≡ n

-- the same where no value is read
abbrev pub PassesOn : ℕ → Result Place ℕ → Type 0
PassesOn n (Ok q) = q.line ≡ n
PassesOn n (Err k) = k ≡ n

pub then_ends : {X Y : Type 0} (n : ℕ) (r : Result (X × Place) ℕ) (f : X × Place → Result (Y × Place) ℕ) → EndsOn n r → ((x : X × Place) → x.1.line ≡ n → EndsOn n (f x)) → EndsOn n (r >>= f)
then_ends n (Ok x) f on next = next x on
then_ends n (Err k) f on next = on

pub then_passes : {Y : Type 0} (n : ℕ) (r : Result Place ℕ) (f : Place → Result (Y × Place) ℕ) → PassesOn n r → ((q : Place) → q.line ≡ n → EndsOn n (f q)) → EndsOn n (r >>= f)
then_passes n (Ok q) f on next = next q on
then_passes n (Err k) f on next = on

both_pass : (n : ℕ) (r : Result Place ℕ) (f : Place → Result Place ℕ) → PassesOn n r → ((q : Place) → q.line ≡ n → PassesOn n (f q)) → PassesOn n (r >>= f)
both_pass n (Ok q) f on next = next q on
both_pass n (Err k) f on next = on

pub byte_on : (b : ℕ) (p : Place) (n : ℕ) → p.line ≡ n → PassesOn n (read_byte b p)
byte_on b p n on = from p.rest
  where
    from : (bs : List ℕ) → PassesOn n (byte_from p.line b bs)
    from [] = on
    from (x ∷ xs) = chosen (eqb x b)
      where
        chosen : (t : Bool) → PassesOn n (cond t (Ok (place p.line xs)) (Err p.line))
        chosen true = on
        chosen false = on

pub word_on : (w : List ℕ) (p : Place) (n : ℕ) → p.line ≡ n → PassesOn n (read_word w p)
word_on [] p n on = on
word_on (b ∷ bs) p n on = both_pass n (read_byte b p) (read_word bs) (byte_on b p n on) (λ q at. word_on bs q n at)

digits_on : (k v : ℕ) (bs : List ℕ) → EndsOn k (read_digits k v bs)
digits_on k v [] = refl
digits_on k v (b ∷ bs) = chosen (is_ascii_digit b) (eqb v 0) (ltb (v * 10 + (b - 48)) (2 ^ 64)) (digits_on k (v * 10 + (b - 48)) bs)
  where
    chosen : (t z f : Bool) → EndsOn k (read_digits k (v * 10 + (b - 48)) bs) → EndsOn k (cond t (cond z (Err k) (cond f (read_digits k (v * 10 + (b - 48)) bs) (Err k))) (Ok (v, place k (b ∷ bs))))
    chosen true true f more = refl
    chosen true false true more = more
    chosen true false false more = refl
    chosen false z f more = refl

number_from_on : (k : ℕ) (bs : List ℕ) → EndsOn k (number_from k bs)
number_from_on k [] = refl
number_from_on k (b ∷ bs) = chosen (is_ascii_digit b) (digits_on k (b - 48) bs)
  where
    chosen : (t : Bool) → EndsOn k (read_digits k (b - 48) bs) → EndsOn k (cond t (read_digits k (b - 48) bs) (Err k))
    chosen true more = more
    chosen false more = refl

pub number_on : (p : Place) (n : ℕ) → p.line ≡ n → EndsOn n (read_number p)
unfolding read_number
number_on p n on = rw (sym on) (number_from_on p.line p.rest)

pub next_number_on : (p : Place) (n : ℕ) → p.line ≡ n → EndsOn n (read_next_number p)
unfolding read_next_number
next_number_on p n on = then_passes n (read_byte 32 p) read_number (byte_on 32 p n on) (λ q at. number_on q n at)

name_from_on : (k : ℕ) (front bs : List ℕ) → EndsOn k (name_from k front bs)
name_from_on k front [] = refl
name_from_on k front (b ∷ bs) = chosen (is_name_byte b) (eqb (length front) 32) (name_from_on k (front ++ b ∷ []) bs)
  where
    chosen : (t f : Bool) → EndsOn k (name_from k (front ++ b ∷ []) bs) → EndsOn k (cond t (cond f (Err k) (name_from k (front ++ b ∷ []) bs)) (Ok (front, place k (b ∷ bs))))
    chosen true true more = refl
    chosen true false more = more
    chosen false f more = refl

pub guard_on : {X : Type 0} (n : ℕ) (t : Bool) (x : X × Place) → x.1.line ≡ n → EndsOn n (cond t (Ok x) (Err x.1.line))
guard_on n true x on = on
guard_on n false x on = on

unless_on : {X : Type 0} (n : ℕ) (t : Bool) (x : X × Place) → x.1.line ≡ n → EndsOn n (cond t (Err x.1.line) (Ok x))
unless_on n true x on = on
unless_on n false x on = on

pub name_on : (p : Place) (n : ℕ) → p.line ≡ n → EndsOn n (read_name p)
unfolding read_name
name_on p n on =
    then_ends n (name_from p.line [] p.rest) (λ x. cond (eqb (length x.0) 0) (Err x.1.line) (Ok x)) (rw (sym on) (name_from_on p.line [] p.rest))
    (λ x at. unless_on n (eqb (length x.0) 0) x at)

pub many_on : {X : Type 0} (item : Place → Result (X × Place) ℕ) → ((p : Place) (n : ℕ) → p.line ≡ n → EndsOn n (item p)) → (count : ℕ) (p : Place) (n : ℕ) → p.line ≡ n → EndsOn n (read_many count item p)
unfolding read_many
many_on item each zero p n on = on
many_on item each (suc count) p n on =
    then_ends n (item p) (λ first. read_many count item first.1 >>= λ others. Ok (first.0 ∷ others.0, others.1)) (each p n on)
    (λ x at. then_ends n (read_many count item x.1) (λ others. Ok (x.0 ∷ others.0, others.1)) (many_on item each count x.1 n at) (λ y on'. on'))

-- ---- the end of a line, after which the next one begins

-- a fault is on line n
abbrev pub FaultsOn : {X : Type 0} → ℕ → Result X ℕ → Type 0
FaultsOn n (Ok x) = Unit {0}
FaultsOn n (Err k) = k ≡ n

pub then_faults : {X Y : Type 0} (n : ℕ) (r : Result (X × Place) ℕ) (f : X × Place → Result Y ℕ) → EndsOn n r → ((x : X × Place) → x.1.line ≡ n → FaultsOn n (f x)) → FaultsOn n (r >>= f)
then_faults n (Ok x) f on next = next x on
then_faults n (Err k) f on next = on

pub mapped_faults : {X Y : Type 0} (n : ℕ) (r : Result X ℕ) (f : X → Y) → FaultsOn n r → FaultsOn n (r >>= λ x. Ok (f x))
mapped_faults n (Ok x) f on = tt
mapped_faults n (Err k) f on = on

pub fault_on : {X : Type 0} (n k : ℕ) (r : Result X ℕ) → r ≡ Err k → FaultsOn n r → k ≡ n
fault_on n k (Ok x) e on = absurd cc
fault_on n k (Err j) e on = let same : j ≡ k = cc in sym same ∙ on

pub line_end_faults : (p : Place) (n : ℕ) → p.line ≡ n → FaultsOn n (read_line_end p)
line_end_faults p n on = from (read_byte 10 p) (byte_on 10 p n on)
  where
    from : (r : Result Place ℕ) → PassesOn n r → FaultsOn n (r >>= λ q. Ok (place (q.line + 1) q.rest))
    from (Ok q) at = tt
    from (Err k) at = at
