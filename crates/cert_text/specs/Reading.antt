-- Reading from left to right: a value and the place after it, or the number of the faulty line.
use Rattle.std.specs.Prelude.{ℕ, zero, suc, ◌+◌, ◌-◌, ◌*◌, ◌^◌, ◌&&◌, List, [], ◌∷◌, ◌++◌, length, min, Result, Ok, Err, nat_lt, nat_le, ◌==◌, if◌then◌else◌}
use Rattle.std.specs.Char.{is_ascii_digit}
use Rattle.te_model.specs.Network.{is_name_byte}
use Rattle.cert_text.specs.Place.{Place, ◌>>=◌}

-- one byte
abbrev pub byte_from : ℕ → ℕ → List ℕ → Result Place ℕ
byte_from k b [] = Err k
byte_from k b (x ∷ xs) = if x == b then Ok (record { line = k; rest = xs }) else Err k

abbrev pub read_byte : ℕ → Place → Result Place ℕ
read_byte b p = byte_from p.line b p.rest

abbrev pub read_word : List ℕ → Place → Result Place ℕ
read_word [] p = Ok p
read_word (b ∷ bs) p = read_byte b p >>= read_word bs

-- the line feed, after which the next line begins
abbrev pub read_line_end : Place → Result Place ℕ
read_line_end p = do
  q ← read_byte 10 p
  Ok (record { line = q.line + 1; rest = q.rest })

-- the digits that follow those of v
abbrev pub read_digits : ℕ → ℕ → List ℕ → Result (ℕ × Place) ℕ
read_digits k v [] = Ok (v, record { line = k; rest = [] })
read_digits k v (b ∷ bs) =
    if is_ascii_digit b then
    (if v == 0 then Err k else (if nat_lt (v * 10 + (b - 48)) (2 ^ 64) then read_digits k (v * 10 + (b - 48)) bs else Err k))
    else Ok (v, record { line = k; rest = b ∷ bs })

abbrev pub number_from : ℕ → List ℕ → Result (ℕ × Place) ℕ
number_from k [] = Err k
number_from k (b ∷ bs) = if is_ascii_digit b then read_digits k (b - 48) bs else Err k

-- a number in decimal without a leading zero
unfoldable pub read_number : Place → Result (ℕ × Place) ℕ
read_number p = number_from p.line p.rest

-- a number within a range
unfoldable pub read_count : ℕ → ℕ → Place → Result (ℕ × Place) ℕ
read_count low high p = do
  n ← read_number p
  if nat_le low n.0 && nat_le n.0 high then Ok n else Err n.1.line

-- a number of a field of 32 bits, of which keep says what is kept
unfoldable pub read_narrow : (ℕ → ℕ) → Place → Result (ℕ × Place) ℕ
read_narrow keep p = do
  n ← read_number p
  Ok (keep n.0, n.1)

-- what a field of 32 bits keeps of a number
abbrev pub narrow_number : ℕ → ℕ
narrow_number n = min n (2 ^ 32 - 1)

-- a space, and a number
unfoldable pub read_next_number : Place → Result (ℕ × Place) ℕ
read_next_number p = read_byte 32 p >>= read_number

-- a space, and a number of a field of 32 bits, or one within a range
unfoldable pub read_next_narrow : (ℕ → ℕ) → Place → Result (ℕ × Place) ℕ
read_next_narrow keep p = read_byte 32 p >>= read_narrow keep

unfoldable pub read_next_count : ℕ → ℕ → Place → Result (ℕ × Place) ℕ
read_next_count low high p = read_byte 32 p >>= read_count low high

-- one item after the other
unfoldable pub read_many : {X : Type 0} → ℕ → (Place → Result (X × Place) ℕ) → Place → Result (List X × Place) ℕ
read_many zero item p = Ok ([], p)
read_many (suc n) item p = do
  first ← item p
  others ← read_many n item first.1
  Ok (first.0 ∷ others.0, others.1)

-- the bytes of a name that follow front
abbrev pub name_from : ℕ → List ℕ → List ℕ → Result (List ℕ × Place) ℕ
name_from k front [] = Ok (front, record { line = k; rest = [] })
name_from k front (b ∷ bs) =
    if is_name_byte b then (if length front == 32 then Err k else name_from k (front ++ b ∷ []) bs)
    else Ok (front, record { line = k; rest = b ∷ bs })

unfoldable pub read_name : Place → Result (List ℕ × Place) ℕ
read_name p = do
  x ← name_from p.line [] p.rest
  if length x.0 == 0 then Err x.1.line else Ok x
