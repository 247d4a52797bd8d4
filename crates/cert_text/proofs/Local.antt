-- What is read before a fault depends on the lines up to the fault alone.
use Rattle.std.proofs.Common.{◌≡◌, ℕ, suc, ◌+◌, ◌-◌, ◌*◌, ◌^◌, ◌<◌, ◌≤◌, Bool, true, false, ◌&&◌, not, cond, List, [], ◌∷◌, ◌++◌, length, Result, Ok, Err, refl, sym, ap, subst, arith, eqb, ltb, get_or, inl, inr}
use Rattle.std.specs.Prelude.{nat_le}
use Rattle.std.specs.Char.{is_ascii_digit}
use Rattle.std.proofs.lemmas.Bool.{cases_lt, eqb-true}
use Rattle.std.proofs.lemmas.Bool.Decides.{nat_tests}
use Rattle.te_model.specs.Network.{is_name_byte}
use Rattle.cert_text.specs.Place.{Place, place, ◌>>=◌}
use Rattle.cert_text.specs.Reading.{byte_from, read_byte, read_line_end, read_digits, number_from, read_number, read_count, name_from, read_name}
use Rattle.te_model.specs.Faults.{line_ends}

-- the line of the fault, or of the place after what was read, is this one or a later one
abbrev pub IsFrom : {X : Type 0} → ℕ → Result (X × Place) ℕ → Type 0
IsFrom n (Ok x) = n ≤ x.1.line
IsFrom n (Err k) = n ≤ k

-- where reading stays before the line m, it goes the same way though the bytes go on otherwise
abbrev pub GoesSame : {X : Type 0} → ℕ → List ℕ → List ℕ → Result (X × Place) ℕ → Result (X × Place) ℕ → Type 0
GoesSame m v w (Ok x) r = x.1.line < m → (u : List ℕ) × (x.1.rest ≡ u ++ v) × (r ≡ Ok (x.0, place x.1.line (u ++ w))) × (x.1.line + line_ends u ≡ m)
GoesSame m v w (Err k) r = k < m → r ≡ Err k

abbrev pub IsLocal : {X : Type 0} → (Place → Result (X × Place) ℕ) → Type 0
IsLocal f = (n : ℕ) (u v w : List ℕ) → IsFrom n (f (place n (u ++ v))) × GoesSame (n + line_ends u) v w (f (place n (u ++ v))) (f (place n (u ++ w)))

late : {X : Type 0} (a m : ℕ) (v w : List ℕ) (r s : Result (X × Place) ℕ) → IsFrom a r → m ≤ a → GoesSame m v w r s
late a m v w (Ok x) s from le = λ lt. absurd (omega arith)
late a m v w (Err k) s from le = λ lt. absurd (omega arith)

earlier : {X : Type 0} (a b : ℕ) (r : Result (X × Place) ℕ) → a ≤ b → IsFrom b r → IsFrom a r
earlier a b (Ok x) le from = omega arith
earlier a b (Err k) le from = omega arith

-- one step after another
step : {X Y : Type 0} (g : X → Place → Result (Y × Place) ℕ) → ((x : X) → IsLocal (g x)) → (n m : ℕ) (v w : List ℕ) (r s : Result (X × Place) ℕ)
    → IsFrom n r × GoesSame m v w r s → IsFrom n (r >>= λ x. g x.0 x.1) × GoesSame m v w (r >>= λ x. g x.0 x.1) (s >>= λ x. g x.0 x.1)
step g local n m v w (Err k) s h = (h.0, λ lt. ap (λ r. r >>= λ x. g x.0 x.1) (h.1 lt))
step {X} {Y} g local n m v w (Ok x) s h =
    let here = local x.0 x.1.line [] x.1.rest x.1.rest in
    elim (cases_lt x.1.line m) [
      | inl lt ↦
          let t = h.1 lt in
          let l = local x.0 x.1.line t.0 v w in
          let at : x.1 ≡ place x.1.line (t.0 ++ v) = ap (place x.1.line) t.1 in
          let after : (s >>= λ y. g y.0 y.1) ≡ g x.0 (place x.1.line (t.0 ++ w)) = ap (λ r. r >>= λ y. g y.0 y.1) t.2 in
          let same : GoesSame m v w (g x.0 (place x.1.line (t.0 ++ v))) (g x.0 (place x.1.line (t.0 ++ w))) = subst (λ (k : ℕ). GoesSame k v w (g x.0 (place x.1.line (t.0 ++ v))) (g x.0 (place x.1.line (t.0 ++ w)))) t.3 l.1 in (
            earlier n x.1.line (g x.0 x.1) h.0 here.0,
            subst (λ (p : Place). GoesSame m v w (g x.0 p) (s >>= λ y. g y.0 y.1)) (sym at) (subst (λ (r : Result (Y × Place) ℕ). GoesSame m v w (g x.0 (place x.1.line (t.0 ++ v))) r) (sym after) same),
          )
      | inr ge ↦ (earlier n x.1.line (g x.0 x.1) h.0 here.0, late x.1.line m v w (g x.0 x.1) (s >>= λ y. g y.0 y.1) here.0 ge)
    ]

pub then_local : {X Y : Type 0} (f : Place → Result (X × Place) ℕ) (g : X → Place → Result (Y × Place) ℕ) → IsLocal f → ((x : X) → IsLocal (g x)) → IsLocal (λ p. f p >>= λ x. g x.0 x.1)
then_local f g lf lg n u v w = step g lg n (n + line_ends u) v w (f (place n (u ++ v))) (f (place n (u ++ w))) (lf n u v w)

-- a step that reads no value, as one that reads nothing
abbrev pub quiet : Place → Result (Unit {0} × Place) ℕ
quiet q = Ok (tt, q)

abbrev pub silent : (Place → Result Place ℕ) → Place → Result (Unit {0} × Place) ℕ
silent f p = f p >>= quiet

pub silent_bind : {Y : Type 0} (r : Result Place ℕ) (g : Place → Result (Y × Place) ℕ) → ((r >>= quiet) >>= λ x. g x.1) ≡ (r >>= g)
silent_bind (Ok q) g = refl
silent_bind (Err k) g = refl

pub then_silent : {Y : Type 0} (f : Place → Result Place ℕ) (g : Place → Result (Y × Place) ℕ) → IsLocal (silent f) → IsLocal g → IsLocal (λ p. f p >>= g)
then_silent f g lf lg n u v w =
    let l = then_local (silent f) (λ _ p. g p) lf (λ _. lg) n u v w in
    rw (← silent_bind (f (place n (u ++ v))) g, ← silent_bind (f (place n (u ++ w))) g) l

pub done_local : {X : Type 0} (x : X) → IsLocal (λ p. Ok (x, p))
done_local x n u v w = (omega arith, λ lt. (u, refl, refl, refl))

-- ---- tokens

vacuous : {X : Type 0} (n : ℕ) (v w : List ℕ) (r s : Result (X × Place) ℕ) → IsFrom n r → IsFrom n r × GoesSame (n + line_ends []) v w r s
vacuous n v w r s from = (from, late n (n + 0) v w r s from (omega arith))

byte_from_line : (n b : ℕ) (xs : List ℕ) → IsFrom n (byte_from n b xs >>= quiet)
byte_from_line n b [] = omega arith
byte_from_line n b (x ∷ xs) = chosen (eqb x b)
  where
    chosen : (t : Bool) → IsFrom n (cond t (Ok (place n xs)) (Err n) >>= quiet)
    chosen true = omega arith
    chosen false = omega arith

-- a byte that is no line feed
pub byte_local : (b : ℕ) → eqb b 10 ≡ false → IsLocal (silent (read_byte b))
byte_local b no_end n [] v w = vacuous n v w (byte_from n b v >>= quiet) (byte_from n b w >>= quiet) (byte_from_line n b v)
byte_local b no_end n (x ∷ u) v w = chosen (eqb x b) refl
  where
    chosen : (t : Bool) → eqb x b ≡ t → IsFrom n (cond t (Ok (place n (u ++ v))) (Err n) >>= quiet) × GoesSame (n + line_ends (x ∷ u)) v w (cond t (Ok (place n (u ++ v))) (Err n) >>= quiet) (cond t (Ok (place n (u ++ w))) (Err n) >>= quiet)
    chosen true is =
        let same : eqb x 10 ≡ false = subst (λ (y : ℕ). eqb y 10 ≡ false) (sym (eqb-true x b is)) no_end in
        (omega arith, λ lt. (u, refl, refl, rw same refl))
    chosen false is = (omega arith, λ lt. refl)

pub line_end_local : IsLocal (silent read_line_end)
line_end_local n [] v w = vacuous n v w (silent read_line_end (place n v)) (silent read_line_end (place n w)) (from v)
  where
    from : (xs : List ℕ) → IsFrom n (silent read_line_end (place n xs))
    from [] = omega arith
    from (x ∷ xs) = chosen (eqb x 10)
      where
        chosen : (t : Bool) → IsFrom n ((cond t (Ok (place n xs)) (Err n) >>= λ q. Ok (place (q.line + 1) q.rest)) >>= quiet)
        chosen true = omega arith
        chosen false = omega arith
line_end_local n (x ∷ u) v w = chosen (eqb x 10) refl
  where
    chosen : (t : Bool) → eqb x 10 ≡ t → IsFrom n ((cond t (Ok (place n (u ++ v))) (Err n) >>= λ q. Ok (place (q.line + 1) q.rest)) >>= quiet) × GoesSame (n + cond t (suc (line_ends u)) (line_ends u)) v w ((cond t (Ok (place n (u ++ v))) (Err n) >>= λ q. Ok (place (q.line + 1) q.rest)) >>= quiet) ((cond t (Ok (place n (u ++ w))) (Err n) >>= λ q. Ok (place (q.line + 1) q.rest)) >>= quiet)
    chosen true is = (omega arith, λ lt. (u, refl, refl, omega arith))
    chosen false is = (omega arith, λ lt. refl)

-- digits
digits_from_line : (n d : ℕ) (xs : List ℕ) → IsFrom n (read_digits n d xs)
digits_from_line n d [] = omega arith
digits_from_line n d (x ∷ xs) = chosen (is_ascii_digit x) (eqb d 0) (ltb (d * 10 + (x - 48)) (2 ^ 64)) (digits_from_line n (d * 10 + (x - 48)) xs)
  where
    chosen : (t z f : Bool) → IsFrom n (read_digits n (d * 10 + (x - 48)) xs) → IsFrom n (cond t (cond z (Err n) (cond f (read_digits n (d * 10 + (x - 48)) xs) (Err n))) (Ok (d, place n (x ∷ xs))))
    chosen true true f h = omega arith
    chosen true false true h = h
    chosen true false false h = omega arith
    chosen false z f h = omega arith

digits_local : (d : ℕ) → IsLocal (λ p. read_digits p.line d p.rest)
digits_local d n [] v w = vacuous n v w (read_digits n d v) (read_digits n d w) (digits_from_line n d v)
digits_local d n (x ∷ u) v w = chosen (is_ascii_digit x) (eqb d 0) (ltb (d * 10 + (x - 48)) (2 ^ 64)) refl (digits_local (d * 10 + (x - 48)) n u v w)
  where
    chosen : (t z f : Bool) → is_ascii_digit x ≡ t → IsFrom n (read_digits n (d * 10 + (x - 48)) (u ++ v)) × GoesSame (n + line_ends u) v w (read_digits n (d * 10 + (x - 48)) (u ++ v)) (read_digits n (d * 10 + (x - 48)) (u ++ w))
        → IsFrom n (cond t (cond z (Err n) (cond f (read_digits n (d * 10 + (x - 48)) (u ++ v)) (Err n))) (Ok (d, place n (x ∷ (u ++ v)))))
        × GoesSame (n + line_ends (x ∷ u)) v w (cond t (cond z (Err n) (cond f (read_digits n (d * 10 + (x - 48)) (u ++ v)) (Err n))) (Ok (d, place n (x ∷ (u ++ v))))) (cond t (cond z (Err n) (cond f (read_digits n (d * 10 + (x - 48)) (u ++ w)) (Err n))) (Ok (d, place n (x ∷ (u ++ w)))))
    chosen true true f digit h = (omega arith, λ lt. refl)
    chosen true false true digit h =
        let no_end : eqb x 10 ≡ false = grind (arith, nat_tests) in
        rw no_end h
    chosen true false false digit h = (omega arith, λ lt. refl)
    chosen false z f digit h = (omega arith, λ lt. (x ∷ u, refl, refl, refl))

number_from_local : IsLocal (λ p. number_from p.line p.rest)
number_from_local n [] v w = vacuous n v w (number_from n v) (number_from n w) (from v)
  where
    from : (xs : List ℕ) → IsFrom n (number_from n xs)
    from [] = omega arith
    from (x ∷ xs) = chosen (is_ascii_digit x) (digits_from_line n (x - 48) xs)
      where
        chosen : (t : Bool) → IsFrom n (read_digits n (x - 48) xs) → IsFrom n (cond t (read_digits n (x - 48) xs) (Err n))
        chosen true h = h
        chosen false h = omega arith
number_from_local n (x ∷ u) v w = chosen (is_ascii_digit x) refl (digits_local (x - 48) n u v w)
  where
    chosen : (t : Bool) → is_ascii_digit x ≡ t → IsFrom n (read_digits n (x - 48) (u ++ v)) × GoesSame (n + line_ends u) v w (read_digits n (x - 48) (u ++ v)) (read_digits n (x - 48) (u ++ w))
        → IsFrom n (cond t (read_digits n (x - 48) (u ++ v)) (Err n)) × GoesSame (n + line_ends (x ∷ u)) v w (cond t (read_digits n (x - 48) (u ++ v)) (Err n)) (cond t (read_digits n (x - 48) (u ++ w)) (Err n))
    chosen true digit h = let no_end : eqb x 10 ≡ false = grind (arith, nat_tests) in rw no_end h
    chosen false digit h = (omega arith, λ lt. refl)

pub number_local : IsLocal read_number
unfolding read_number
number_local = number_from_local

guard_local : {X : Type 0} (x : X) (t : Bool) → IsLocal (λ p. cond t (Ok (x, p)) (Err p.line))
guard_local x true n u v w = (omega arith, λ lt. (u, refl, refl, refl))
guard_local x false n u v w = (omega arith, λ lt. refl)

unless_local : {X : Type 0} (x : X) (t : Bool) → IsLocal (λ p. cond t (Err p.line) (Ok (x, p)))
unless_local x false n u v w = (omega arith, λ lt. (u, refl, refl, refl))
unless_local x true n u v w = (omega arith, λ lt. refl)

pub count_local : (low high : ℕ) → IsLocal (read_count low high)
unfolding read_count
count_local low high = then_local read_number (λ x p. cond (nat_le low x && nat_le x high) (Ok (x, p)) (Err p.line)) number_local (λ x. guard_local x (nat_le low x && nat_le x high))

name_from_line : (n : ℕ) (front xs : List ℕ) → IsFrom n (name_from n front xs)
name_from_line n front [] = omega arith
name_from_line n front (x ∷ xs) = chosen (is_name_byte x) (eqb (length front) 32) (name_from_line n (front ++ x ∷ []) xs)
  where
    chosen : (t f : Bool) → IsFrom n (name_from n (front ++ x ∷ []) xs) → IsFrom n (cond t (cond f (Err n) (name_from n (front ++ x ∷ []) xs)) (Ok (front, place n (x ∷ xs))))
    chosen true true h = omega arith
    chosen true false h = h
    chosen false f h = omega arith

letters_local : (front : List ℕ) → IsLocal (λ p. name_from p.line front p.rest)
letters_local front n [] v w = vacuous n v w (name_from n front v) (name_from n front w) (name_from_line n front v)
letters_local front n (x ∷ u) v w = chosen (is_name_byte x) (eqb (length front) 32) refl (letters_local (front ++ x ∷ []) n u v w)
  where
    chosen : (t f : Bool) → is_name_byte x ≡ t → IsFrom n (name_from n (front ++ x ∷ []) (u ++ v)) × GoesSame (n + line_ends u) v w (name_from n (front ++ x ∷ []) (u ++ v)) (name_from n (front ++ x ∷ []) (u ++ w))
        → IsFrom n (cond t (cond f (Err n) (name_from n (front ++ x ∷ []) (u ++ v))) (Ok (front, place n (x ∷ (u ++ v)))))
        × GoesSame (n + line_ends (x ∷ u)) v w (cond t (cond f (Err n) (name_from n (front ++ x ∷ []) (u ++ v))) (Ok (front, place n (x ∷ (u ++ v))))) (cond t (cond f (Err n) (name_from n (front ++ x ∷ []) (u ++ w))) (Ok (front, place n (x ∷ (u ++ w)))))
    chosen true true letter h = (omega arith, λ lt. refl)
    chosen true false letter h = let no_end : eqb x 10 ≡ false = grind (arith, nat_tests) in rw no_end h
    chosen false f letter h = (omega arith, λ lt. (x ∷ u, refl, refl, refl))

pub name_local : IsLocal read_name
unfolding read_name
name_local = then_local (λ p. name_from p.line [] p.rest) (λ x p. cond (eqb (length x) 0) (Err p.line) (Ok (x, p))) (letters_local []) (λ x. unless_local x (eqb (length x) 0))

pub same_local : {X : Type 0} (f g : Place → Result (X × Place) ℕ) → ((p : Place) → f p ≡ g p) → IsLocal f → IsLocal g
same_local {X} f g same l n u v w =
    subst (λ (r : Result (X × Place) ℕ). IsFrom n r × GoesSame (n + line_ends u) v w r (g (place n (u ++ w)))) (same (place n (u ++ v)))
    (subst (λ (r : Result (X × Place) ℕ). IsFrom n (f (place n (u ++ v))) × GoesSame (n + line_ends u) v w (f (place n (u ++ v))) r) (same (place n (u ++ w))) (l n u v w))

pub regroup_silent : (r : Result Place ℕ) (f : Place → Result Place ℕ) → (r >>= silent f) ≡ ((r >>= f) >>= quiet)
regroup_silent (Ok q) f = refl
regroup_silent (Err k) f = refl

-- no line feed stands in the word
abbrev pub is_one_line : List ℕ → Bool
is_one_line [] = true
is_one_line (b ∷ bs) = not (eqb b 10) && is_one_line bs

-- two ways to read, of which the first is taken where this byte stands next
pub fork_local : {X : Type 0} (byte : ℕ) (f g : Place → Result (X × Place) ℕ) → IsLocal f → IsLocal g → IsLocal (λ a. cond (eqb (get_or a.rest 0 0) byte) (f a) (g a))
fork_local byte f g lf lg n [] v w = vacuous n v w _ _ (chosen (eqb (get_or v 0 0) byte))
  where
    chosen : (t : Bool) → IsFrom n (cond t (f (place n v)) (g (place n v)))
    chosen true = (lf n [] v v).0
    chosen false = (lg n [] v v).0
fork_local byte f g lf lg n (x ∷ u) v w = chosen (eqb x byte)
  where
    chosen : (t : Bool) → IsFrom n (cond t (f (place n (x ∷ (u ++ v)))) (g (place n (x ∷ (u ++ v))))) × GoesSame (n + line_ends (x ∷ u)) v w (cond t (f (place n (x ∷ (u ++ v)))) (g (place n (x ∷ (u ++ v))))) (cond t (f (place n (x ∷ (u ++ w)))) (g (place n (x ∷ (u ++ w)))))
    chosen true = lf n (x ∷ u) v w
    chosen false = lg n (x ∷ u) v w

pub end_local : IsLocal (silent (λ e. cond (eqb (length e.rest) 0) (Ok e) (Err e.line)))
end_local n [] v w = vacuous n v w _ _ (chosen (eqb (length v) 0))
  where
    chosen : (t : Bool) → IsFrom n (cond t (Ok (place n v)) (Err n) >>= quiet)
    chosen true = omega arith
    chosen false = omega arith
end_local n (x ∷ u) v w =
    let some : eqb (length (x ∷ (u ++ v))) 0 ≡ false = grind (arith, nat_tests) in
    let too : eqb (length (x ∷ (u ++ w))) 0 ≡ false = grind (arith, nat_tests) in
    rw (some, too) (omega arith, λ lt. refl)
