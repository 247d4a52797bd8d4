-- Where a reader stands, and what a step of reading gives.
use Rattle.std.specs.Prelude.{◌≡◌, ℕ, List, ◌++◌, Result, Ok, Err}
use Rattle.cert_text.specs.declared.fault.Stop.{Stop}
use Rattle.cert_text.specs.declared.fault.Stop.TheVariants as stops

-- the number of the line, and the bytes that are left
pub record Place : Type 0 where
  pub line : ℕ
  pub rest : List ℕ

abbrev pub place : ℕ → List ℕ → Place
place line rest = record { line = line; rest = rest }

infixl 10 ◌>>=◌
abbrev pub ◌>>=◌ : {A B : Type 0} → Result A ℕ → (A → Result B ℕ) → Result B ℕ
(Ok x) >>= f = f x
(Err k) >>= f = Err k

-- The step that stopped is the one that reading names, where it is a fault of shape.
abbrev pub Stops : {Y : Type 0} → Stop → Result Y ℕ → Type 0
Stops (stops.Shape k) read = read ≡ Err k
Stops stops.Memory read = Unit {0}

-- What a function returned, and where its reader stands then, is what reading gives.
abbrev pub Reads : {X : Type 0} → Result X Stop → Place → Result (X × Place) ℕ → Type 0
Reads (Ok x) after read = read ≡ Ok (x, after)
Reads (Err e) after read = Stops e read

-- The same of a value that is seen by view.
abbrev pub ReadsViewed : {X Y : Type 0} → (X → Y) → Result X Stop → Place → Result (Y × Place) ℕ → Type 0
ReadsViewed view (Ok x) after read = read ≡ Ok (view x, after)
ReadsViewed view (Err e) after read = Stops e read

-- The same where no value is read.
abbrev pub Passes : {X : Type 0} → Result X Stop → Place → Result Place ℕ → Type 0
Passes (Ok x) after read = read ≡ Ok after
Passes (Err e) after read = Stops e read

-- what was read before, and what is still read
abbrev pub with_front : {X : Type 0} → List X → Result (List X × Place) ℕ → Result (List X × Place) ℕ
with_front front read = read >>= λ x. Ok (front ++ x.0, x.1)

-- A list has what is read at its end.
abbrev pub Appends : {X Y : Type 0} → Result X Stop → List Y → List Y → Place → Result (List Y × Place) ℕ → Type 0
Appends (Ok x) old new after read = with_front old read ≡ Ok (new, after)
Appends (Err e) old new after read = Stops e read
