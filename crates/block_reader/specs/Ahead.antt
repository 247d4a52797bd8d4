-- How far a step of reading looks.
use Rattle.std.specs.Prelude.{◌≡◌, ℕ, ◌+◌, ◌≤◌, List, ◌++◌, length, Result, Ok, Err}
use Rattle.cert_text.specs.Place.{Place, place, ◌>>=◌}

-- the same with more bytes behind what is left
abbrev pub longer : {X : Type 0} → List ℕ → Result (X × Place) ℕ → Result (X × Place) ℕ
longer more (Ok x) = Ok (x.0, place x.1.line (x.1.rest ++ more))
longer more (Err k) = Err k

-- a step that reads no value
abbrev pub with_no_value : (Place → Result Place ℕ) → Place → Result (Unit {0} × Place) ℕ
with_no_value f p = f p >>= λ q. Ok (tt, q)

-- at most n bytes were taken
abbrev pub TakesAtMost : {X : Type 0} → ℕ → List ℕ → Result (X × Place) ℕ → Type 0
TakesAtMost n s (Ok x) = length s ≤ n + length x.1.rest
TakesAtMost n s (Err k) = Unit {0}

-- it takes at most n bytes, and what stands behind n bytes changes nothing
pub record IsAhead {X : Type 0} (n : ℕ) (f : Place → Result (X × Place) ℕ) : Type 0 where
  pub takes : (k : ℕ) (s : List ℕ) → TakesAtMost n s (f (place k s))
  pub same : (k : ℕ) (s more : List ℕ) → n ≤ length s → f (place k (s ++ more)) ≡ longer more (f (place k s))
