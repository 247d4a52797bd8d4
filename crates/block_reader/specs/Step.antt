-- What a step of reading takes from the front.
use Rattle.std.specs.Prelude.{◌≡◌, ℕ, ◌+◌, ◌≤◌, List, ◌++◌, length, Result, Ok, Err}
use Rattle.cert_text.specs.Place.{Place}

-- these bytes, and for each line that they end at least one of them
pub record Took (p : Place) (front : List ℕ) (q : Place) : Type 0 where
  pub parts : p.rest ≡ front ++ q.rest
  pub line : q.line ≤ p.line + length front

-- what is left stands at the end of what there was
abbrev pub StepsTo : {X : Type 0} → Place → Result (X × Place) ℕ → Type 0
StepsTo p (Ok x) = (front : List ℕ) × Took p front x.1
StepsTo p (Err k) = Unit {0}

pub record IsForwardStep {X : Type 0} (f : Place → Result (X × Place) ℕ) : Type 0 where
  pub goes : (p : Place) → StepsTo p (f p)
