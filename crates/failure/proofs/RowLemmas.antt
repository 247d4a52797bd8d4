-- What a row says, by the tests that it passes.
use Rattle.std.proofs.Common.{ℕ, ◌≤◌, ◌<◌, ◌≡◌, ◌≢◌, ◌∙◌, refl, List, [], ◌∷◌, ◌++◌, length, Bool, true, false, ◌&&◌, nat_lt, Result, Ok, Err, arith, if◌then◌else◌}
use Rattle.std.proofs.lemmas.Bool.Decides.{nat_tests}
use Rattle.csv_records.specs.Field.{is_number, digits_from}
use Rattle.csv_records.specs.Rows.{fold_rows, records_of}
use Rattle.csv_records.proofs.RowFacts.{after-header}
use Rattle.failure.specs.declared.outage.Outage.{Outage}
use Rattle.failure.specs.declared.outage.Failures.{Failures}
use Rattle.failure.specs.declared.fault.FailureFault.{FailureFault}
use Rattle.failure.specs.declared.fault.FailureFault.TheVariants as fault
use Rattle.failure.specs.File.{outage_of, outage_of_fields, outage_within, with_outage_row, is_failure_header, failures_of}
use Rattle.failure.specs.Series.{no_failures}

pub other-fields : (links steps row : ℕ) (xs : List (List ℕ)) → length xs ≢ 3 → outage_of links steps row xs ≡ Err (fault.Fields row)
unfolding outage_of
other-fields links steps row [] n = refl
other-fields links steps row (a ∷ []) n = refl
other-fields links steps row (a ∷ b ∷ []) n = refl
other-fields links steps row (a ∷ b ∷ c ∷ []) n = absurd (n refl)
other-fields links steps row (a ∷ b ∷ c ∷ d ∷ rest) n = refl

pub three-fields : (links steps row : ℕ) (xs : List (List ℕ)) (a b c : List ℕ) (r : Result Outage FailureFault) → xs ≡ a ∷ b ∷ c ∷ [] → outage_of_fields links steps row a b c ≡ r → outage_of links steps row xs ≡ r
unfolding outage_of
three-fields links steps row xs a b c r e h = rw e h

first : {R : Type 0} (a b c : Bool) (p q : R) → a ≡ false → (if a && b && c then p else q) ≡ q
first a b c p q e = rw e refl

second : {R : Type 0} (a b c : Bool) (p q : R) → b ≡ false → (if a && b && c then p else q) ≡ q
second true b c p q e = rw e refl
second false b c p q e = refl

third : {R : Type 0} (a b c : Bool) (p q : R) → c ≡ false → (if a && b && c then p else q) ≡ q
third true true c p q e = rw e refl
third true false c p q e = refl
third false b c p q e = refl

all_three : {R : Type 0} (a b c : Bool) (p q : R) → a ≡ true → b ≡ true → c ≡ true → (if a && b && c then p else q) ≡ p
all_three a b c p q e f g = rw (e, f, g) refl

module _ (links steps row : ℕ) (from to link : List ℕ) where
  pub bad-from : is_number from ≡ false → outage_of_fields links steps row from to link ≡ Err (fault.Number row)
  bad-from h = first (is_number from) (is_number to) (is_number link) _ _ h

  pub bad-to : is_number to ≡ false → outage_of_fields links steps row from to link ≡ Err (fault.Number row)
  bad-to h = second (is_number from) (is_number to) (is_number link) _ _ h

  pub bad-link : is_number link ≡ false → outage_of_fields links steps row from to link ≡ Err (fault.Number row)
  bad-link h = third (is_number from) (is_number to) (is_number link) _ _ h

  pub numbers : (f t l : ℕ) → (is_number from ≡ true) × (f ≡ digits_from 0 from) → (is_number to ≡ true) × (t ≡ digits_from 0 to) → (is_number link ≡ true) × (l ≡ digits_from 0 link)
      → (r : Result Outage FailureFault) → outage_within links steps row (record { from = f; to = t; link = l }) ≡ r → outage_of_fields links steps row from to link ≡ r
  numbers f t l a b c r h = all_three (is_number from) (is_number to) (is_number link) _ _ a.0 b.0 c.0 ∙ (rw (a.1, b.1, c.1) at h)

module _ (links steps row : ℕ) (o : Outage) where
  pub no-link : links ≤ o.link → outage_within links steps row o ≡ Err (fault.NoSuchLink row)
  no-link h = let e : nat_lt o.link links ≡ false = grind (arith, nat_tests) in rw e refl

  pub wrong-order : o.link < links → o.to < o.from → outage_within links steps row o ≡ Err (fault.Interval row)
  wrong-order h k =
      let e : nat_lt o.link links ≡ true = grind (arith, nat_tests) in
      let f : nat_lt o.to o.from ≡ true = grind (arith, nat_tests) in
      rw (e, f) refl

  pub too-late : o.link < links → o.from ≤ o.to → steps ≤ o.to → outage_within links steps row o ≡ Err (fault.Interval row)
  too-late h k m =
      let e : nat_lt o.link links ≡ true = grind (arith, nat_tests) in
      let f : nat_lt o.to o.from ≡ false = grind (arith, nat_tests) in
      let g : nat_lt o.to steps ≡ false = grind (arith, nat_tests) in
      rw (e, f, g) refl

  pub in-range : o.link < links → o.from ≤ o.to → o.to < steps → outage_within links steps row o ≡ Ok o
  in-range h k m =
      let e : nat_lt o.link links ≡ true = grind (arith, nat_tests) in
      let f : nat_lt o.to o.from ≡ false = grind (arith, nat_tests) in
      let g : nat_lt o.to steps ≡ true = grind (arith, nat_tests) in
      rw (e, f, g) refl

pub row-added : (links steps row : ℕ) (list : List Outage) (r : List (List ℕ)) (o : Outage) → outage_of links steps row r ≡ Ok o
    → with_outage_row links steps (record { list = list }) row r ≡ Ok (record { list = list ++ o ∷ [] })
row-added links steps row list r o e = rw e refl

pub row-refused : (links steps row : ℕ) (list : List Outage) (r : List (List ℕ)) (f : FailureFault) → outage_of links steps row r ≡ Err f
    → with_outage_row links steps (record { list = list }) row r ≡ Err f
row-refused links steps row list r f e = rw e refl

-- a file that begins with the header says what its rows say
pub failures-of-rows : (links steps : ℕ) (bytes : List ℕ) (header : List (List ℕ)) (rows : List (List (List ℕ))) (o : Result Failures FailureFault)
    → records_of bytes ≡ header ∷ rows → is_failure_header header ≡ true → fold_rows (with_outage_row links steps) no_failures 1 rows ≡ o → failures_of links steps bytes ≡ o
failures-of-rows links steps bytes header rows o first is all = after-header (with_outage_row links steps) is_failure_header fault.Header no_failures (records_of bytes) header rows first is ∙ all
