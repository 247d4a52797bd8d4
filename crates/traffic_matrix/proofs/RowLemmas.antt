-- What a row says, by the tests that it passes.
use Rattle.std.proofs.Common.{ℕ, ◌^◌, ◌≡◌, ◌≢◌, refl, List, [], ◌∷◌, length, Bool, true, false, ◌&&◌, Option, Some, None, Result, Ok, Err, if◌then◌else◌}
use Rattle.csv_records.specs.Field.{is_number, is_number_within, digits_from}
use Rattle.traffic_matrix.specs.declared.entry.Entry.{Entry}
use Rattle.traffic_matrix.specs.declared.fault.MatrixFault.{MatrixFault}
use Rattle.traffic_matrix.specs.declared.fault.MatrixFault.TheVariants as fault
use Rattle.traffic_matrix.specs.Rows.{number_named, entry_between, demand_entry}

pub other-fields : (names : List (List ℕ)) (row : ℕ) (xs : List (List ℕ)) → length xs ≢ 4 → demand_entry names row xs ≡ Err (fault.Fields row)
unfolding demand_entry
other-fields names row [] n = refl
other-fields names row (a ∷ []) n = refl
other-fields names row (a ∷ b ∷ []) n = refl
other-fields names row (a ∷ b ∷ c ∷ []) n = refl
other-fields names row (a ∷ b ∷ c ∷ d ∷ []) n = absurd (n refl)
other-fields names row (a ∷ b ∷ c ∷ d ∷ e ∷ rest) n = refl

pub four-fields : (names : List (List ℕ)) (row : ℕ) (xs : List (List ℕ)) (step source target demand : List ℕ) (r : Result Entry MatrixFault) → xs ≡ step ∷ source ∷ target ∷ demand ∷ []
    → entry_between row step demand (number_named names source) (number_named names target) ≡ r → demand_entry names row xs ≡ r
unfolding demand_entry
four-fields names row xs step source target demand r e h = rw e h

module _ (row : ℕ) (step demand : List ℕ) where
  pub no-source : (s t : Option ℕ) → s ≡ None → entry_between row step demand s t ≡ Err (fault.UnknownNode row)
  no-source s t e = rw e refl

  pub no-target : (s t : Option ℕ) → t ≡ None → entry_between row step demand s t ≡ Err (fault.UnknownNode row)
  no-target (Some s) t e = rw e refl
  no-target None t e = refl

  module _ (s t : Option ℕ) (src dst : ℕ) (source : s ≡ Some src) (target : t ≡ Some dst) where
    pub bad-step : is_number step ≡ false → entry_between row step demand s t ≡ Err (fault.Number row)
    bad-step h = rw (source, target) (go (is_number step) (is_number_within 0 (2 ^ 32) demand) h)
      where
        go : (a b : Bool) → a ≡ false → ◌≡◌ {A = Result Entry MatrixFault} (if a && b then Ok (record { step = digits_from 0 step; pair = record { src = src; dst = dst }; demand = digits_from 0 demand }) else Err (fault.Number row)) (Err (fault.Number row))
        go a b e = rw e refl

    pub bad-demand : is_number_within 0 (2 ^ 32) demand ≡ false → entry_between row step demand s t ≡ Err (fault.Number row)
    bad-demand h = rw (source, target) (go (is_number step) (is_number_within 0 (2 ^ 32) demand) h)
      where
        go : (a b : Bool) → b ≡ false → ◌≡◌ {A = Result Entry MatrixFault} (if a && b then Ok (record { step = digits_from 0 step; pair = record { src = src; dst = dst }; demand = digits_from 0 demand }) else Err (fault.Number row)) (Err (fault.Number row))
        go true b e = rw e refl
        go false b e = refl

    pub good : (k d : ℕ) → (is_number step ≡ true) × (k ≡ digits_from 0 step) → (is_number_within 0 (2 ^ 32) demand ≡ true) × (d ≡ digits_from 0 demand)
        → entry_between row step demand s t ≡ Ok (record { step = k; pair = record { src = src; dst = dst }; demand = d })
    good k d a b = rw (source, target, a.1, b.1) (go (is_number step) (is_number_within 0 (2 ^ 32) demand) a.0 b.0)
      where
        go : (a b : Bool) → a ≡ true → b ≡ true → ◌≡◌ {A = Result Entry MatrixFault} (if a && b then Ok (record { step = digits_from 0 step; pair = record { src = src; dst = dst }; demand = digits_from 0 demand }) else Err (fault.Number row)) (Ok (record { step = digits_from 0 step; pair = record { src = src; dst = dst }; demand = digits_from 0 demand }))
        go a b e f = rw (e, f) refl
