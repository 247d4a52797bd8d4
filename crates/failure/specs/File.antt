-- The outages that the rows of a failure file say, or the first fault.
use Rattle.std.specs.Prelude.{ℕ, ◌<◌, ◌≤◌, List, [], ◌∷◌, ◌++◌, Bool, false, not, ◌&&◌, ◌||◌, nat_lt, Result, Ok, Err, codes, if◌then◌else◌}
use Rattle.std.specs.Str.{bytes_eq}
use Rattle.csv_records.specs.Field.{is_number, digits_from}
use Rattle.csv_records.specs.Rows.{and_then, fold_table, records_of}
use Rattle.failure.specs.declared.outage.Outage.{Outage}
use Rattle.failure.specs.declared.outage.Failures.{Failures}
use Rattle.failure.specs.declared.fault.FailureFault.{FailureFault}
use Rattle.failure.specs.declared.fault.FailureFault.TheVariants as fault

-- an outage of one of so many links, from one of so many steps up to one
pub record IsOutage (links steps : ℕ) (o : Outage) : Type 0 where
  pub link : o.link < links
  pub order : o.from ≤ o.to
  pub last : o.to < steps

-- an outage of one of so many links in so many steps, or the first fault of these numbers
abbrev pub outage_within : ℕ → ℕ → ℕ → Outage → Result Outage FailureFault
outage_within links steps row o =
    if not (nat_lt o.link links) then Err (fault.NoSuchLink row)
    else if nat_lt o.to o.from || not (nat_lt o.to steps) then Err (fault.Interval row)
    else Ok o

-- what three fields say
abbrev pub outage_of_fields : ℕ → ℕ → ℕ → List ℕ → List ℕ → List ℕ → Result Outage FailureFault
outage_of_fields links steps row from to link =
    if is_number from && is_number to && is_number link
    then outage_within links steps row (record { from = digits_from 0 from; to = digits_from 0 to; link = digits_from 0 link })
    else Err (fault.Number row)

-- the same of any row
unfoldable pub outage_of : ℕ → ℕ → ℕ → List (List ℕ) → Result Outage FailureFault
outage_of links steps row (from ∷ to ∷ link ∷ []) = outage_of_fields links steps row from to link
outage_of links steps row _ = Err (fault.Fields row)

-- the outages of the rows before, and that of this row
abbrev pub with_outage_row : ℕ → ℕ → Failures → ℕ → List (List ℕ) → Result Failures FailureFault
with_outage_row links steps before row fields = and_then (λ o. Ok (record { list = before.list ++ o ∷ [] })) (outage_of links steps row fields)

abbrev pub is_failure_header : List (List ℕ) → Bool
is_failure_header (a ∷ b ∷ c ∷ []) = bytes_eq a (codes "from") && bytes_eq b (codes "to") && bytes_eq c (codes "link")
is_failure_header _ = false

-- the outages that a file says, for a network of so many links and a series of so many steps, or the first fault
abbrev pub failures_of : ℕ → ℕ → List ℕ → Result Failures FailureFault
failures_of links steps bytes = fold_table is_failure_header fault.Header (with_outage_row links steps) (record { list = [] }) (records_of bytes)
