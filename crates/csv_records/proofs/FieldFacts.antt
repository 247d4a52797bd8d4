-- The fields of a record.
use Rattle.std.proofs.Common.{ℕ, ◌<◌, ◌≡◌, ◌≢◌, List, [], ◌∷◌, length, Option, Some, None, IfNone, IfSome, arith, Bool, true, false, refl}
use Rattle.std.specs.Prelude.{◌&&◌, ◌≤◌, nat_le, if◌then◌else◌}
use Rattle.std.proofs.lemmas.Bool.{and_parts, leb-true}
use Rattle.csv.specs.Records.{field_at}
use Rattle.csv.proofs.RecordFacts.{field-there}
use Rattle.csv_records.specs.Field.{digits_from, is_number, is_number_within}

pub none-of : {T : Type 0} (r : Option T) (P : Type 0) → P → IfNone r P
none-of None P p = p
none-of (Some x) P p = tt

pub nothing : {T : Type 0} (r : Option T) (P : T → Type 0) → r ≡ None → IfSome r P
nothing None P e = tt
nothing (Some x) P e = absurd (cc e)

-- a record with no field at a place below n has not n fields
pub absent : (xs : List (List ℕ)) (i n : ℕ) → i < n → field_at xs i ≡ None → length xs ≢ n
absent xs i n low e same = field-there xs i (omega arith) e

-- a record of three fields
pub three : (xs : List (List ℕ)) (a b c : List ℕ) → length xs ≡ 3 → Some a ≡ field_at xs 0 → Some b ≡ field_at xs 1 → Some c ≡ field_at xs 2 → xs ≡ a ∷ b ∷ c ∷ []
unfolding field_at
three [] a b c n e f g = absurd (omega arith)
three (p ∷ []) a b c n e f g = absurd (omega arith)
three (p ∷ q ∷ []) a b c n e f g = absurd (omega arith)
three (p ∷ q ∷ r ∷ []) a b c n e f g = cc
three (p ∷ q ∷ r ∷ s ∷ more) a b c n e f g = absurd (omega arith)

-- a record of four fields
pub four : (xs : List (List ℕ)) (a b c d : List ℕ) → length xs ≡ 4 → Some a ≡ field_at xs 0 → Some b ≡ field_at xs 1 → Some c ≡ field_at xs 2 → Some d ≡ field_at xs 3 → xs ≡ a ∷ b ∷ c ∷ d ∷ []
unfolding field_at
four [] a b c d n e f g h = absurd (omega arith)
four (p ∷ []) a b c d n e f g h = absurd (omega arith)
four (p ∷ q ∷ []) a b c d n e f g h = absurd (omega arith)
four (p ∷ q ∷ r ∷ []) a b c d n e f g h = absurd (omega arith)
four (p ∷ q ∷ r ∷ s ∷ []) a b c d n e f g h = cc
four (p ∷ q ∷ r ∷ s ∷ t ∷ more) a b c d n e f g h = absurd (omega arith)

-- a number within bounds lies between them
pub within-bounds : (low high : ℕ) (field : List ℕ) → is_number_within low high field ≡ true → (low ≤ digits_from 0 field) × (digits_from 0 field ≤ high)
within-bounds low high field h =
    let (front, below) = and_parts (is_number field && nat_le low (digits_from 0 field)) (nat_le (digits_from 0 field) high) h in
    let (number, above) = and_parts (is_number field) (nat_le low (digits_from 0 field)) front in
    (leb-true low (digits_from 0 field) above, leb-true (digits_from 0 field) high below)

-- what `number_within` says of its test
pub number-some : (b : Bool) (n v : ℕ) → Some v ≡ (if b then Some n else None) → (b ≡ true) × (v ≡ n)
number-some true n v e = (refl, cc e)
number-some false n v e = cc e

pub number-none : (b : Bool) (n : ℕ) → None ≡ (if b then Some n else None) → b ≡ false
number-none true n e = cc e
number-none false n e = refl
