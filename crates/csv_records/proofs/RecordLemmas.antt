-- The records of a text, one at a time.
use Rattle.std.proofs.Common.{ℕ, zero, suc, ◌+◌, ◌≤◌, ◌<◌, ◌≡◌, refl, ap, List, [], ◌∷◌, ◌++◌, length, Bool, true, false, ◌||◌, ◌==◌, Option, Some, None, arith, subst, add-one, if◌then◌else◌}
use Rattle.std.proofs.lemmas.Bool.{false≢true}
use Rattle.csv.specs.Machine.{Read, next_record, step, in_field, is_end, ends_at_end, fields_after, field_after}
use Rattle.csv.specs.Reading.{default_config, is_bom, records_from, records_next, strip_bom}
use Rattle.csv.specs.declared.parser.State.{State}
use Rattle.csv.specs.declared.parser.State.TheVariants as st
use Rattle.csv.specs.declared.parser.Action.{Action}
use Rattle.csv.specs.declared.parser.Action.TheVariants as act
use Rattle.csv_records.specs.Rest.{all_from}
use Rattle.csv_records.specs.Rows.{records_of}

-- a step that ends a record leads to a state in which the text may end
abbrev Fine : State × Action → Type 0
Fine p = is_end p.1 ≡ true → ends_at_end p.0 ≡ false

plain : (a b d : Bool) → Fine (if a then (st.StartField, act.EndField) else if b then ((if d then st.AfterCr else st.StartRecord), act.EndRecord) else (st.InField, act.Copy))
plain true b d h = absurd (false≢true h)
plain false true true h = refl
plain false true false h = refl
plain false false d h = absurd (false≢true h)

in-field : (c : ℕ) → Fine (in_field default_config c)
in-field c = plain (c == 44) ((c == 13) || (c == 10)) (c == 13)

choose : (b : Bool) (p q : State × Action) → Fine p → Fine q → Fine (if b then p else q)
choose true p q f g = f
choose false p q f g = g

start : (c : ℕ) → Fine (step default_config st.StartField c)
start c = choose (c == 34) (st.InQuoted, act.Skip) (in_field default_config c) (λ h. absurd (false≢true h)) (in-field c)

start-record : (c : ℕ) → Fine (step default_config st.StartRecord c)
start-record c = choose ((c == 13) || (c == 10)) (st.StartRecord, act.Skip) (step default_config st.StartField c) (λ h. absurd (false≢true h)) (start c)

quoted : (b : Bool) → Fine (if b then (st.AfterQuote, act.Skip) else (st.InQuoted, act.Copy))
quoted true h = absurd (false≢true h)
quoted false h = absurd (false≢true h)

comment : (b : Bool) → Fine (if b then (st.StartRecord, act.Skip) else (st.InComment, act.Skip))
comment true h = absurd (false≢true h)
comment false h = absurd (false≢true h)

ends-start : (s : State) (c : ℕ) → Fine (step default_config s c)
ends-start st.StartRecord c = start-record c
ends-start st.StartField c = start c
ends-start st.InField c = in-field c
ends-start st.InQuoted c = quoted (c == 34)
ends-start st.InEscape c = λ h. absurd (false≢true h)
ends-start st.AfterQuote c = choose (c == 34) (st.InQuoted, act.Copy) (in_field default_config c) (λ h. absurd (false≢true h)) (in-field c)
ends-start st.InComment c = comment (c == 10)
ends-start st.AfterCr c = choose (c == 10) (st.StartRecord, act.Skip) (step default_config st.StartRecord c) (λ h. absurd (false≢true h)) (start-record c)

-- how many bytes a record leaves at most
abbrev room : List ℕ → ℕ
room [] = 0
room (c ∷ rest) = length rest

room-le : (xs : List ℕ) → room xs ≤ length xs
room-le [] = omega arith
room-le (c ∷ rest) = omega arith

-- after a record the machine stands at the start of one, and fewer bytes are left
abbrev Leaves : ℕ → Read → Type 0
Leaves n p = (length p.2 ≤ n) × (ends_at_end p.1 ≡ false)

leaves-of : (b : Bool) (here : Read) (more : Option Read) (p : Read) (n : ℕ) → length here.2 ≤ n → (b ≡ true → ends_at_end here.1 ≡ false)
    → (more ≡ Some p → Leaves n p) → (if b then Some here else more) ≡ Some p → Leaves n p
leaves-of true here more p n short end go h =
    let e : here ≡ p = cc in
    subst (λ (q : Read). Leaves n q) e (short, end refl)
leaves-of false here more p n short end go h = go h

last : (b : Bool) (fields : List (List ℕ)) (p : Read) → (if b then Some (fields, st.StartRecord, []) else None) ≡ Some p → Leaves 0 p
last true fields p h =
    let here : Read = (fields, st.StartRecord, []) in
    let e : here ≡ p = cc in
    subst (λ (q : Read). Leaves 0 q) e (omega arith, refl)
last false fields p h = cc h

read-leaves : (s : State) (fields : List (List ℕ)) (field : List ℕ) (xs : List ℕ) (p : Read) → next_record default_config s fields field xs ≡ Some p → Leaves (room xs) p
unfolding next_record
read-leaves s fields field [] p h = last (ends_at_end s) (fields ++ (field ∷ [])) p h
read-leaves s fields field (c ∷ rest) p h =
    leaves-of (is_end (step default_config s c).1) (fields_after (step default_config s c).1 fields field, (step default_config s c).0, rest)
    (next_record default_config (step default_config s c).0 (fields_after (step default_config s c).1 fields field) (field_after (step default_config s c).1 c field) rest)
    p (length rest) (omega arith) (ends-start s c)
    (λ m. let r = read-leaves (step default_config s c).0 (fields_after (step default_config s c).1 fields field) (field_after (step default_config s c).1 c field) rest p m in
    let l = room-le rest in (omega arith, r.1)) h

-- a record read where a text may end takes a byte at least
read-shorter : (s : State) (xs : List ℕ) (p : Read) → ends_at_end s ≡ false → next_record default_config s [] [] xs ≡ Some p → (length p.2 < length xs) × (ends_at_end p.1 ≡ false)
unfolding next_record
read-shorter s [] p e h = absurd (cc (e, h))
read-shorter s (c ∷ rest) p e h = let r = read-leaves s [] [] (c ∷ rest) p h in (omega arith, r.1)

-- what is left of a text is the same for each count that is large enough
same-next : (n m : ℕ) (s : State) (xs : List ℕ) (o : Option Read) → next_record default_config s [] [] xs ≡ o
    → ((p : Read) → o ≡ Some p → records_from default_config n p.1 p.2 ≡ records_from default_config m p.1 p.2)
    → records_next (records_from default_config n) o ≡ records_next (records_from default_config m) o
same-next n m s xs None e go = refl
same-next n m s xs (Some p) e go = ap (λ (r : List (List (List ℕ))). p.0 ∷ r) (go p refl)

enough : (n m : ℕ) (s : State) (xs : List ℕ) → length xs < n → length xs < m → ends_at_end s ≡ false → records_from default_config n s xs ≡ records_from default_config m s xs
unfolding records_from
enough zero m s xs a b e = absurd (omega arith)
enough (suc n) zero s xs a b e = absurd (omega arith)
enough (suc n) (suc m) s xs a b e = same-next n m s xs (next_record default_config s [] [] xs) refl
    (λ p h. let r = read-shorter s xs p e h in enough n m p.1 p.2 (omega arith) (omega arith) r.1)

-- the records of a text: the next one, and then those after it
pub all-more : (s : State) (xs : List ℕ) (p : Read) → ends_at_end s ≡ false → next_record default_config s [] [] xs ≡ Some p
    → (all_from s xs ≡ p.0 ∷ all_from p.1 p.2) × (ends_at_end p.1 ≡ false)
unfolding records_from
all-more s xs p e h = let r = read-shorter s xs p e h in
    (rw (add-one, h) (ap (λ (t : List (List (List ℕ))). p.0 ∷ t) (enough (length xs) (length p.2 + 1) p.1 p.2 (omega arith) (omega arith) r.1)), r.1)

-- and none where there is no next one
pub all-end : (s : State) (xs : List ℕ) → next_record default_config s [] [] xs ≡ None → all_from s xs ≡ []
unfolding records_from
all-end s xs h = rw (add-one, h) refl

count-next : (n : ℕ) (f : State → List ℕ → List (List (List ℕ))) (o : Option Read) → ((t : State) (ys : List ℕ) → length (f t ys) ≤ n) → length (records_next f o) ≤ suc n
count-next n f None h = omega arith
count-next n f (Some p) h = omega (arith, h p.1 p.2)

-- a text has no more records than bytes, and one
pub count-records : (n : ℕ) (s : State) (xs : List ℕ) → length (records_from default_config n s xs) ≤ n
unfolding records_from
count-records zero s xs = omega arith
count-records (suc n) s xs = count-next n (records_from default_config n) (next_record default_config s [] [] xs) (count-records n)

strip-shorter : (xs : List ℕ) → length (strip_bom xs) ≤ length xs
unfolding strip_bom
strip-shorter [] = omega arith
strip-shorter (a ∷ []) = omega arith
strip-shorter (a ∷ b ∷ []) = omega arith
strip-shorter (a ∷ b ∷ c ∷ rest) = go (is_bom a b c)
  where
    go : (t : Bool) → length (if t then rest else a ∷ b ∷ c ∷ rest) ≤ length (a ∷ b ∷ c ∷ rest)
    go true = omega arith
    go false = omega arith

-- a file has no more records than bytes, and one
pub few-records : (bytes : List ℕ) → length (records_of bytes) ≤ length bytes + 1
few-records bytes = omega (arith, count-records (length (strip_bom bytes) + 1) st.StartRecord (strip_bom bytes), strip-shorter bytes)
