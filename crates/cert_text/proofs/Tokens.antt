-- The steps of reading, one by one: what each takes is its text, and its text is read again.
use Rattle.std.proofs.Common.{◌≡◌, ℕ, zero, suc, ◌+◌, Bool, true, false, ◌&&◌, cond, List, [], ◌∷◌, ◌++◌, length, Result, Ok, Err, refl, sym, ap, subst, ◌∙◌, eqb, eq-eqb, append_assoc}
use Rattle.std.specs.Prelude.{nat_le}
use Rattle.std.specs.Fmt.{decimal}
use Rattle.std.specs.List.{flat_map, AllByRecursion}
use Rattle.std.proofs.lemmas.Bool.{eqb-true}
use Rattle.te_model.specs.Shape.{is_count}
use Rattle.cert_text.specs.Place.{Place, place, ◌>>=◌}
use Rattle.cert_text.specs.Reading.{byte_from, read_byte, read_word, read_line_end, read_number, read_count, read_narrow, read_next_number, read_next_narrow, read_next_count, read_many}
use Rattle.cert_text.specs.Fits.{IsWord}
use Rattle.cert_text.specs.Pieces.{with_space}
use Rattle.cert_text.proofs.Decimals.{bind_ok, where_ok, ok_is, number_takes, number_again, begins_with_digit}

-- all of a number is kept
abbrev pub exact : ℕ → ℕ
exact n = n

byte_tested : (k b x : ℕ) (xs : List ℕ) (q : Place) (t : Bool) → eqb x b ≡ t → cond t (Ok (place k xs)) (Err k) ≡ Ok q → (x ∷ xs) ≡ b ∷ q.rest
byte_tested k b x xs q false is e = absurd cc
byte_tested k b x xs q true is e =
    let same : x ≡ b = eqb-true x b is in
    let at : place k xs ≡ q = ok_is (place k xs) q e in
    ap (λ (y : ℕ). y ∷ xs) same ∙ ap (λ (y : Place). b ∷ y.rest) at

byte_taken : (k b : ℕ) (bs : List ℕ) (q : Place) → byte_from k b bs ≡ Ok q → bs ≡ b ∷ q.rest
byte_taken k b [] q e = absurd cc
byte_taken k b (x ∷ xs) q e = byte_tested k b x xs q (eqb x b) refl e

pub byte_takes : (b : ℕ) (p q : Place) → read_byte b p ≡ Ok q → p.rest ≡ (b ∷ []) ++ q.rest
byte_takes b p q e = byte_taken p.line b p.rest q e

pub byte_again : (b k : ℕ) (r : List ℕ) → read_byte b (place k (b ∷ r)) ≡ Ok (place k r)
byte_again b k r = rw (eq-eqb b b refl) refl

pub word_takes : (w : List ℕ) (p q : Place) → read_word w p ≡ Ok q → p.rest ≡ w ++ q.rest
word_takes [] p q e = ap (λ (y : Place). y.rest) (ok_is p q e)
word_takes (b ∷ bs) p q e =
    let a = bind_ok (read_byte b p) (read_word bs) q e in
    byte_takes b p a.0 a.1 ∙ ap (λ (x : List ℕ). b ∷ x) (word_takes bs a.0 q a.2)

pub word_again : (w : List ℕ) (k : ℕ) (r : List ℕ) → read_word w (place k (w ++ r)) ≡ Ok (place k r)
word_again [] k r = refl
word_again (b ∷ bs) k r = rw (byte_again b k (bs ++ r)) (word_again bs k r)

pub line_end_takes : (p q : Place) → read_line_end p ≡ Ok q → p.rest ≡ (10 ∷ []) ++ q.rest
line_end_takes p q e =
    let a = bind_ok (read_byte 10 p) (λ x. Ok (place (x.line + 1) x.rest)) q e in
    byte_takes 10 p a.0 a.1 ∙ ap (λ (y : Place). 10 ∷ y.rest) (ok_is (place (a.0.line + 1) a.0.rest) q a.2)

pub line_end_again : (k : ℕ) (r : List ℕ) → read_line_end (place k (10 ∷ r)) ≡ Ok (place (k + 1) r)
line_end_again k r = refl

-- what a reader of a value takes from the front: its text, of a value that fits
pub record Took {X : Type 0} (text : X → List ℕ) (fits : X → Type 0) (p : Place) (x : X) (q : Place) : Type 0 where
  pub parts : p.rest ≡ text x ++ q.rest
  pub good : fits x

pub word_takes_number : (p : Place) (n : ℕ) (q : Place) → read_number p ≡ Ok (n, q) → Took decimal IsWord p n q
word_takes_number p n q e = let t = number_takes p n q e in record { parts = t.parts; good = t.small }

pub narrow_takes : (p : Place) (n : ℕ) (q : Place) → read_narrow exact p ≡ Ok (n, q) → Took decimal IsWord p n q
unfolding read_narrow
narrow_takes p n q e =
    let a = bind_ok (read_number p) (λ x. Ok (x.0, x.1)) (n, q) e in
    word_takes_number p n q (a.1 ∙ a.2)

pub narrow_again : (k n : ℕ) (r : List ℕ) → IsWord n → begins_with_digit r ≡ false → read_narrow exact (place k (decimal n ++ r)) ≡ Ok (n, place k r)
unfolding read_narrow
narrow_again k n r small stop = rw (number_again k n r small stop) refl

abbrev pub IsCount : ℕ → ℕ → ℕ → Type 0
IsCount low high n = is_count low high n ≡ true

pub count_takes : (low high : ℕ) (p : Place) (n : ℕ) (q : Place) → read_count low high p ≡ Ok (n, q) → Took decimal (IsCount low high) p n q
unfolding read_count
count_takes low high p n q e =
    let a = bind_ok (read_number p) (λ x. cond (nat_le low x.0 && nat_le x.0 high) (Ok x) (Err x.1.line)) (n, q) e in
    let g = where_ok (nat_le low a.0.0 && nat_le a.0.0 high) a.0.1.line a.0 (n, q) a.2 in
    let t = number_takes p a.0.0 a.0.1 a.1 in
    subst (λ (y : ℕ × Place). Took decimal (IsCount low high) p y.0 y.1) g.1 (record { parts = t.parts; good = g.0 })

pub count_again : (low high k n : ℕ) (r : List ℕ) → IsCount low high n → IsWord n → begins_with_digit r ≡ false → read_count low high (place k (decimal n ++ r)) ≡ Ok (n, place k r)
unfolding read_count
count_again low high k n r within small stop = rw (number_again k n r small stop, within) refl

pub next_number_takes : (p : Place) (n : ℕ) (q : Place) → read_next_number p ≡ Ok (n, q) → Took with_space IsWord p n q
unfolding read_next_number
next_number_takes p n q e =
    let a = bind_ok (read_byte 32 p) read_number (n, q) e in
    let t = number_takes a.0 n q a.2 in
    record { parts = byte_takes 32 p a.0 a.1 ∙ ap (λ (x : List ℕ). 32 ∷ x) t.parts; good = t.small }

pub next_number_again : (k n : ℕ) (r : List ℕ) → IsWord n → begins_with_digit r ≡ false → read_next_number (place k (with_space n ++ r)) ≡ Ok (n, place k r)
unfolding read_next_number
next_number_again k n r small stop = number_again k n r small stop

pub next_narrow_takes : (p : Place) (n : ℕ) (q : Place) → read_next_narrow exact p ≡ Ok (n, q) → Took with_space IsWord p n q
unfolding read_next_narrow
next_narrow_takes p n q e =
    let a = bind_ok (read_byte 32 p) (read_narrow exact) (n, q) e in
    let t = narrow_takes a.0 n q a.2 in
    record { parts = byte_takes 32 p a.0 a.1 ∙ ap (λ (x : List ℕ). 32 ∷ x) t.parts; good = t.good }

pub next_narrow_again : (k n : ℕ) (r : List ℕ) → IsWord n → begins_with_digit r ≡ false → read_next_narrow exact (place k (with_space n ++ r)) ≡ Ok (n, place k r)
unfolding read_next_narrow
next_narrow_again k n r small stop = narrow_again k n r small stop

pub next_count_takes : (low high : ℕ) (p : Place) (n : ℕ) (q : Place) → read_next_count low high p ≡ Ok (n, q) → Took with_space (IsCount low high) p n q
unfolding read_next_count
next_count_takes low high p n q e =
    let a = bind_ok (read_byte 32 p) (read_count low high) (n, q) e in
    let t = count_takes low high a.0 n q a.2 in
    record { parts = byte_takes 32 p a.0 a.1 ∙ ap (λ (x : List ℕ). 32 ∷ x) t.parts; good = t.good }

pub next_count_again : (low high k n : ℕ) (r : List ℕ) → IsCount low high n → IsWord n → begins_with_digit r ≡ false → read_next_count low high (place k (with_space n ++ r)) ≡ Ok (n, place k r)
unfolding read_next_count
next_count_again low high k n r within small stop = count_again low high k n r within small stop

-- ---- items one after the other

pub many_takes : {X : Type 0} (item : Place → Result (X × Place) ℕ) (text : X → List ℕ) (fits : X → Type 0)
    → ((p : Place) (x : X) (q : Place) → item p ≡ Ok (x, q) → Took text fits p x q)
    → (n : ℕ) (p : Place) (xs : List X) (q : Place) → read_many n item p ≡ Ok (xs, q)
    → (p.rest ≡ flat_map text xs ++ q.rest) × (length xs ≡ n) × AllByRecursion fits xs
unfolding read_many
many_takes {X} item text fits takes zero p xs q e =
    subst (λ (y : List X × Place). (p.rest ≡ flat_map text y.0 ++ y.1.rest) × (length y.0 ≡ 0) × AllByRecursion fits y.0)
    (ok_is {A = List X × Place} ([], p) (xs, q) e) (refl, refl, tt)
many_takes {X} item text fits takes (suc n) p xs q e =
    let a = bind_ok (item p) (λ first. read_many n item first.1 >>= λ others. Ok (first.0 ∷ others.0, others.1)) (xs, q) e in
    let b = bind_ok (read_many n item a.0.1) (λ others. Ok (a.0.0 ∷ others.0, others.1)) (xs, q) a.2 in
    let one = takes p a.0.0 a.0.1 a.1 in
    let more = many_takes item text fits takes n a.0.1 b.0.0 b.0.1 b.1 in
    let joined : p.rest ≡ flat_map text (a.0.0 ∷ b.0.0) ++ b.0.1.rest =
    one.parts ∙ ap (λ (r : List ℕ). text a.0.0 ++ r) more.0 ∙ sym (append_assoc (text a.0.0) (flat_map text b.0.0) b.0.1.rest) in
    subst (λ (y : List X × Place). (p.rest ≡ flat_map text y.0 ++ y.1.rest) × (length y.0 ≡ suc n) × AllByRecursion fits y.0)
    (ok_is {A = List X × Place} (a.0.0 ∷ b.0.0, b.0.1) (xs, q) b.2) (joined, ap suc more.1, (one.good, more.2))

-- A value that fits is read again where its text stands and what follows may follow it.
abbrev pub Again : {X : Type 0} → (Place → Result (X × Place) ℕ) → List ℕ → X → List ℕ → ℕ → Type 0
Again item text x r k = (m : ℕ) × (item (place k (text ++ r)) ≡ Ok (x, place m r))

pub many_again : {X : Type 0} (item : Place → Result (X × Place) ℕ) (text : X → List ℕ) (fits : X → Type 0) (may_follow : List ℕ → Type 0)
    → ((x : X) (r : List ℕ) → may_follow (text x ++ r))
    → ((x : X) (k : ℕ) (r : List ℕ) → fits x → may_follow r → Again item (text x) x r k)
    → (xs : List X) (k : ℕ) (r : List ℕ) → AllByRecursion fits xs → may_follow r → Again (read_many (length xs) item) (flat_map text xs) xs r k
unfolding read_many
many_again item text fits may_follow starts again [] k r all follows = (k, refl)
many_again {X} item text fits may_follow starts again (x ∷ xs) k r all follows =
    let next = follow xs in
    let one = again x k (flat_map text xs ++ r) all.0 next in
    let more = many_again item text fits may_follow starts again xs one.0 r all.1 follows in
    (more.0, ap (λ (bs : List ℕ). read_many (suc (length xs)) item (place k bs)) (append_assoc (text x) (flat_map text xs) r) ∙ rw (one.1, more.1) refl)
  where
    follow : (ys : List X) → may_follow (flat_map text ys ++ r)
    follow [] = follows
    follow (y ∷ ys) = subst may_follow (sym (append_assoc (text y) (flat_map text ys) r)) (starts y (flat_map text ys ++ r))
