-- Numbers and rows that are read into the places of a list, one after the other.
use Rattle.std.proofs.Common.{◌≡◌, ◌∙◌, ℕ, ◌+◌, ◌-◌, ◌<◌, ◌≤◌, List, [], ◌∷◌, ◌++◌, length, take, set, Result, Ok, Err, refl, sym, ap, arith}
use Rattle.std.specs.Prelude.{OnOk}
use Rattle.std.proofs.lemmas.List.{take_more_set, take_all}
use Rattle.cert_text.specs.declared.fault.Stop.{Stop}
use Rattle.cert_text.specs.declared.fault.Stop.TheVariants as stops
use Rattle.cert_text.specs.Place.{Place, Passes, ReadsViewed, ◌>>=◌, with_front}
use Rattle.cert_text.specs.Reading.{read_number, read_next_number, read_line_end, read_many}
use Rattle.cert_text.specs.Grammar.{read_number_line}
use Rattle.cert_text.proofs.Loop.{goes_on, is_done}

-- what holds anyway holds of what is read
pub always : {T E P : Type 0} (r : Result T E) → P → OnOk r P
always (Ok x) here = here
always (Err e) here = tt

-- one item more stands in its place
pub goes_on_in : {X : Type 0} (item : Place → Result (X × Place) ℕ) (xs ys : List X) (count i : ℕ) (p : Place) (x : X) (after : Place) (total : Result (List X × Place) ℕ) →
    i < count → i < length xs → ys ≡ set xs i x → item p ≡ Ok (x, after) →
    with_front (take i xs) (read_many (count - i) item p) ≡ total → with_front (take (i + 1) ys) (read_many (count - (i + 1)) item after) ≡ total
goes_on_in item xs ys count i p x after total lt inside is read so_far =
    ap (λ f. with_front f (read_many (count - (i + 1)) item after)) (ap (take (i + 1)) is ∙ take_more_set xs i x inside)
    ∙ goes_on item (take i xs) count i p x after total lt read so_far

-- all items stand in their places
pub is_done_in : {X : Type 0} (item : Place → Result (X × Place) ℕ) (xs : List X) (count i : ℕ) (p : Place) (total : Result (List X × Place) ℕ) →
    count ≤ i → length xs ≡ count → with_front (take i xs) (read_many (count - i) item p) ≡ total → total ≡ Ok (xs, p)
is_done_in {X} item xs count i p total le size so_far =
    is_done item (take i xs) count i p total le so_far ∙ ap (λ (ys : List X). Ok (ys, p)) (take_all i xs (omega (arith, le, size)))

-- nothing stands before what is read
pub none_before : {X : Type 0} (read : Result (List X × Place) ℕ) → with_front [] read ≡ read
none_before (Ok x) = refl
none_before (Err k) = refl

-- what is read behind a front
behind_front : {X : Type 0} (front new : List X) (q : Place) (read : Result (List X × Place) ℕ) → with_front front read ≡ Ok (new, q) →
    (others : List X) × (read ≡ Ok (others, q)) × (front ++ others ≡ new)
behind_front {X} front new q (Ok x) e = (x.0, ap (λ (p : Place). Ok (x.0, p)) (ap place_of e), ap items_of e)
  where
    items_of : Result (List X × Place) ℕ → List X
    items_of (Ok y) = y.0
    items_of (Err k) = []

    place_of : Result (List X × Place) ℕ → Place
    place_of (Ok y) = y.1
    place_of (Err k) = q
behind_front front new q (Err k) e = absurd cc

-- the end of the line comes last
pub ended_as : {X : Type 0} (x : X) (r : Result (Unit {0}) Stop) (after : Place) (read : Result Place ℕ) (whole : Result (X × Place) ℕ) →
    whole ≡ (read >>= λ e. Ok (x, e)) → Passes r after read → ReadsViewed (λ _. x) r after whole
ended_as {X} x (Ok u) after read whole is passes = is ∙ ap (λ (t : Result Place ℕ). t >>= λ e. Ok (x, e)) passes
ended_as x (Err stops.Memory) after read whole is passes = tt
ended_as {X} x (Err (stops.Shape k)) after read whole is passes = is ∙ ap (λ (t : Result Place ℕ). t >>= λ e. Ok (x, e)) passes

pub first_in_place : (xs ys : List ℕ) (x : ℕ) → 1 ≤ length xs → ys ≡ set xs 0 x → take 1 ys ≡ x ∷ []
first_in_place xs ys x some is = ap (take 1) is ∙ take_more_set xs 0 x (omega (arith, some))

pub number_line_in : (n m first : ℕ) (p0 p1 p2 : Place) (front new : List ℕ) (r : Result (Unit {0}) Stop) (after : Place) →
    m ≡ n → read_number p0 ≡ Ok (first, p1) → front ≡ first ∷ [] → with_front front (read_many (m - 1) read_next_number p1) ≡ Ok (new, p2) →
    Passes r after (read_line_end p2) →
    ReadsViewed (λ _. new) r after (read_number_line n p0)
unfolding read_number_line
number_line_in n m first p0 p1 p2 front new r after same one is others passes =
    let rest = behind_front (first ∷ []) new p2 (read_many (n - 1) read_next_number p1)
    (ap (λ k. with_front (first ∷ []) (read_many (k - 1) read_next_number p1)) (sym same) ∙ ap (λ f. with_front f (read_many (m - 1) read_next_number p1)) (sym is) ∙ others) in
    ended_as new r after (read_line_end p2) (read_number_line n p0)
    (ap (λ (t : Result (ℕ × Place) ℕ). t >>= λ first. read_many (n - 1) read_next_number first.1 >>= λ others. read_line_end others.1 >>= λ e. Ok (first.0 ∷ others.0, e)) one
    ∙ ap (λ (t : Result (List ℕ × Place) ℕ). t >>= λ others. read_line_end others.1 >>= λ e. Ok (first ∷ others.0, e)) rest.1
    ∙ ap (λ (ns : List ℕ). read_line_end p2 >>= λ e. Ok (ns, e)) rest.2) passes
