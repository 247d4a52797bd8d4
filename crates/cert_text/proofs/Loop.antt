-- Reading items one after the other, as a loop does.
use Rattle.std.proofs.Common.{◌≡◌, ℕ, suc, ◌-◌, ◌+◌, ◌≤◌, ◌<◌, List, [], ◌∷◌, ◌++◌, Result, Ok, Err, refl, sym, ap, ◌∙◌, append_assoc, arith, length-append, subst}
use Rattle.std.proofs.lemmas.List.{append-nil}
use Rattle.std.specs.List.{AllByRecursion}
use Rattle.cert_text.specs.Listed.{IsListOf}
use Rattle.cert_text.specs.declared.fault.Stop.{Stop}
use Rattle.cert_text.specs.declared.fault.Stop.TheVariants as stops
use Rattle.cert_text.specs.Place.{Place, Stops, ◌>>=◌, with_front}
use Rattle.cert_text.specs.Reading.{read_many}

regroup : {X : Type 0} (front : List X) (n : X) (read : Result (List X × Place) ℕ) → with_front front (read >>= λ x. Ok (n ∷ x.0, x.1)) ≡ with_front (front ++ n ∷ []) read
regroup {X} front n (Ok x) = ap (λ (ns : List X). Ok (ns, x.1)) (simp append_assoc)
regroup front n (Err f) = refl

one_more : {X : Type 0} (item : Place → Result (X × Place) ℕ) (front : List X) (count i : ℕ) (p : Place) (n : X) (after : Place) → i < count → item p ≡ Ok (n, after)
    → with_front front (read_many (count - i) item p) ≡ with_front (front ++ n ∷ []) (read_many (count - (i + 1)) item after)
unfolding read_many
one_more item front count i p n after lt h =
    let k : count - i ≡ suc (count - (i + 1)) = omega arith in
    rw (k, h) (regroup front n (read_many (count - (i + 1)) item after))

pub goes_on : {X : Type 0} (item : Place → Result (X × Place) ℕ) (front : List X) (count i : ℕ) (p : Place) (n : X) (after : Place) (total : Result (List X × Place) ℕ) → i < count → item p ≡ Ok (n, after)
    → with_front front (read_many (count - i) item p) ≡ total → with_front (front ++ n ∷ []) (read_many (count - (i + 1)) item after) ≡ total
goes_on item front count i p n after total lt h so_far = sym (one_more item front count i p n after lt h) ∙ so_far

pub ends : {X : Type 0} (item : Place → Result (X × Place) ℕ) (e : Stop) (front : List X) (count i : ℕ) (p : Place) (total : Result (List X × Place) ℕ) → i < count → Stops e (item p)
    → with_front front (read_many (count - i) item p) ≡ total → Stops e total
unfolding read_many
ends item stops.Memory front count i p total lt h so_far = tt
ends {X} item (stops.Shape f) front count i p total lt h so_far =
    let k : count - i ≡ suc (count - (i + 1)) = omega arith in
    let one : with_front front (read_many (count - i) item p) ≡ Err f = rw (k, h) refl in
    sym so_far ∙ one

err_below : {X : Type 0} (front : List X) (read : Result (List X × Place) ℕ) (k : ℕ) → with_front front read ≡ Err k → read ≡ Err k
err_below front (Ok x) k e = absurd cc
err_below front (Err f) k e = cc

pub stops_below : {X : Type 0} (e : Stop) (front : List X) (read : Result (List X × Place) ℕ) → Stops e (with_front front read) → Stops e read
stops_below stops.Memory front read h = tt
stops_below (stops.Shape k) front read h = err_below front read k h

pub is_done : {X : Type 0} (item : Place → Result (X × Place) ℕ) (front : List X) (count i : ℕ) (p : Place) (total : Result (List X × Place) ℕ) → count ≤ i → with_front front (read_many (count - i) item p) ≡ total → total ≡ Ok (front, p)
unfolding read_many
is_done {X} item front count i p total le so_far =
    let k : count - i ≡ 0 = omega arith in
    let one : with_front front (read_many (count - i) item p) ≡ Ok (front, p) = rw k (ap (λ (ns : List X). Ok (ns, p)) (append-nil front)) in
    sym so_far ∙ one

pub all_more : {X : Type 0} (P : X → Type 0) (xs : List X) (x : X) → AllByRecursion P xs → P x → AllByRecursion P (xs ++ x ∷ [])
all_more P [] x all here = (here, tt)
all_more P (y ∷ ys) x all here = (all.0, all_more P ys x all.1 here)

pub listed_more : {X : Type 0} (P : X → Type 0) (xs : List X) (x : X) (i : ℕ) → IsListOf i P xs → P x → IsListOf (i + 1) P (xs ++ x ∷ [])
listed_more P xs x i listed here =
    record { count = simp (length-append) (omega (arith, listed.count)); each = all_more P xs x listed.each here }

pub listed_all : {X : Type 0} (P : X → Type 0) (xs : List X) (i n : ℕ) → IsListOf i P xs → i ≡ n → IsListOf n P xs
listed_all P xs i n listed same = subst (λ (k : ℕ). IsListOf k P xs) same listed
