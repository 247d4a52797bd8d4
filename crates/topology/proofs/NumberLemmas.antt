-- What a name's number is.
use Rattle.std.proofs.Common.{ℕ, zero, suc, ◌+◌, ◌≤◌, ◌<◌, ◌≡◌, ◌≢◌, ◌∙◌, refl, sym, List, [], ◌∷◌, ◌++◌, length, get_or, Bool, true, false, not, cond, arith, All, length-append, one-add, inl, inr, nat_lt, rules, if◌then◌else◌}
use Rattle.std.proofs.lemmas.Bool.{false≢true, cases_Bool, or_parts}
use Rattle.std.proofs.lemmas.List.{get_or_append_left}
use Rattle.std.proofs.lemmas.List.Elements.{All-append}
use Rattle.std.proofs.Math.Seq.{get_or-append_seam}
use Rattle.std.proofs.lemmas.Slice.Eq.{bytes_eq-Decides}
use Rattle.std.specs.Str.{bytes_eq}
use Rattle.std.specs.List.{list_any}
use Rattle.std.proofs.lemmas.Bool.Decides.{nat_tests}
use Rattle.te_model.specs.Network.{is_name}
use Rattle.topology.proofs.WellFormed.{AreDistinct}
use Rattle.topology.specs.Numbering.{with_name, number_in}

head-or : (b : Bool) (k : ℕ) (x n : List ℕ) (xs : List (List ℕ)) → (b ≡ true → x ≡ n) → (b ≡ false → (k < length xs) × (get_or xs k [] ≡ n))
    → (cond (not b) (1 + k) 0 < suc (length xs)) × (get_or (x ∷ xs) (cond (not b) (1 + k) 0) [] ≡ n)
head-or true k x n xs f g = (omega arith, f refl)
head-or false k x n xs f g = let (low, at) = g refl in (omega arith, rw one-add at)

-- the number of a name that is there
pub there : (n : List ℕ) (names : List (List ℕ)) → list_any (bytes_eq n) names ≡ true → (number_in names n < length names) × (get_or names (number_in names n) [] ≡ n)
there n [] h = absurd (false≢true h)
there n (x ∷ xs) h = head-or (bytes_eq n x) (number_in xs n) x n xs (λ e. sym ((bytes_eq-Decides n x).0 e)) (λ e. there n xs (rw e at h))

past : (b : Bool) (k m : ℕ) → b ≡ false → k ≡ m → cond (not b) (1 + k) 0 ≡ suc m
past b k m e f = rw (e, f) (one-add m)

not-head : (n x : List ℕ) (xs : List (List ℕ)) → bytes_eq n x ≡ false → ((i : ℕ) → i < length xs → get_or xs i [] ≢ n) → (i : ℕ) → i < suc (length xs) → get_or (x ∷ xs) i [] ≢ n
not-head n x xs e go zero l = λ same. false≢true (sym e ∙ (bytes_eq-Decides n x).1 (sym same))
not-head n x xs e go (suc i) l = go i (omega arith)

-- and of one that is not
pub absent : (n : List ℕ) (names : List (List ℕ)) → list_any (bytes_eq n) names ≡ false → (number_in names n ≡ length names) × ((i : ℕ) → i < length names → get_or names i [] ≢ n)
absent n [] h = (refl, λ i l. absurd (omega arith))
absent n (x ∷ xs) h =
    let (first, rest) = or_parts (bytes_eq n x) (list_any (bytes_eq n) xs) h in
    let (count, none) = absent n xs rest in
    (past (bytes_eq n x) (number_in xs n) (length xs) first count, not-head n x xs first none)

-- what a name does to the names before it
pub record Named (names : List (List ℕ)) (n : List ℕ) (i : ℕ) (more : List (List ℕ)) : Type 0 where
  pub low : i < length more
  pub at : get_or more i [] ≡ n
  pub grows : length names ≤ length more
  pub kept : (k : ℕ) → k < length names → get_or more k [] ≡ get_or names k []
  pub distinct : AreDistinct names → AreDistinct more
  pub spelled : All (λ m. is_name m ≡ true) names → is_name n ≡ true → All (λ m. is_name m ≡ true) more

distinct-push : (names : List (List ℕ)) (n : List ℕ) → ((i : ℕ) → i < length names → get_or names i [] ≢ n) → AreDistinct names → AreDistinct (names ++ n ∷ [])
distinct-push names n new d i j low high = elim (cases_Bool (nat_lt j (length names))) [
  | inl inside ↦
      let at_j : j < length names = grind (arith, nat_tests) in
      let at_i : i < length names = omega arith in
      λ same. d i j low at_j (sym (get_or_append_left names (n ∷ []) [] i at_i) ∙ same ∙ get_or_append_left names (n ∷ []) [] j at_j)
  | inr outside ↦
      let at_j : j ≡ length names = (let out : length names ≤ j = grind (arith, nat_tests) in omega (arith, length-append names (n ∷ []))) in
      let at_i : i < length names = omega arith in
      λ same. new i at_i (sym (get_or_append_left names (n ∷ []) [] i at_i) ∙ same ∙ rw at_j (get_or-append_seam names n [] []))
]

All-one : (n : List ℕ) → is_name n ≡ true → All (λ m. is_name m ≡ true) (n ∷ [])
All-one n p = search (rules, p)

by-test : (names : List (List ℕ)) (n : List ℕ) (b : Bool) → list_any (bytes_eq n) names ≡ b → Named names n (number_in names n) (if b then names else names ++ n ∷ [])
by-test names n true e =
    let (low, at) = there n names e in
    record { low = low; at = at; grows = omega arith; kept = λ k l. refl; distinct = λ d. d; spelled = λ a p. a }
by-test names n false e =
    let (count, none) = absent n names e in
    record {
      low = rw count (omega (arith, length-append names (n ∷ [])));
      at = rw count (get_or-append_seam names n [] []);
      grows = omega (arith, length-append names (n ∷ []));
      kept = λ k l. get_or_append_left names (n ∷ []) [] k l;
      distinct = distinct-push names n none;
      spelled = λ a p. All-append (λ m. is_name m ≡ true) names (n ∷ []) a (All-one n p);
    }

pub named : (names : List (List ℕ)) (n : List ℕ) → Named names n (number_in names n) (with_name names n)
named names n = by-test names n (list_any (bytes_eq n) names) refl
