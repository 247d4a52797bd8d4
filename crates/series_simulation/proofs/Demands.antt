-- The demands of those that pass a test, of pairs or of the routes of pairs.
use Rattle.std.proofs.Common.{◌≡◌, ℕ, ◌+◌, ◌^◌, ◌<◌, ◌≤◌, Bool, true, false, List, [], ◌∷◌, ◌++◌, length, take, filter, get_or, All, arith, refl, ap, sym, ◌∙◌, if◌then◌else◌}
use Rattle.std.proofs.lemmas.List.{length-take-le, take_more}
use Rattle.std.proofs.lemmas.List.Elements.{All-nil, All-cons, All-head, All-tail}
use Rattle.routing.specs.Routes.{AreDemands}
use Rattle.series_simulation.specs.Connected.{demands_of}

-- the demand of one pair, if it passes
abbrev pub one_demand : Bool → ℕ → List ℕ
one_demand passes d = if passes then d ∷ [] else []

demands_push : {A : Type 0} (test : A → Bool) (ps : List A) (ds : List ℕ) (p : A) (d : ℕ) → length ds ≡ length ps →
    demands_of test (ps ++ p ∷ []) (ds ++ d ∷ []) ≡ demands_of test ps ds ++ one_demand (test p) d
demands_push test [] [] p d same = refl
demands_push test [] (e ∷ ds) p d same = cc
demands_push test (q ∷ ps) [] p d same = cc
demands_push test (q ∷ ps) (e ∷ ds) p d same = go (test q) (demands_push test ps ds p d (omega arith))
  where
    go : (b : Bool) → demands_of test (ps ++ p ∷ []) (ds ++ d ∷ []) ≡ demands_of test ps ds ++ one_demand (test p) d →
        (if b then e ∷ demands_of test (ps ++ p ∷ []) (ds ++ d ∷ []) else demands_of test (ps ++ p ∷ []) (ds ++ d ∷ []))
        ≡ (if b then e ∷ demands_of test ps ds else demands_of test ps ds) ++ one_demand (test p) d
    go true is = ap (λ xs. e ∷ xs) is
    go false is = is

-- one pair more
pub demands_more : {A : Type 0} (test : A → Bool) (none : A) (pairs : List A) (demand : List ℕ) (i : ℕ) → i < length pairs → length demand ≡ length pairs →
    demands_of test (take (i + 1) pairs) (take (i + 1) demand)
    ≡ demands_of test (take i pairs) (take i demand) ++ one_demand (test (get_or pairs i none)) (get_or demand i 0)
demands_more test none pairs demand i below same =
    ap (λ ps. demands_of test ps (take (i + 1) demand)) (take_more pairs i none below)
    ∙ (ap (λ ds. demands_of test (take i pairs ++ get_or pairs i none ∷ []) ds) (take_more demand i 0 (omega (arith, below, same)))
    ∙ demands_push test (take i pairs) (take i demand) (get_or pairs i none) (get_or demand i 0)
    (length-take-le i demand (omega (arith, below, same)) ∙ sym (length-take-le i pairs (omega (arith, below)))))

pub demands_count : {A : Type 0} (test : A → Bool) (pairs : List A) (demand : List ℕ) → length demand ≡ length pairs →
    length (demands_of test pairs demand) ≡ length (filter test pairs)
demands_count test [] demand same = refl
demands_count test (p ∷ ps) [] same = cc
demands_count test (p ∷ ps) (d ∷ ds) same = go (test p) (demands_count test ps ds (omega arith))
  where
    go : (b : Bool) → length (demands_of test ps ds) ≡ length (filter test ps) →
        length (if b then d ∷ demands_of test ps ds else demands_of test ps ds) ≡ length (if b then p ∷ filter test ps else filter test ps)
    go true is = omega (arith, is)
    go false is = is

demands_all : {A : Type 0} (P : ℕ → Type 0) (test : A → Bool) (pairs : List A) (demand : List ℕ) → All P demand → All P (demands_of test pairs demand)
demands_all P test [] demand all = All-nil P
demands_all P test (p ∷ ps) [] all = All-nil P
demands_all P test (p ∷ ps) (d ∷ ds) all = go (test p) (demands_all P test ps ds (All-tail P d ds all))
  where
    go : (b : Bool) → All P (demands_of test ps ds) → All P (if b then d ∷ demands_of test ps ds else demands_of test ps ds)
    go true is = All-cons P d (demands_of test ps ds) (All-head P d ds all) is
    go false is = is

-- one demand for each of the pairs that pass
pub demands_are : {A : Type 0} (test : A → Bool) (pairs : List A) (demand : List ℕ) → AreDemands (length pairs) demand →
    AreDemands (length (filter test pairs)) (demands_of test pairs demand)
demands_are test pairs demand are = record {
  count = demands_count test pairs demand are.count;
  small = demands_all (λ d. d ≤ 2 ^ 32) test pairs demand are.small;
}
