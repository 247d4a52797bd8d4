-- How far the greatest weight is below 2^20, and what falls with each step of the polish.
use Rattle.std.proofs.Common.{◌≡◌, ℕ, zero, suc, ◌*◌, ◌^◌, ◌<◌, ◌≤◌, List, [], ◌∷◌, length, arith, refl, slice_index}
use Rattle.ratio_certificate.specs.declared.weighting.Weighting.{Weighting}
use Rattle.ratio_certificate.specs.Polished.{ImprovesBy64th}
use Rattle.ratio_certificate.specs.Weighting.{gap_of, greatest_of, gap_of_weighting, AreDoubled}

-- no number is above the greatest
pub greatest_above : (xs : List ℕ) (k : ℕ) → k < length xs → slice_index xs k ≤ greatest_of xs
greatest_above [] k below = absurd (omega arith)
greatest_above (x ∷ xs) zero below = omega arith
greatest_above (x ∷ xs) (suc k) below = omega (arith, greatest_above xs k (omega arith))

-- where each number is below a bound, the greatest is
pub greatest_below_bound : (xs : List ℕ) (bound : ℕ) → 0 < bound → ((k : ℕ) → k < length xs → slice_index xs k < bound) → greatest_of xs < bound
greatest_below_bound [] bound some each = some
greatest_below_bound (x ∷ xs) bound some each =
    omega (arith, each 0 (omega arith), greatest_below_bound xs bound some (λ k below. each (suc k) (omega arith)))

greatest_doubles : (old new : List ℕ) → length new ≡ length old → ((h : ℕ) → h < length old → slice_index new h ≡ 2 * slice_index old h) →
    greatest_of new ≡ 2 * greatest_of old
greatest_doubles [] [] count each = refl
greatest_doubles [] (y ∷ ys) count each = absurd (omega arith)
greatest_doubles (x ∷ xs) [] count each = absurd (omega arith)
greatest_doubles (x ∷ xs) (y ∷ ys) count each =
    omega (arith, each 0 (omega arith), greatest_doubles xs ys (omega arith) (λ h below. each (suc h) (omega arith)))

-- twice the weights, all below 2^20 and one of them above 0, are nearer to 2^20
pub gap_less : (old new : List ℕ) → AreDoubled old new → 1 ≤ greatest_of old → greatest_of old < 2 ^ 20 → gap_of new < gap_of old
gap_less old new twice some small = omega (arith, greatest_doubles old new twice.count twice.each, some, small)

pub doubled_nearer : (old new : Weighting) → new.need ≤ old.need → gap_of new.weights < gap_of old.weights → gap_of_weighting new < gap_of_weighting old
doubled_nearer old new less gap = omega (arith, less, gap)

pub improved_nearer : (old new : Weighting) → ImprovesBy64th old.need new.need → gap_of_weighting new < gap_of_weighting old
improved_nearer old new better =
    let near : gap_of new.weights ≤ 2 ^ 20 = omega arith in
    let less : new.need < old.need = better.0 in
    omega (arith, near, less)
