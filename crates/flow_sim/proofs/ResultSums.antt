-- The sums of results, one pair after the other.
use Rattle.std.proofs.Common.{◌≡◌, ℕ, ◌+◌, ◌<◌, ◌^◌, List, length, take, sum_by, arith, refl, ap, sym, ◌∙◌}
use Rattle.std.specs.Prelude.{slice_index_or}
use Rattle.std.proofs.lemmas.List.Sums.{sum_by_more, sum_by_more_le}
use Rattle.flow_sim.specs.declared.result.PairResult.{PairResult}
use Rattle.flow_sim.specs.Result.{sum_of_results, sums_of, FitsWords}

-- one pair more, in one field
field_more : (f : PairResult → ℕ) (pairs : List PairResult) (i : ℕ) (d : PairResult) → i < length pairs →
    sum_by f (take i pairs) + f (slice_index_or pairs i d) ≡ sum_by f (take (i + 1) pairs)
field_more f pairs i d below = sym (sum_by_more f pairs i d below)

field_fits : (f : PairResult → ℕ) (pairs lent : List PairResult) (i so_far : ℕ) (d : PairResult) → lent ≡ pairs → i < length lent →
    so_far ≡ sum_by f (take i lent) → sum_by f pairs < 2 ^ 64 → so_far + f (slice_index_or lent i d) < 2 ^ 64
field_fits f pairs lent i so_far d same below is fits = omega (arith, sum_by_more_le f lent i d below, ap (λ ps. sum_by f ps) same)

abbrev amounts : ℕ → ℕ → ℕ → ℕ → ℕ → PairResult
amounts a b c d e = record { offered = a; delivered = b; lost_full = c; lost_failed = d; lost_no_path = e }

same_fields : (a b c d e v w x y z : ℕ) → a ≡ v → b ≡ w → c ≡ x → d ≡ y → e ≡ z → amounts a b c d e ≡ amounts v w x y z
same_fields a b c d e v w x y z p q r s t = rw (p, q, r, s, t) refl

-- one pair more, in all
pub sums_more : (pairs : List PairResult) (i : ℕ) (sums d next : PairResult) → i < length pairs → sums ≡ sums_of (take i pairs) →
    next ≡ sum_of_results sums (slice_index_or pairs i d) → next ≡ sums_of (take (i + 1) pairs)
sums_more pairs i sums d next below are is =
    is
    ∙ (ap (λ (s : PairResult). sum_of_results s (slice_index_or pairs i d)) are
    ∙ same_fields _ _ _ _ _ _ _ _ _ _ (field_more (λ p. p.offered) pairs i d below) (field_more (λ p. p.delivered) pairs i d below)
    (field_more (λ p. p.lost_full) pairs i d below) (field_more (λ p. p.lost_failed) pairs i d below)
    (field_more (λ p. p.lost_no_path) pairs i d below))

-- the sums fit with one pair more
pub sums_fit_more : (pairs lent : List PairResult) (i : ℕ) (sums d : PairResult) → lent ≡ pairs → i < length lent → sums ≡ sums_of (take i lent) →
    FitsWords (sums_of pairs) → FitsWords (sum_of_results sums (slice_index_or lent i d))
sums_fit_more pairs lent i sums d same below are fits = record {
  offered = field_fits (λ p. p.offered) pairs lent i sums.offered d same below (ap (λ (s : PairResult). s.offered) are) fits.offered;
  delivered = field_fits (λ p. p.delivered) pairs lent i sums.delivered d same below (ap (λ (s : PairResult). s.delivered) are) fits.delivered;
  lost_full = field_fits (λ p. p.lost_full) pairs lent i sums.lost_full d same below (ap (λ (s : PairResult). s.lost_full) are) fits.lost_full;
  lost_failed = field_fits (λ p. p.lost_failed) pairs lent i sums.lost_failed d same below (ap (λ (s : PairResult). s.lost_failed) are) fits.lost_failed;
  lost_no_path = field_fits (λ p. p.lost_no_path) pairs lent i sums.lost_no_path d same below (ap (λ (s : PairResult). s.lost_no_path) are) fits.lost_no_path;
}
