-- Laws of tables of flows.
use Rattle.std.proofs.Common.{◌≡◌, ℕ, ◌+◌, ◌<◌, ◌≤◌, Bool, true, false, List, ◌++◌, length, map, slice_index, arith, refl, ap, ◌∙◌, inl, inr, ◌==◌, add-one, sum, take, drop}
use Rattle.std.specs.Prelude.{if◌then◌else◌}
use Rattle.std.specs.List.{range_with_len}
use Rattle.std.proofs.lemmas.Bool.{cases_lt, eq-eqb}
use Rattle.std.proofs.lemmas.List.FromFn.{get_or-map-range_with_len, length-map-range_with_len}
use Rattle.std.proofs.lemmas.List.{get_or_past}
use Rattle.std.proofs.Math.Seq.{take-append_seam}
use Rattle.te_model.specs.Counting.{sum_below}
use Rattle.te_model.proofs.Sums.{sum_below-le}
use Rattle.te_model.proofs.ApportionLaws.{sum_below-more, sum_is_below}
use Rattle.te_model.proofs.Sums.{sum_below-next}
use Rattle.flow_sim.specs.Tables.{amount_of_key, total_at}

-- one more flow fits where all do
pub next_fits : (n i : ℕ) (f : ℕ → ℕ) → i < n → sum_below i f + f i ≤ sum_below n f
next_fits n i f below = omega (arith, sum_below-more (i + 1) n f (omega arith), sum_below-next i f)

pub amount_at-own : (keys amounts : List ℕ) (f : ℕ) → amount_of_key keys amounts (slice_index keys f) f ≡ slice_index amounts f
amount_at-own keys amounts f =
    let same : (slice_index keys f == slice_index keys f) ≡ true = eq-eqb (slice_index keys f) (slice_index keys f) refl in rw same refl

pub total_at-fits : (keys amounts : List ℕ) (e : ℕ) → length keys ≡ length amounts → total_at keys amounts e ≤ sum amounts
total_at-fits keys amounts e same =
    omega (
      arith,
      sum_below-le (length keys) (amount_of_key keys amounts e) (slice_index amounts) (λ f below. part_le (slice_index keys f == e) (slice_index amounts f)),
      ap (λ n. sum_below n (slice_index amounts)) same,
      sum_is_below amounts,
    )
  where
    part_le : (b : Bool) (x : ℕ) → (if b then x else 0) ≤ x
    part_le true x = omega arith
    part_le false x = omega arith

pub read_made : (f : ℕ → ℕ) (n k : ℕ) (xs : List ℕ) → xs ≡ map f (range_with_len 0 n) → k < n → slice_index xs k ≡ f k
read_made f n k xs made below = rw made (get_or-map-range_with_len f 0 n k k 0 below (omega arith))

pub zero_read : (n e : ℕ) (xs : List ℕ) → xs ≡ map (λ i. 0) (range_with_len 0 n) → slice_index xs e ≡ 0
zero_read n e xs made =
    elim (cases_lt e n) [
      | inl lt ↦ read_made (λ i. 0) n e xs made lt
      | inr ge ↦ get_or_past xs e 0 (let size : length xs ≡ n = ap length made ∙ length-map-range_with_len (λ i. 0) 0 n in omega arith)
    ]

-- what a `Vec` holds once a slice of it was written
pub written : {X : Type 0} (new old : List X) (size : ℕ) → length new ≡ size → take size (new ++ drop (length new) old) ≡ new
written new old size e = rw (← e) (take-append_seam new (drop (length new) old))
