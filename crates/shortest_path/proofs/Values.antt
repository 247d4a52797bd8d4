-- Lists of small numbers, also past their ends.
use Rattle.std.proofs.Common.{ℕ, ◌<◌, ◌≤◌, ◌≡◌, List, length, slice_index, arith, inl, inr}
use Rattle.std.proofs.lemmas.Bool.{cases_lt}
use Rattle.te_model.proofs.Tests.{get_or_past}

-- what each listed number is at most, every number is at most, also past the end
pub listed_small : (bound : ℕ) (xs : List ℕ) → ((p : ℕ) → p < length xs → slice_index xs p ≤ bound) → (p : ℕ) → slice_index xs p ≤ bound
listed_small bound xs each p =
    elim (cases_lt p (length xs)) [
      | inl below ↦ each p below
      | inr past ↦ let e : slice_index xs p ≡ 0 = get_or_past xs p 0 past in rw e (omega arith)
    ]
