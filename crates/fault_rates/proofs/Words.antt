-- Rates that keep the rules are numbers of 64 bits.
use Rattle.std.proofs.Common.{◌≡◌, ℕ, suc, ◌<◌, true, None, List, [], ◌∷◌, length, slice_index, arith}
use Rattle.std.specs.Prelude.{All, slice_index_or}
use Rattle.std.specs.List.{list_all}
use Rattle.std.proofs.lemmas.Bool.{and_parts, leb-true}
use Rattle.std.proofs.lemmas.List.Elements.{All-cons, All-nil}
use Rattle.cert_text.specs.Fits.{AreWords}
use Rattle.fault_rates.specs.declared.plan.RatePlan.{RatePlan}
use Rattle.fault_rates.specs.File.{HasWords}
use Rattle.fault_rates.specs.Plan.{allocations_at, is_rate, plan_fault}
use Rattle.fault_rates.proofs.Judged.{few_failures, small_rates}

rate_words : (xs : List ℕ) → list_all is_rate xs ≡ true → AreWords xs
rate_words [] all = tt
rate_words (x ∷ xs) all =
    let both = and_parts (is_rate x) (list_all is_rate xs) all in
    (omega (arith, leb-true _ _ both.0), rate_words xs both.1)

grant_words : (gs : List ℕ) → ((p : ℕ) → p < length gs → is_rate (slice_index gs p) ≡ true) → AreWords gs
grant_words [] each = tt
grant_words (g ∷ gs) each =
    (omega (arith, leb-true _ _ (each 0 (omega arith))), grant_words gs (λ p below. each (suc p) (omega (arith, below))))

allocation_words : (xs : List (List ℕ)) → ((p : ℕ) → p < length xs → list_all is_rate (slice_index_or xs p []) ≡ true) → All AreWords xs
allocation_words [] each = All-nil AreWords
allocation_words (a ∷ xs) each =
    All-cons AreWords a xs (rate_words a (each 0 (omega arith))) (allocation_words xs (λ p below. each (suc p) (omega (arith, below))))

pub valid_words : (plan : RatePlan) → plan_fault plan ≡ None → length plan.allocation ≡ length plan.grant → HasWords plan
valid_words plan none same =
    let both = λ (p : ℕ) (below : p < length plan.grant).
    and_parts (is_rate (slice_index plan.grant p)) (list_all is_rate (allocations_at plan p)) (small_rates plan none p below) in
    record {
      failures = omega (arith, few_failures plan none);
      grants = grant_words plan.grant (λ p below. (both p below).0);
      allocations = allocation_words plan.allocation (λ p below. (both p (omega (arith, below, same))).1);
    }
