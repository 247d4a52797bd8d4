-- That there is a best scale where every distance is 1 or more, and what is added and taken back by it.
use Rattle.std.proofs.Common.{◌≡◌, ℕ, ◌+◌, ◌*◌, ◌^◌, ◌<◌, ◌≤◌, true, List, [], arith, refl, inl, inr}
use Rattle.std.proofs.lemmas.Bool.{cases_lt, lt-ltb}
use Rattle.te_model.specs.declared.demand.DemandSet.{DemandSet}
use Rattle.te_model.specs.declared.demand.DemandSet.TheVariants.{All as AllMatrices, Margin, Box}
use Rattle.te_model.specs.declared.units.TheConstants.{SHARE_UNIT}
use Rattle.te_model.specs.Demand.{lower_of, upper_of}
use Rattle.te_model.proofs.Choices.{step_by_step}
use Rattle.best_blocks.specs.declared.quotient.Quotient.{Quotient}
use Rattle.best_blocks.specs.Best.{plus_amount, balances, needs_row, minus_amount, AreBalanced, IsBalance, IsBestScale, IsScaleBetween}
use Rattle.best_blocks.specs.Quotient.{IsGreatestAt}
use Rattle.best_blocks.proofs.Growing.{greatest_passing, values_exist}
use Rattle.best_blocks.proofs.Positive.{balances_near}
use Rattle.best_blocks.proofs.Quotients.{best_init, best_kept, best_of_all, best_taken, IsBestSoFar}

-- the first pair with the greatest share by distance
pub greatest_quotient_exists : (n : ℕ) (shares distance : ℕ → ℕ) → ((p : ℕ) → p < n → 0 < shares p → 1 ≤ distance p) →
    (p : ℕ) × (p < n) × (0 < shares p) → (q : Quotient) × IsGreatestAt n shares distance q.pair q.share q.distance
greatest_quotient_exists n shares distance apart (p, below, some) =
    let (q, best) =
    step_by_step (λ k (q : Quotient). IsBestSoFar k shares distance q.pair q.share q.distance) n
    (record { pair = 0; share = 0; distance = 1 }, best_init shares distance)
    (λ k q inside best. elim (cases_lt (q.share * distance k) (shares k * q.distance)) as (λ x. (r : Quotient) × IsBestSoFar (k + 1) shares distance r.pair r.share r.distance) [
      | inl more ↦ (
        record { pair = k; share = shares k; distance = distance k },
        best_taken k shares distance q.pair q.share q.distance best (λ r less. apart r (omega (arith, less, inside))) more,
      )
      | inr less ↦ (q, best_kept k shares distance q.pair q.share q.distance best less)
    ]) n (omega arith)
    in
    (q, best_of_all n shares distance q.pair q.share q.distance best p below some)

between_exists : (lower upper : ℕ → ℕ) (n : ℕ) (shares distance : ℕ → ℕ) → ((p : ℕ) → p < n → shares p ≤ SHARE_UNIT) →
    ((p : ℕ) → p < n → 1 ≤ distance p) → (a : ℕ) × (b : ℕ) × IsScaleBetween lower upper n shares distance a b
between_exists lower upper n shares distance light far =
    let (b, best) = greatest_passing (balances lower upper n shares distance) (2 ^ 36) (omega arith) (balances_near lower upper n shares distance 1 light far) in
    (SHARE_UNIT, b, record { unit = refl; balance = record { some = best.some; small = best.small; balanced = best.passes; greatest = best.greatest } })

pub scale_exists : (wanted : DemandSet) (n : ℕ) (shares distance : ℕ → ℕ) → ((p : ℕ) → p < n → shares p ≤ SHARE_UNIT) →
    ((p : ℕ) → p < n → needs_row wanted (shares p) ≡ true → 1 ≤ distance p) → (p : ℕ) × (p < n) × (0 < shares p) →
    (a : ℕ) × (b : ℕ) × IsBestScale wanted n shares distance a b
scale_exists AllMatrices n shares distance light far some =
    let apart : (p : ℕ) → p < n → 0 < shares p → 1 ≤ distance p = λ p below more. far p below (lt-ltb 0 (shares p) more) in
    let (q, best) = greatest_quotient_exists n shares distance apart some in
    (q.share, q.distance, record { apart = apart; quotient = best.0 })
scale_exists (Margin num den base) n shares distance light far some =
    between_exists (lower_of (Margin num den base)) (upper_of (Margin num den base)) n shares distance light (λ p below. far p below refl)
scale_exists (Box lower upper) n shares distance light far some =
    between_exists (lower_of (Box lower upper)) (upper_of (Box lower upper)) n shares distance light (λ p below. far p below refl)

balanced_exist : (n : ℕ) (shares distance : ℕ → ℕ) (b : ℕ) → (plus : List ℕ) × (minus : List ℕ) × AreBalanced n shares distance b plus minus
balanced_exist n shares distance b =
    let (plus, gain) = values_exist n (plus_amount shares distance b) in
    let (minus, loss) = values_exist n (minus_amount shares distance b) in
    (plus, minus, record { added_is = gain; taken_is = loss })

pub balance_exists : (wanted : DemandSet) (n : ℕ) (shares distance : ℕ → ℕ) (b : ℕ) →
    (plus : List ℕ) × (minus : List ℕ) × IsBalance wanted n shares distance b plus minus
balance_exists AllMatrices n shares distance b = ([], [], (refl, refl))
balance_exists (Margin num den base) n shares distance b = balanced_exist n shares distance b
balance_exists (Box lower upper) n shares distance b = balanced_exist n shares distance b
