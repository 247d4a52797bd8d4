-- Rounds, one after the other, whose multipliers grow.
use Rattle.std.proofs.Common.{◌≡◌, ℕ, zero, suc, ◌+◌, ◌<◌, ◌≤◌, List, [], ◌∷◌, ◌++◌, length, get_or, arith, refl, ap, ◌∙◌, subst}
use Rattle.te_model.specs.declared.network.Network.{Network}
use Rattle.te_model.proofs.Choices.{pushed_count, pushed_each}
use Rattle.multiplicative_lengths.specs.Growth.{first_multipliers, greatest_usage, grown_multipliers, multipliers_after}
use Rattle.multiplicative_lengths.proofs.Multiplying.{HaveGrown, first_grown, next_grown}

-- loads and divisors that agree before round j give it the same multipliers
pub multipliers_same : (net : Network) (loads loads' : ℕ → List ℕ) (divisor divisor' : ℕ → ℕ) (j : ℕ) → ((i : ℕ) → i < j → loads i ≡ loads' i) →
    ((i : ℕ) → i < j → divisor i ≡ divisor' i) → multipliers_after net loads divisor j ≡ multipliers_after net loads' divisor' j
multipliers_same net loads loads' divisor divisor' zero same_loads same_divisors = refl
multipliers_same net loads loads' divisor divisor' (suc j) same_loads same_divisors =
    ap (λ l. grown_multipliers net l (divisor j) (multipliers_after net loads divisor j)) (same_loads j (omega arith))
    ∙ (ap (λ d. grown_multipliers net (loads' j) d (multipliers_after net loads divisor j)) (same_divisors j (omega arith))
    ∙ ap (λ m. grown_multipliers net (loads' j) (divisor' j) m)
    (multipliers_same net loads loads' divisor divisor' j (λ i below. same_loads i (omega arith)) (λ i below. same_divisors i (omega arith))))

-- the multipliers of each round are within their limits
pub multipliers_grown : (net : Network) (loads : ℕ → List ℕ) (divisor : ℕ → ℕ) (j : ℕ) → ((i : ℕ) → i < j → greatest_usage net (loads i) ≤ divisor i) →
    HaveGrown net j (multipliers_after net loads divisor j)
multipliers_grown net loads divisor zero most = first_grown net (first_multipliers net) refl
multipliers_grown net loads divisor (suc j) most =
    let far : HaveGrown net (j + 1) (multipliers_after net loads divisor (suc j)) =
    next_grown net j (loads j) (divisor j) (multipliers_after net loads divisor j) (multipliers_after net loads divisor (suc j))
    (multipliers_grown net loads divisor j (λ i below. most i (omega arith))) (most j (omega arith)) refl
    in
    let next : j + 1 ≡ suc j = omega arith in
    subst (λ n. HaveGrown net n (multipliers_after net loads divisor (suc j))) next far

-- the first j rounds, each of which is what its number and its multipliers ask, and the multipliers with which the next one begins
pub record RoundsSoFar (Round : Type 0) (none : Round) (IsRound : ℕ → List ℕ → Round → Type 0) (net : Network) (loads : ℕ → List ℕ) (divisor : ℕ → ℕ)
    (j : ℕ) (multipliers : List ℕ) (rounds : List Round) : Type 0 where
  pub count : length rounds ≡ j
  pub each : (i : ℕ) → i < j → IsRound i (multipliers_after net loads divisor i) (get_or rounds i none)
  pub are : multipliers ≡ multipliers_after net loads divisor j
  pub grown : HaveGrown net j multipliers

pub rounds_none : (Round : Type 0) (none : Round) (IsRound : ℕ → List ℕ → Round → Type 0) (net : Network) (loads : ℕ → List ℕ) (divisor : ℕ → ℕ)
    (multipliers : List ℕ) → multipliers ≡ first_multipliers net → RoundsSoFar Round none IsRound net loads divisor 0 multipliers []
rounds_none Round none IsRound net loads divisor multipliers first = record {
  count = refl;
  each = λ i below. absurd (omega arith);
  are = first;
  grown = first_grown net multipliers first;
}

-- one round more, whose loads and divisor the later ones have for it
pub rounds_more : (Round : Type 0) (none : Round) (IsRound : ℕ → List ℕ → Round → Type 0) (net : Network) (loads loads' : ℕ → List ℕ) (divisor divisor' : ℕ → ℕ)
    (j : ℕ) (multipliers next : List ℕ) (rounds : List Round) (round : Round) → RoundsSoFar Round none IsRound net loads divisor j multipliers rounds →
    ((i : ℕ) → i < j → loads i ≡ loads' i) → ((i : ℕ) → i < j → divisor i ≡ divisor' i) → IsRound j multipliers round →
    greatest_usage net (loads' j) ≤ divisor' j → next ≡ grown_multipliers net (loads' j) (divisor' j) multipliers →
    RoundsSoFar Round none IsRound net loads' divisor' (j + 1) next (rounds ++ round ∷ [])
rounds_more Round none IsRound net loads loads' divisor divisor' j multipliers next rounds round far same_loads same_divisors is most grows = record {
  count = pushed_count rounds round j far.count;
  each = pushed_each (λ i r. IsRound i (multipliers_after net loads' divisor' i) r) rounds round none j far.count
      (λ i below. subst (λ m. IsRound i m (get_or rounds i none))
      (multipliers_same net loads loads' divisor divisor' i (λ k before. same_loads k (omega arith)) (λ k before. same_divisors k (omega arith))) (far.each i below))
      (subst (λ m. IsRound j m round) (far.are ∙ kept) is);
  are = subst (λ n. next ≡ multipliers_after net loads' divisor' n) suc_is (grows ∙ ap (λ m. grown_multipliers net (loads' j) (divisor' j) m) (far.are ∙ kept));
  grown = next_grown net j (loads' j) (divisor' j) multipliers next far.grown most grows;
}
  where
    kept : multipliers_after net loads divisor j ≡ multipliers_after net loads' divisor' j
    kept = multipliers_same net loads loads' divisor divisor' j same_loads same_divisors

    suc_is : suc j ≡ j + 1
    suc_is = omega arith
