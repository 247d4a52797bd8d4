-- Lengths are within their limits.
use Rattle.std.proofs.Common.{◌≡◌, inl, inr, ℕ, ◌*◌, ◌^◌, ◌≤◌, true, List, All, length, get_or, arith, ap, ◌∙◌}
use Rattle.std.proofs.lemmas.Bool.{cases_lt}
use Rattle.std.proofs.lemmas.Nat.{mul-le}
use Rattle.std.proofs.lemmas.List.Elements.{All-from_get_or, All-get_or}
use Rattle.te_model.specs.declared.network.Network.{Network}
use Rattle.te_model.specs.Network.{link_count, capacity_of, is_well_formed}
use Rattle.te_model.specs.Division.{quotient_up}
use Rattle.te_model.proofs.Quotients.{quotient_up-enough, below_greatest}
use Rattle.multiplicative_lengths.specs.Growth.{greatest_capacity, length_of, lengths_of}
use Rattle.multiplicative_lengths.proofs.EachLink.{all_links}
use Rattle.te_model.proofs.WellFormed.{capacities_positive}

pub lengths_limit : (net : Network) (multipliers : List ℕ) → All (λ l. l ≤ 2 ^ 28) (lengths_of net multipliers)
lengths_limit net multipliers = all_links (λ l. l ≤ 2 ^ 28) net (length_of net multipliers) (λ h inside n is. omega (arith, is))

quotient_some : (m most capacity : ℕ) → 1 ≤ m → 1 ≤ capacity → capacity ≤ most → 1 ≤ quotient_up (m * most) capacity
quotient_some m most capacity some own below =
    let q = quotient_up (m * most) capacity in
    elim (cases_lt 0 q) [
      | inl lt ↦ lt
      | inr ge ↦
          let none : q ≡ 0 = omega arith in
          let product : q * capacity ≡ 0 = ap (λ x. x * capacity) none ∙ omega arith in
          absurd (omega (arith, product, quotient_up-enough (m * most) capacity own, mul-le 1 1 m most some (omega arith)))
    ]

pub lengths_some : (net : Network) (multipliers : List ℕ) → is_well_formed net ≡ true → length multipliers ≡ link_count net → All (λ m. 1 ≤ m) multipliers →
    All (λ l. 1 ≤ l) (lengths_of net multipliers)
lengths_some net multipliers formed count some = all_links (λ l. 1 ≤ l) net (length_of net multipliers) (λ h inside n is.
    let m = All-get_or (λ m. 1 ≤ m) multipliers h 0 (omega (arith, count, inside)) some in
    let q = quotient_some (get_or multipliers h 0) (greatest_capacity net) (capacity_of net h) m (capacities_positive net formed h inside)
    (below_greatest (link_count net) (capacity_of net) h inside)
    in
    omega (arith, is, q))

pub lengths_moderate : (net : Network) (multipliers : List ℕ) → is_well_formed net ≡ true → length multipliers ≡ link_count net →
    All (λ m. 1 ≤ m) multipliers → All (λ l. (1 ≤ l) × (l ≤ 2 ^ 28)) (lengths_of net multipliers)
lengths_moderate net multipliers formed count some =
    All-from_get_or (λ l. (1 ≤ l) × (l ≤ 2 ^ 28)) (lengths_of net multipliers) 0 (λ h below. (
      All-get_or (λ l. 1 ≤ l) (lengths_of net multipliers) h 0 below (lengths_some net multipliers formed count some),
      All-get_or (λ l. l ≤ 2 ^ 28) (lengths_of net multipliers) h 0 below (lengths_limit net multipliers),
    ))
