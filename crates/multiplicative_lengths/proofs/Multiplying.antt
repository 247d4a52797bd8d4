-- Multipliers stay within their limits: each at most doubles in a round.
use Rattle.std.proofs.Common.{◌≡◌, ℕ, ◌+◌, ◌*◌, ◌^◌, ◌<◌, ◌≤◌, List, All, length, get_or, arith, sym, subst}
use Rattle.std.proofs.Math.Nat.{mul-le-mul_left}
use Rattle.std.proofs.lemmas.Nat.{pow-add, pow_below}
use Rattle.std.proofs.lemmas.List.{get_or-replicate, length-replicate}
use Rattle.std.proofs.lemmas.List.Elements.{All-from_get_or, All-get_or}
use Rattle.te_model.specs.declared.network.Network.{Network}
use Rattle.te_model.specs.Network.{link_count}
use Rattle.te_model.specs.Division.{quotient_up}
use Rattle.te_model.proofs.Quotients.{quotient_up-least, below_greatest}
use Rattle.multiplicative_lengths.specs.Growth.{first_multipliers, greatest_usage, grown_multipliers, grown_multiplier, usage_of}
use Rattle.multiplicative_lengths.proofs.EachLink.{all_links, at_link, count_each}

-- the multipliers of round j
pub record HaveGrown (net : Network) (j : ℕ) (multipliers : List ℕ) : Type 0 where
  pub count : length multipliers ≡ link_count net
  pub some : All (λ m. 1 ≤ m) multipliers
  pub small : All (λ m. m ≤ 1024 * 2 ^ j) multipliers

pub first_grown : (net : Network) (multipliers : List ℕ) → multipliers ≡ first_multipliers net → HaveGrown net 0 multipliers
first_grown net multipliers are = subst (HaveGrown net 0) (sym are) (record {
  count = count;
  some = All-from_get_or (λ m. 1 ≤ m) (first_multipliers net) 0 (λ h below. omega (arith, each h below));
  small = All-from_get_or (λ m. m ≤ 1024 * 2 ^ 0) (first_multipliers net) 0 (λ h below. omega (arith, each h below));
})
  where
    count : length (first_multipliers net) ≡ link_count net
    count = length-replicate {A = ℕ} (link_count net) 1024

    each : (h : ℕ) → h < length (first_multipliers net) → get_or (first_multipliers net) h 0 ≡ 1024
    each h below = get_or-replicate {A = ℕ} (link_count net) h 1024 0 (omega (arith, below, count))

part_small : (m usage most : ℕ) → 1 ≤ most → usage ≤ most → quotient_up (m * usage) most ≤ m
part_small m usage most some le = quotient_up-least (m * usage) most m some (mul-le-mul_left m le)

pub next_grown : (net : Network) (j : ℕ) (loads : List ℕ) (divisor : ℕ) (multipliers next : List ℕ) → HaveGrown net j multipliers →
    greatest_usage net loads ≤ divisor → next ≡ grown_multipliers net loads divisor multipliers → HaveGrown net (j + 1) next
next_grown net j loads divisor multipliers next far most are = subst (HaveGrown net (j + 1)) (sym are) (record {
  count = count_each net (grown_multiplier net loads divisor multipliers);
  some = all_links (λ m. 1 ≤ m) net (grown_multiplier net loads divisor multipliers) (λ h inside n is.
      omega (arith, is, All-get_or (λ m. 1 ≤ m) multipliers h 0 (omega (arith, far.count, inside)) far.some));
  small = all_links (λ m. m ≤ 1024 * 2 ^ (j + 1)) net (grown_multiplier net loads divisor multipliers) (λ h inside n is.
      let usage : usage_of net loads h ≤ divisor = omega (arith, below_greatest (link_count net) (usage_of net loads) h inside, most) in
      omega (
        arith,
        is,
        pow-add 2 j 1,
        part_small (get_or multipliers h 0) (usage_of net loads h) divisor (omega (arith, most)) usage,
        All-get_or (λ m. m ≤ 1024 * 2 ^ j) multipliers h 0 (omega (arith, far.count, inside)) far.small,
      ));
})

-- they are moderate in each of 28 rounds
pub grown_small : (net : Network) (j : ℕ) (multipliers : List ℕ) → HaveGrown net j multipliers → j < 28 → All (λ m. m ≤ 2 ^ 38) multipliers
grown_small net j multipliers far few = All-from_get_or (λ m. m ≤ 2 ^ 38) multipliers 0 (λ h below.
    omega (arith, All-get_or (λ m. m ≤ 1024 * 2 ^ j) multipliers h 0 below far.small, pow_below j 28 few))

pub at_most_double : (net : Network) (loads : List ℕ) (divisor : ℕ) (multipliers : List ℕ) → greatest_usage net loads ≤ divisor →
    (h : ℕ) → h < link_count net →
    (get_or multipliers h 0 ≤ get_or (grown_multipliers net loads divisor multipliers) h 0)
    × (get_or (grown_multipliers net loads divisor multipliers) h 0 ≤ 2 * get_or multipliers h 0)
at_most_double net loads divisor multipliers most h inside =
    let is = at_link net (grown_multiplier net loads divisor multipliers) h inside in
    let usage : usage_of net loads h ≤ divisor = omega (arith, below_greatest (link_count net) (usage_of net loads) h inside, most) in
    let part = part_small (get_or multipliers h 0) (usage_of net loads h) divisor (omega (arith, most)) usage in
    (omega (arith, is), omega (arith, is, part))
