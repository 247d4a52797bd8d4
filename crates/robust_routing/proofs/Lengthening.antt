-- Lengths that grow by one, and those by inverse capacities.
use Rattle.std.proofs.Common.{◌≡◌, ℕ, ◌+◌, ◌≤◌, ◌^◌, true, All, Bool, List, [], ◌∷◌, ◌++◌, length, replicate, arith, ap, refl, sym, subst, ◌∙◌}
use Rattle.std.proofs.lemmas.List.{length_push, length-replicate}
use Rattle.std.proofs.lemmas.List.Elements.{All-push, All-replicate}
use Rattle.te_model.specs.declared.network.Network.{Network}
use Rattle.te_model.specs.Network.{is_well_formed, link_count}
use Rattle.shortest_path.specs.Links.{every_link}
use Rattle.multiplicative_lengths.specs.Growth.{length_of, lengths_of}
use Rattle.multiplicative_lengths.proofs.EachLink.{count_each}
use Rattle.multiplicative_lengths.proofs.LengthLimits.{lengths_limit, lengths_some}
use Rattle.robust_routing.specs.Lengths.{AreLengths}

pub lengths_none : AreLengths 0 []
lengths_none = record { count = refl; positive = λ k d below. absurd (omega arith); small = λ k d below. absurd (omega arith) }

pub lengths_more : (n : ℕ) (lengths : List ℕ) (l : ℕ) → AreLengths n lengths → 1 ≤ l → l ≤ 2 ^ 28 → AreLengths (n + 1) (lengths ++ l ∷ [])
lengths_more n lengths l are some small = record {
  count = length_push lengths l ∙ ap (λ k. k + 1) are.count;
  positive = All-push (λ (x : ℕ). 1 ≤ x) lengths l are.positive some;
  small = All-push (λ (x : ℕ). x ≤ 2 ^ 28) lengths l are.small small;
}

-- lengths by multipliers of 1
pub lengths_by_ones : (net : Network) {ones lengths : List ℕ} → is_well_formed net ≡ true → ones ≡ replicate (link_count net) 1 →
    lengths ≡ lengths_of net ones → AreLengths (link_count net) lengths
lengths_by_ones net {ones} {lengths} formed is made =
    let n = link_count net in
    let count : length ones ≡ n = ap (λ (l : List ℕ). length l) is ∙ length-replicate {A = ℕ} n 1 in
    let some : All (λ (m : ℕ). 1 ≤ m) ones = subst (All (λ (m : ℕ). 1 ≤ m)) (sym is) (All-replicate (λ (m : ℕ). 1 ≤ m) n 1 (omega arith)) in
    subst (AreLengths n) (sym made)
    (record { count = count_each net (length_of net ones); positive = lengths_some net ones formed count some; small = lengths_limit net ones })

-- lengths of as many links as there are marks
pub lengths_by_marks : (net : Network) (marks : List Bool) (own lengths : List ℕ) → marks ≡ every_link net → own ≡ lengths →
    AreLengths (length marks) lengths → AreLengths (link_count net) own
lengths_by_marks net marks own lengths every is are =
    let count : length marks ≡ link_count net = ap (λ (l : List Bool). length l) every ∙ length-replicate (link_count net) true in
    subst (AreLengths (link_count net)) (sym is) (subst (λ n. AreLengths n lengths) count are)
