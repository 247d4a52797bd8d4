-- Pairs of 64 nodes, listed in ascending order.
use Rattle.std.proofs.Common.{◌≡◌, ◌⊎◌, ℕ, suc, ◌+◌, ◌*◌, ◌<◌, ◌≤◌, List, [], ◌∷◌, ◌++◌, length, All, arith, inl, inr, sym, subst}
use Rattle.std.proofs.lemmas.Bool.{cases_lt}
use Rattle.std.proofs.Math.ListN.{get_or-append}
use Rattle.std.proofs.Math.Seq.{get_or-append_seam}
use Rattle.std.proofs.lemmas.List.{length-append}
use Rattle.std.proofs.lemmas.List.Elements.{All-get_or, All-push, All-weaker}
use Rattle.te_model.specs.declared.route.Pair.{Pair}
use Rattle.te_model.specs.Pairs.{no_pair, pair_at, AscendPairs}

-- a number for each pair, which rises with the pairs
abbrev number : Pair → ℕ
number p = p.src * 64 + p.dst

-- two different nodes of 64, with a number below the bound
pub record IsBelow (bound : ℕ) (p : Pair) : Type 0 where
  pub src : p.src < 64
  pub dst : p.dst < 64
  pub apart : p.src ≡ p.dst → ⊥
  pub below : number p < bound

-- such pairs, at most as many as the bound, whose numbers rise
pub record AreListed (bound : ℕ) (pairs : List Pair) : Type 0 where
  pub each : All (IsBelow bound) pairs
  pub few : length pairs ≤ bound
  pub rising : (k : ℕ) → suc k < length pairs → number (pair_at pairs k) < number (pair_at pairs (suc k))

-- pairs whose numbers rise ascend
rises : (p q : Pair) → p.dst < 64 → q.dst < 64 → number p < number q → (p.src < q.src) ⊎ ((p.src ≡ q.src) × (p.dst < q.dst))
rises p q small small' less = elim (cases_lt p.src q.src) [ inl lt ↦ inl lt | inr ge ↦ inr (omega arith, omega arith) ]

pub listed_ascend : (bound : ℕ) (pairs : List Pair) → AreListed bound pairs → AscendPairs pairs
listed_ascend bound pairs are k below =
    let low = All-get_or (IsBelow bound) pairs k no_pair (omega arith) are.each in
    let high = All-get_or (IsBelow bound) pairs (suc k) no_pair below are.each in
    rises (pair_at pairs k) (pair_at pairs (suc k)) low.dst high.dst (are.rising k below)

-- the same pairs, below a greater bound
pub listed_on : (bound : ℕ) (pairs : List Pair) → AreListed bound pairs → AreListed (bound + 1) pairs
listed_on bound pairs are = record {
  each = All-weaker (IsBelow bound) (IsBelow (bound + 1)) (λ p of. record { src = of.src; dst = of.dst; apart = of.apart; below = omega (arith, of.below) }) pairs are.each;
  few = omega (arith, are.few);
  rising = are.rising;
}

-- one pair more, whose number is the bound
pub listed_more : (bound : ℕ) (pairs : List Pair) (p : Pair) → p.src < 64 → p.dst < 64 → (p.src ≡ p.dst → ⊥) → number p ≡ bound → AreListed bound pairs → AreListed (bound + 1) (pairs ++ p ∷ [])
listed_more bound pairs p src dst apart is are =
    let longer = length-append pairs (p ∷ []) in
    record {
      each = All-push (IsBelow (bound + 1)) pairs p (listed_on bound pairs are).each (record { src = src; dst = dst; apart = apart; below = omega (arith, is) });
      few = omega (arith, longer, are.few);
      rising = λ k below.
          let inside : k < length pairs = omega (arith, longer, below) in
          subst (λ q. number q < number (pair_at (pairs ++ p ∷ []) (suc k))) (sym (get_or-append pairs (p ∷ []) no_pair k inside))
          (elim (cases_lt (suc k) (length pairs)) [
            | inl lt ↦ subst (λ q. number (pair_at pairs k) < number q) (sym (get_or-append pairs (p ∷ []) no_pair (suc k) lt)) (are.rising k lt)
            | inr ge ↦
                let last : length pairs ≡ suc k = omega (arith, inside, ge) in
                let at : pair_at (pairs ++ p ∷ []) (suc k) ≡ p = subst (λ n. pair_at (pairs ++ p ∷ []) n ≡ p) last (get_or-append_seam pairs p [] no_pair) in
                let under = All-get_or (IsBelow bound) pairs k no_pair inside are.each in
                subst (λ q. number (pair_at pairs k) < number q) (sym at) (omega (arith, under.below, is))
          ]);
    }
