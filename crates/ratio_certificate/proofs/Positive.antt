-- Weights of 1 and more have a best scale, whose numbers are small.
use Rattle.std.proofs.Common.{◌≡◌, ℕ, ◌^◌, ◌<◌, ◌≤◌, true, false, arith, refl, sym, ◌∙◌, inl, inr}
use Rattle.std.proofs.lemmas.Bool.{cases_lt, lt-ltb}
use Rattle.te_model.specs.declared.demand.DemandSet.{DemandSet}
use Rattle.te_model.specs.declared.demand.DemandSet.TheVariants.{All as AllMatrices, Margin, Box}
use Rattle.te_model.specs.declared.units.TheConstants.{SHARE_UNIT}
use Rattle.best_blocks.specs.Best.{needs_row, IsBestScale, IsScaleBetween}
use Rattle.best_blocks.specs.Scale.{HasNoScale}
use Rattle.best_blocks.proofs.Positive.{balances_near}

-- with distances of 1 and more there is a best scale
pub some_scale : (n : ℕ) (wanted : DemandSet) (shares distance : ℕ → ℕ) → ((p : ℕ) → p < n → shares p ≤ SHARE_UNIT) →
    ((p : ℕ) → p < n → needs_row wanted (shares p) ≡ true → 1 ≤ distance p) → HasNoScale wanted n shares distance → ⊥
some_scale n AllMatrices shares distance light far (p, below, some, nothing) = omega (arith, far p below (lt-ltb 0 (shares p) some), nothing)
some_scale n (Margin num den base) shares distance light far none =
    let contrary : false ≡ true = sym none ∙ balances_near _ _ n shares distance 1 light (λ p below. far p below refl) in cc
some_scale n (Box lower upper) shares distance light far none =
    let contrary : false ≡ true = sym none ∙ balances_near _ _ n shares distance 1 light (λ p below. far p below refl) in cc

-- a is at most one million, and b between the least and the greatest distance or a limit
pub record AreScaleBounds (least a b : ℕ) : Type 0 where
  pub a_small : a ≤ SHARE_UNIT
  pub b_large : least ≤ b
  pub b_small : b ≤ 2 ^ 36

bounds_between : (lower upper : ℕ → ℕ) (n least : ℕ) (shares distance : ℕ → ℕ) (a b : ℕ) → least ≤ 2 ^ 36 →
    ((p : ℕ) → p < n → shares p ≤ SHARE_UNIT) → ((p : ℕ) → p < n → least ≤ distance p) →
    IsScaleBetween lower upper n shares distance a b → AreScaleBounds least a b
bounds_between lower upper n least shares distance a b small light far best = record {
  a_small = omega (arith, best.unit);
  b_large = elim (cases_lt b least) [
    | inl lt ↦
        let contrary : false ≡ true = sym (best.balance.greatest least lt small) ∙ balances_near lower upper n shares distance least light far in
        cc
    | inr ge ↦ ge
  ];
  b_small = best.balance.small;
}

pub scale_bounds : (n least : ℕ) (wanted : DemandSet) (shares distance : ℕ → ℕ) (a b : ℕ) → least ≤ 2 ^ 36 →
    ((p : ℕ) → p < n → shares p ≤ SHARE_UNIT) → ((p : ℕ) → p < n → needs_row wanted (shares p) ≡ true → least ≤ distance p) →
    ((p : ℕ) → p < n → needs_row wanted (shares p) ≡ true → distance p ≤ 2 ^ 36) → IsBestScale wanted n shares distance a b → AreScaleBounds least a b
scale_bounds n least AllMatrices shares distance a b small light far near best =
    let q = best.quotient in
    let needs = lt-ltb 0 (shares q.pair) q.positive in
    record {
      a_small = omega (arith, light q.pair q.within, q.share_is);
      b_large = omega (arith, far q.pair q.within needs, q.distance_is);
      b_small = omega (arith, near q.pair q.within needs, q.distance_is);
    }
scale_bounds n least (Margin num den base) shares distance a b small light far near best =
    bounds_between _ _ n least shares distance a b small light (λ p below. far p below refl) best
scale_bounds n least (Box lower upper) shares distance a b small light far near best =
    bounds_between _ _ n least shares distance a b small light (λ p below. far p below refl) best
