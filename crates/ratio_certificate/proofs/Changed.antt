-- Weights of which one is changed.
use Rattle.std.proofs.Common.{◌≡◌, ℕ, ◌^◌, ◌<◌, ◌≤◌, ◌||◌, Bool, true, false, List, [], ◌∷◌, set, arith, ap, sym, subst, ◌∙◌, inl, inr, slice_index, ◌==◌}
use Rattle.std.specs.Prelude.{All}
use Rattle.std.proofs.lemmas.Bool.{cases_eq, eq-eqb}
use Rattle.std.proofs.lemmas.List.{get_or-set_other, get_or-set_same, length-set}
use Rattle.std.proofs.lemmas.List.Elements.{All-set}
use Rattle.te_model.specs.declared.network.Network.{Network}
use Rattle.te_model.specs.Network.{link_count}
use Rattle.best_blocks.specs.Rows.{IsSameElsewhere}
use Rattle.ratio_certificate.specs.Weighting.{AreWeights}

pub changed_small : (old new : List ℕ) (link weight : ℕ) → new ≡ set old link weight → weight ≤ 2 ^ 28 → All (λ w. w ≤ 2 ^ 28) old → All (λ w. w ≤ 2 ^ 28) new
changed_small old new link weight is few small = subst (All (λ w. w ≤ 2 ^ 28)) (sym is) (All-set (λ w. w ≤ 2 ^ 28) old link weight few small)

-- the others stay
pub changed_alone : (n : ℕ) (old new : List ℕ) (link weight : ℕ) → new ≡ set old link weight → IsSameElsewhere n (link ∷ []) old new
changed_alone n old new link weight is h below other =
    ap (λ (ws : List ℕ). slice_index ws h) is
    ∙ get_or-set_other old link h weight 0 (λ same. differ (link == h) (eq-eqb link h (sym same)) other)
  where
    differ : (b : Bool) → b ≡ true → (b || false) ≡ false → ⊥
    differ true is other = cc
    differ false is other = cc

pub changed_weights : (net : Network) (old new : List ℕ) (link weight : ℕ) → new ≡ set old link weight → 1 ≤ weight → weight ≤ 2 ^ 28 →
    AreWeights net old → AreWeights net new
changed_weights net old new link weight is one few are = subst (AreWeights net) (sym is) (record {
  count = length-set old link weight ∙ are.count;
  some = λ h below. between h below (λ w. 1 ≤ w) one (are.some h below);
  small = λ h below. between h below (λ w. w ≤ 2 ^ 28) few (are.small h below);
})
  where
    between : (h : ℕ) → h < link_count net → (P : ℕ → Type 0) → P weight → P (slice_index old h) → P (slice_index (set old link weight) h)
    between h below P here other = elim (cases_eq h link) [
      | inl same ↦
          subst (λ i. P (slice_index (set old link weight) i)) (sym same)
          (subst P (sym (get_or-set_same old link weight 0 (omega (arith, same, below, are.count)))) here)
      | inr apart ↦ subst P (sym (get_or-set_other old link h weight 0 apart)) other
    ]
