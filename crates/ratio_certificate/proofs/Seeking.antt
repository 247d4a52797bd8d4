-- Where a search for weights of a link stands at its start and after a sweep.
use Rattle.std.proofs.Common.{◌≡◌, ℕ, ◌^◌, ◌≤◌, true, List, [], ◌∷◌, ◌++◌, length, replicate, slice_index, arith, refl, sym, subst, ◌∙◌}
use Rattle.std.proofs.lemmas.List.{get_or-replicate, length-replicate, length_push}
use Rattle.te_model.specs.declared.network.Network.{Network}
use Rattle.te_model.specs.declared.route.PairRoutes.{PairRoutes}
use Rattle.te_model.specs.declared.demand.DemandSet.{DemandSet}
use Rattle.te_model.specs.Network.{is_well_formed, link_count}
use Rattle.te_model.proofs.Choices.{pushed_each}
use Rattle.shortest_path.proofs.Values.{listed_small}
use Rattle.best_blocks.specs.declared.metric.Metric.{Metric}
use Rattle.best_blocks.specs.declared.sharing.SharedLink.{SharedLink}
use Rattle.best_blocks.specs.Conditions.{IsRoutingWithin}
use Rattle.centred_steps.specs.Loads.{AreLoadsWithin}
use Rattle.centred_steps.specs.Weights.{AreWeightsUpTo}
use Rattle.ratio_certificate.specs.declared.weighting.Weighting.{Weighting}
use Rattle.ratio_certificate.specs.Rising.{IsRoundMetric}
use Rattle.ratio_certificate.specs.Weighting.{AreWeights, IsWeighting}
use Rattle.ratio_certificate.proofs.Weighed.{scale_within}

-- weights that a step may move are weights of a link
pub movable_weights : (net : Network) (weights : List ℕ) → length weights ≡ link_count net → AreWeightsUpTo (2 ^ 27) weights → AreWeights net weights
movable_weights net weights count are = record {
  count = count;
  some = λ h below. are.some h (omega (arith, below, count));
  small = λ h below. let small = are.small h (omega (arith, below, count)) in omega (arith, small);
}

-- one weight more within the limit
pub weights_more : (limit : ℕ) (weights : List ℕ) (w : ℕ) → AreWeightsUpTo limit weights → 1 ≤ w → w ≤ limit → AreWeightsUpTo limit (weights ++ w ∷ [])
weights_more limit weights w are some small = record {
  some = λ h below. pushed_each (λ k (x : ℕ). 1 ≤ x) weights w 0 (length weights) refl are.some some h (omega (arith, below, length_push weights w));
  small = λ h below. pushed_each (λ k (x : ℕ). x ≤ limit) weights w 0 (length weights) refl are.small small h (omega (arith, below, length_push weights w));
}

-- the weights of round 0 may be moved by a step
pub first_weights : (net : Network) (routes : List PairRoutes) (l : SharedLink) (m : Metric) → IsRoundMetric net routes l 0 m → AreWeightsUpTo (2 ^ 27) m.weights
first_weights net routes l m is = record {
  some = λ h below. let low = is.low h (omega (arith, below, is.metric.count)) in omega (arith, low);
  small = λ h below. let high = is.high h (omega (arith, below, is.metric.count)) in omega (arith, high);
}

-- the numbers of the scale of weights of a link are within those of blocks
pub small_scale : (net : Network) (routes : List PairRoutes) (wanted : DemandSet) (w : Weighting) → is_well_formed net ≡ true → IsRoutingWithin net routes →
    IsWeighting net routes wanted w → (w.a ≤ 2 ^ 36) × (w.b ≤ 2 ^ 36)
small_scale net routes wanted w formed within is =
    let bounds = scale_within net routes wanted w.link 1 w.a w.b w.weights formed within (omega arith) is.weights_are is.weights_are.some is.scale_is in
    (omega (arith, bounds.a_small), bounds.b_small)

-- no loads yet
pub no_loads : (net : Network) (n : ℕ) (loads : List ℕ) → loads ≡ replicate n 0 → n ≡ link_count net → AreLoadsWithin net loads
no_loads net n loads is count = subst (AreLoadsWithin net) (sym is) (record {
  count = length-replicate n 0 ∙ count;
  small = listed_small (2 ^ 66) (replicate n 0) (λ h below.
      let none : slice_index (replicate n 0) h ≡ 0 = get_or-replicate n h 0 0 (omega (arith, below, length-replicate {A = ℕ} n 0)) in
      omega (arith, none));
})
