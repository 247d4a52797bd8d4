-- Steps of the polish, and where there is none left.
use Rattle.std.proofs.Common.{◌≡◌, ℕ, ◌*◌, ◌^◌, ◌<◌, ◌≤◌, true, List, length, arith, sym, ap, subst, ◌∙◌, inl, inr, slice_index}
use Rattle.std.proofs.lemmas.Bool.{cases_lt}
use Rattle.std.proofs.lemmas.List.{get_or_past}
use Rattle.te_model.specs.declared.network.Network.{Network}
use Rattle.te_model.specs.declared.route.PairRoutes.{PairRoutes}
use Rattle.te_model.specs.declared.demand.DemandSet.{DemandSet}
use Rattle.te_model.specs.Network.{is_well_formed, link_count}
use Rattle.te_model.proofs.WellFormed.{capacities_positive}
use Rattle.best_blocks.specs.Need.{need_by}
use Rattle.best_blocks.specs.Under.{IsScaleUnder}
use Rattle.best_blocks.proofs.NeedLaws.{double_needs_no_more}
use Rattle.ratio_certificate.specs.declared.weighting.Weighting.{Weighting}
use Rattle.ratio_certificate.specs.Places.{weighting_at}
use Rattle.ratio_certificate.specs.Polished.{IsCoarse, IsFine, IsWorst}
use Rattle.ratio_certificate.specs.Steps.{IsDone, IsImprovement, IsProgress, IsSettledAt}
use Rattle.ratio_certificate.specs.Weighting.{greatest_of, AreDoubled, AreWeights, IsWeighting}
use Rattle.ratio_certificate.proofs.Gaps.{doubled_nearer, gap_less, greatest_above, greatest_below_bound, improved_nearer}

-- also where there is no weight, twice nothing is nothing
twice_everywhere : (old new : List ℕ) → AreDoubled old new → (h : ℕ) → slice_index new h ≡ 2 * slice_index old h
twice_everywhere old new twice h = elim (cases_lt h (length old)) [
  | inl lt ↦ twice.each h lt
  | inr ge ↦
      let past : slice_index old h ≡ 0 = get_or_past old h 0 ge in
      let also : slice_index new h ≡ 0 = get_or_past new h 0 (omega (arith, ge, twice.count)) in
      omega (arith, past, also)
]

-- twice weights below 2^20 are weights
pub doubled_weights : (net : Network) (old new : List ℕ) → AreWeights net old → AreDoubled old new → ((h : ℕ) → h < length old → slice_index old h < 2 ^ 20) →
    AreWeights net new
doubled_weights net old new are twice small = record {
  count = twice.count ∙ are.count;
  some = λ h below. let inside : h < length old = omega (arith, below, are.count) in omega (arith, twice.each h inside, are.some h below);
  small = λ h below. let inside : h < length old = omega (arith, below, are.count) in omega (arith, twice.each h inside, small h inside);
}

pub doubled_progress : (net : Network) (routes : List PairRoutes) (wanted : DemandSet) (old new : Weighting) (doubled : List ℕ) → is_well_formed net ≡ true →
    old.link < link_count net → IsWeighting net routes wanted old → AreDoubled old.weights doubled → IsCoarse old.weights old.b → new.link ≡ old.link →
    new.weights ≡ doubled → IsWeighting net routes wanted new → IsProgress net routes wanted old new
doubled_progress net routes wanted old new doubled formed inside is twice coarse link_is weights_are new_is =
    let e = old.link in
    let some = capacities_positive net formed e inside in
    let made : AreDoubled old.weights new.weights = subst (AreDoubled old.weights) (sym weights_are) twice in
    let scale : IsScaleUnder net routes wanted e new.weights new.a new.b =
    subst (λ l. IsScaleUnder net routes wanted l new.weights new.a new.b) link_is new_is.scale_is
    in
    let need : new.need ≡ need_by net e new.weights new.a new.b = new_is.need_is ∙ ap (λ l. need_by net l new.weights new.a new.b) link_is in
    let less = double_needs_no_more net routes wanted e old.weights new.weights old.a old.b new.a new.b some coarse.1
    (twice_everywhere old.weights new.weights made) is.scale_is scale
    in
    let no_more : new.need ≤ old.need = omega (arith, need, is.need_is, less) in
    let first : 0 < length old.weights = omega (arith, is.weights_are.count, inside) in
    let one : 1 ≤ greatest_of old.weights = omega (arith, greatest_above old.weights 0 first, is.weights_are.some 0 (omega (arith, inside))) in
    let gap = gap_less old.weights new.weights made one (greatest_below_bound old.weights (2 ^ 20) (omega arith) coarse.0) in
    record { link_is = link_is; weighting = new_is; no_more = no_more; nearer = doubled_nearer old new no_more gap }

pub improved_progress : (net : Network) (routes : List PairRoutes) (wanted : DemandSet) (e : ℕ) (old new : Weighting) → old.link ≡ e →
    IsImprovement net routes wanted e old.need new → IsProgress net routes wanted old new
improved_progress net routes wanted e old new is better = record {
  link_is = better.link_is ∙ sym is;
  weighting = better.weighting;
  no_more = let less : new.need < old.need = better.better.0 in omega (arith, less);
  nearer = improved_nearer old new better.better;
}

-- one place is the first of the greatest need
pub worst_only : (n : ℕ) (need : ℕ → ℕ) (j k : ℕ) → IsWorst n need j → IsWorst n need k → j ≡ k
worst_only n need j k one two = elim (cases_lt j k) [
  | inl lt ↦ absurd (omega (arith, two.first j lt, one.greatest k two.within))
  | inr ge ↦ elim (cases_lt k j) [
    | inl lt ↦ absurd (omega (arith, one.first k lt, two.greatest j one.within))
    | inr le ↦ omega (arith, ge, le)
  ]
]

-- where the first of the greatest need is fine and settled, the list is done
pub done_at : (net : Network) (routes : List PairRoutes) (wanted : DemandSet) (list : List Weighting) (k : ℕ) →
    IsWorst (length list) (λ j. (weighting_at list j).need) k → IsFine (weighting_at list k).weights (weighting_at list k).b →
    ((h : ℕ) → h < link_count net → IsSettledAt net routes wanted (weighting_at list k).link (weighting_at list k).need (weighting_at list k).weights h) →
    IsDone net routes wanted list
done_at net routes wanted list k worst fine settled = record {
  fine = λ j other. subst (λ i. IsFine (weighting_at list i).weights (weighting_at list i).b) (sym (same j other)) fine;
  settled = λ j other.
      subst (λ i. (h : ℕ) → h < link_count net → IsSettledAt net routes wanted (weighting_at list i).link (weighting_at list i).need (weighting_at list i).weights h)
      (sym (same j other)) settled;
}
  where
    same : (j : ℕ) → IsWorst (length list) (λ j. (weighting_at list j).need) j → j ≡ k
    same j other = worst_only (length list) (λ j. (weighting_at list j).need) j k other worst

-- an empty list is done
pub none_done : (net : Network) (routes : List PairRoutes) (wanted : DemandSet) (list : List Weighting) → length list ≡ 0 → IsDone net routes wanted list
none_done net routes wanted list none = record {
  fine = λ k worst. absurd (omega (arith, worst.within, none));
  settled = λ k worst. absurd (omega (arith, worst.within, none));
}
