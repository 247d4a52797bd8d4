-- A list of weights in which one place makes progress.
use Rattle.std.proofs.Common.{◌≡◌, ℕ, ◌<◌, List, length, set, arith, ap, sym, subst, ◌∙◌, inl, inr}
use Rattle.std.proofs.lemmas.Bool.{cases_eq}
use Rattle.std.proofs.lemmas.List.{get_or-set_same, get_or-set_other, length-set}
use Rattle.std.proofs.lemmas.List.Sums.{sum_by-set}
use Rattle.te_model.specs.declared.network.Network.{Network}
use Rattle.te_model.specs.declared.route.PairRoutes.{PairRoutes}
use Rattle.te_model.specs.declared.demand.DemandSet.{DemandSet}
use Rattle.best_blocks.specs.declared.sharing.SharedLink.{SharedLink}
use Rattle.ratio_certificate.specs.declared.weighting.Weighting.{Weighting}
use Rattle.ratio_certificate.specs.Places.{no_weighting, weighting_at}
use Rattle.ratio_certificate.specs.Steps.{AreWeightings, IsProgress}
use Rattle.ratio_certificate.specs.Weighting.{gap_in, gap_of_weighting, IsWeighting}

-- the weights at each place of the list with another at place i
set_here : (list : List Weighting) (i : ℕ) (w : Weighting) → i < length list → weighting_at (set list i w) i ≡ w
set_here list i w below = get_or-set_same list i w no_weighting below

set_there : (list : List Weighting) (i k : ℕ) (w : Weighting) → (k ≡ i → ⊥) → weighting_at (set list i w) k ≡ weighting_at list k
set_there list i k w other = get_or-set_other list i k w no_weighting other

pub progress_made : (net : Network) (routes : List PairRoutes) (wanted : DemandSet) (links : List SharedLink) (start list : List Weighting) (i : ℕ) (w : Weighting) →
    i < length list → AreWeightings net routes wanted links start list → IsProgress net routes wanted (weighting_at list i) w →
    AreWeightings net routes wanted links start (set list i w)
progress_made net routes wanted links start list i w below are progress = record {
  count = length-set list i w ∙ are.count;
  links_are = λ k inside. elim (cases_eq k i) [
    | inl same ↦
        ap (λ (x : Weighting). x.link) (subst (λ j. weighting_at (set list i w) j ≡ w) (sym same) (set_here list i w below))
        ∙ progress.link_is ∙ ap (λ j. (weighting_at list j).link) (sym same) ∙ are.links_are k inside
    | inr other ↦ ap (λ (x : Weighting). x.link) (set_there list i k w other) ∙ are.links_are k inside
  ];
  each = λ k inside. elim (cases_eq k i) [
    | inl same ↦
        subst (IsWeighting net routes wanted) (sym (subst (λ j. weighting_at (set list i w) j ≡ w) (sym same) (set_here list i w below))) progress.weighting
    | inr other ↦ subst (IsWeighting net routes wanted) (sym (set_there list i k w other)) (are.each k inside)
  ];
  no_more = λ k inside. elim (cases_eq k i) [
    | inl same ↦
        let here : (weighting_at (set list i w) k).need ≡ w.need =
        ap (λ (x : Weighting). x.need) (subst (λ j. weighting_at (set list i w) j ≡ w) (sym same) (set_here list i w below))
        in
        let old : (weighting_at list k).need ≡ (weighting_at list i).need = ap (λ j. (weighting_at list j).need) same in
        omega (arith, here, old, progress.no_more, are.no_more k inside)
    | inr other ↦
        let there : (weighting_at (set list i w) k).need ≡ (weighting_at list k).need = ap (λ (x : Weighting). x.need) (set_there list i k w other) in
        omega (arith, there, are.no_more k inside)
  ];
}

pub left_falls : (net : Network) (routes : List PairRoutes) (wanted : DemandSet) (list : List Weighting) (i : ℕ) (w : Weighting) → i < length list →
    IsProgress net routes wanted (weighting_at list i) w → gap_in (set list i w) < gap_in list
left_falls net routes wanted list i w below progress =
    let changed = sum_by-set gap_of_weighting list i w no_weighting below in
    omega (arith, changed, progress.nearer)
