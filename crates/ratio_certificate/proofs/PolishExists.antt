-- That weights of the links can be polished: while a step helps, one is made, and each step leaves less to do.
use Rattle.std.proofs.Common.{◌≡◌, ℕ, zero, suc, ◌+◌, ◌*◌, ◌/◌, ◌^◌, ◌<◌, ◌≤◌, ◌⊎◌, true, List, length, set, slice_index, arith, refl, subst, sym, inl, inr, ◌∙◌}
use Rattle.std.proofs.lemmas.Bool.{cases_lt}
use Rattle.std.proofs.lemmas.List.Elements.{All-get_or}
use Rattle.te_model.specs.declared.network.Network.{Network}
use Rattle.te_model.specs.declared.route.PairRoutes.{PairRoutes}
use Rattle.te_model.specs.declared.demand.DemandSet.{DemandSet}
use Rattle.te_model.specs.Network.{is_well_formed, link_count}
use Rattle.te_model.proofs.Searches.{both_or_not, first_or_all}
use Rattle.te_model.proofs.WellFormed.{capacities_positive}
use Rattle.best_blocks.specs.declared.sharing.SharedLink.{SharedLink}
use Rattle.best_blocks.specs.Conditions.{IsRoutingWithin}
use Rattle.best_blocks.specs.Sharing.{IsSharedLink}
use Rattle.best_blocks.proofs.Growing.{values_exist}
use Rattle.ratio_certificate.specs.declared.weighting.Weighting.{Weighting}
use Rattle.ratio_certificate.specs.Making.{AreSharedLinks}
use Rattle.ratio_certificate.specs.Places.{no_shared, shared_at, weighting_at}
use Rattle.ratio_certificate.specs.Polished.{IsCoarse, IsFine, IsWorst}
use Rattle.ratio_certificate.specs.Steps.{AreWeightings, HelpsNot, IsDone, IsImprovement, IsProgress, IsSettledAt}
use Rattle.ratio_certificate.specs.Weighting.{gap_in, AreDoubled, AreWeights, IsWeighting}
use Rattle.ratio_certificate.proofs.Changed.{changed_weights}
use Rattle.ratio_certificate.proofs.Finding.{fine_or_coarse, worst_exists}
use Rattle.ratio_certificate.proofs.Progress.{left_falls, progress_made}
use Rattle.ratio_certificate.proofs.Stepping.{done_at, doubled_progress, doubled_weights, improved_progress, none_done}
use Rattle.ratio_certificate.proofs.Trying.{helps_not, settled_at}
use Rattle.ratio_certificate.proofs.WeightingsExist.{weighting_exists}

-- other weights of link e improve the need
abbrev SomeImprovement : Network → List PairRoutes → DemandSet → ℕ → ℕ → Type 0
SomeImprovement net routes wanted e need = (w : Weighting) × IsImprovement net routes wanted e need w

-- other weights of the link improve the need, or not
weight_tried : (net : Network) (routes : List PairRoutes) (wanted : DemandSet) (l : SharedLink) (need : ℕ) (weights : List ℕ) → is_well_formed net ≡ true →
    IsRoutingWithin net routes → IsSharedLink net routes wanted l → AreWeights net weights →
    SomeImprovement net routes wanted l.link need ⊎ HelpsNot net routes wanted l.link need weights
weight_tried net routes wanted l need weights formed within shared are =
    let (w, is) = weighting_exists net routes wanted l weights formed within shared are in
    elim (both_or_not w.need need (64 * w.need) (63 * need)) [
      | inl better ↦ inl (w, record { link_is = is.link_is; weighting = is.weighting; better = better })
      | inr worse ↦ inr (helps_not net routes wanted l.link need weights w (capacities_positive net formed l.link shared.within) is.link_is is.weights_are is.weighting worse)
    ]

-- a step of the weight of link h improves the need, or none does
link_tried : (net : Network) (routes : List PairRoutes) (wanted : DemandSet) (l : SharedLink) (need : ℕ) (weights : List ℕ) (h : ℕ) →
    is_well_formed net ≡ true → IsRoutingWithin net routes → IsSharedLink net routes wanted l → AreWeights net weights → h < link_count net →
    SomeImprovement net routes wanted l.link need ⊎ IsSettledAt net routes wanted l.link need weights h
link_tried net routes wanted l need weights h formed within shared are below = elim double [
  | inl better ↦ inl better
  | inr twice ↦ elim half [
    | inl better ↦ inl better
    | inr less ↦ inr (settled_at net routes wanted l.link need weights h twice less)
  ]
]
  where
    x : ℕ
    x = slice_index weights h

    changed : (weight : ℕ) → 1 ≤ weight → weight ≤ 2 ^ 28 → AreWeights net (set weights h weight)
    changed weight one few = changed_weights net weights (set weights h weight) h weight refl one few are

    double : SomeImprovement net routes wanted l.link need ⊎ (x ≤ 2 ^ 27 → HelpsNot net routes wanted l.link need (set weights h (2 * x)))
    double = elim (cases_lt (2 ^ 27) x) [
      | inl lt ↦ inr (λ small. absurd (omega (arith, lt, small)))
      | inr small ↦
          elim (weight_tried net routes wanted l need (set weights h (2 * x)) formed within shared (changed (2 * x) (omega (arith, are.some h below)) (omega (arith, small)))) [
            | inl better ↦ inl better
            | inr none ↦ inr (λ again. none)
          ]
    ]

    half : SomeImprovement net routes wanted l.link need ⊎ (2 ≤ x → HelpsNot net routes wanted l.link need (set weights h ((x + 1) / 2)))
    half = elim (cases_lt x 2) [
      | inl lt ↦ inr (λ large. absurd (omega (arith, lt, large)))
      | inr large ↦
          elim (weight_tried net routes wanted l need (set weights h ((x + 1) / 2)) formed within shared
          (changed ((x + 1) / 2) (omega (arith, large)) (omega (arith, are.small h below)))) [
            | inl better ↦ inl better
            | inr none ↦ inr (λ again. none)
          ]
    ]

-- weights are fine, and no step of one of them improves their need
record IsFinished (net : Network) (routes : List PairRoutes) (wanted : DemandSet) (w : Weighting) : Type 0 where
  pub fine : IsFine w.weights w.b
  pub settled : (h : ℕ) → h < link_count net → IsSettledAt net routes wanted w.link w.need w.weights h

-- twice the weights are progress
doubled_exist : (net : Network) (routes : List PairRoutes) (wanted : DemandSet) (l : SharedLink) (w : Weighting) → is_well_formed net ≡ true →
    IsRoutingWithin net routes → IsSharedLink net routes wanted l → IsWeighting net routes wanted w → w.link ≡ l.link →
    IsCoarse w.weights w.b → (new : Weighting) × IsProgress net routes wanted w new
doubled_exist net routes wanted l w formed within shared weighting is coarse =
    let (twice, values) = values_exist (length w.weights) (λ h. 2 * slice_index w.weights h) in
    let doubled : AreDoubled w.weights twice = record { count = values.count; each = values.each } in
    let (new, made) = weighting_exists net routes wanted l twice formed within shared (doubled_weights net w.weights twice weighting.weights_are doubled coarse.0) in
    (new, doubled_progress net routes wanted w new twice formed (omega (arith, is, shared.within)) weighting doubled coarse (made.link_is ∙ sym is) made.weights_are made.weighting)

-- a step of the weights, or they are fine and settled
step_or_finished : (net : Network) (routes : List PairRoutes) (wanted : DemandSet) (l : SharedLink) (w : Weighting) → is_well_formed net ≡ true →
    IsRoutingWithin net routes → IsSharedLink net routes wanted l → IsWeighting net routes wanted w → w.link ≡ l.link →
    ((new : Weighting) × IsProgress net routes wanted w new) ⊎ IsFinished net routes wanted w
step_or_finished net routes wanted l w formed within shared weighting is = elim (fine_or_coarse w.weights w.b) [
  | inl fine ↦
      elim (first_or_all (λ h. SomeImprovement net routes wanted l.link w.need) (IsSettledAt net routes wanted l.link w.need w.weights) (link_count net)
      (λ h below. link_tried net routes wanted l w.need w.weights h formed within shared weighting.weights_are below)) [
        | inl found ↦ inl (found.2.0, improved_progress net routes wanted l.link w found.2.0 is found.2.1)
        | inr settled ↦ inr (record {
          fine = fine;
          settled = λ h below. subst (λ e. IsSettledAt net routes wanted e w.need w.weights h) (sym is) (settled h below);
        })
      ]
  | inr coarse ↦ inl (doubled_exist net routes wanted l w formed within shared weighting is coarse)
]

-- other weights at a place of the list
record IsStepOf (net : Network) (routes : List PairRoutes) (wanted : DemandSet) (list : List Weighting) (k : ℕ) (new : Weighting) : Type 0 where
  pub within : k < length list
  pub progress : IsProgress net routes wanted (weighting_at list k) new

-- a step of the first weights of the greatest need, or the list is done
step_or_done : (net : Network) (routes : List PairRoutes) (wanted : DemandSet) (links : List SharedLink) (start list : List Weighting) → is_well_formed net ≡ true →
    IsRoutingWithin net routes → AreSharedLinks (link_count net) net routes wanted links → AreWeightings net routes wanted links start list →
    ((k : ℕ) × (new : Weighting) × IsStepOf net routes wanted list k new) ⊎ IsDone net routes wanted list
step_or_done net routes wanted links start list formed within are so_far = elim (cases_lt 0 (length list)) [
  | inl some ↦ at_worst (worst_exists (length list) (λ j. (weighting_at list j).need) some)
  | inr none ↦ inr (none_done net routes wanted list (omega (arith, none)))
]
  where
    at_worst : (k : ℕ) × IsWorst (length list) (λ j. (weighting_at list j).need) k →
        ((k : ℕ) × (new : Weighting) × IsStepOf net routes wanted list k new) ⊎ IsDone net routes wanted list
    at_worst (k, worst) =
        let w = weighting_at list k in
        let inside : k < length links = omega (arith, worst.within, so_far.count) in
        elim (step_or_finished net routes wanted (shared_at links k) w formed within (All-get_or (IsSharedLink net routes wanted) links k no_shared inside are.each)
        (so_far.each k inside) (so_far.links_are k inside)) [
          | inl step ↦ inl (k, step.0, record { within = worst.within; progress = step.1 })
          | inr finished ↦ inr (done_at net routes wanted list k worst finished.fine finished.settled)
        ]

-- weights that are polished, by the links and weights at the start
pub record ArePolished (net : Network) (routes : List PairRoutes) (wanted : DemandSet) (links : List SharedLink) (start list : List Weighting) : Type 0 where
  pub weightings : AreWeightings net routes wanted links start list
  pub done : IsDone net routes wanted list

polished_from : (net : Network) (routes : List PairRoutes) (wanted : DemandSet) (links : List SharedLink) (start : List Weighting) → is_well_formed net ≡ true →
    IsRoutingWithin net routes → AreSharedLinks (link_count net) net routes wanted links → (left : ℕ) (list : List Weighting) →
    AreWeightings net routes wanted links start list → gap_in list ≤ left → (made : List Weighting) × ArePolished net routes wanted links start made
polished_from net routes wanted links start formed within are zero list so_far bound =
    elim (step_or_done net routes wanted links start list formed within are so_far) [
      | inl step ↦
          let falls = left_falls net routes wanted list step.0 step.1 step.2.within step.2.progress in
          absurd (omega (arith, falls, bound))
      | inr done ↦ (list, record { weightings = so_far; done = done })
    ]
polished_from net routes wanted links start formed within are (suc left) list so_far bound =
    elim (step_or_done net routes wanted links start list formed within are so_far) [
      | inl step ↦
          let falls = left_falls net routes wanted list step.0 step.1 step.2.within step.2.progress in
          polished_from net routes wanted links start formed within are left (set list step.0 step.1)
          (progress_made net routes wanted links start list step.0 step.1 step.2.within so_far step.2.progress) (omega (arith, falls, bound))
      | inr done ↦ (list, record { weightings = so_far; done = done })
    ]

pub polished_exist : (net : Network) (routes : List PairRoutes) (wanted : DemandSet) (links : List SharedLink) (start : List Weighting) → is_well_formed net ≡ true →
    IsRoutingWithin net routes → AreSharedLinks (link_count net) net routes wanted links → AreWeightings net routes wanted links start start →
    (list : List Weighting) × ArePolished net routes wanted links start list
polished_exist net routes wanted links start formed within are so_far =
    polished_from net routes wanted links start formed within are (gap_in start) start so_far (omega arith)
