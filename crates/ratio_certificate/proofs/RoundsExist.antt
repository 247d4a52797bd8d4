-- That each link with a share has its rounds.
use Rattle.std.proofs.Common.{◌≡◌, ℕ, ◌+◌, ◌*◌, ◌^◌, ◌<◌, ◌≤◌, true, List, None, replicate, arith, refl, inl, inr, ◌∙◌}
use Rattle.std.proofs.lemmas.Bool.{cases_lt}
use Rattle.std.proofs.lemmas.List.{length-replicate}
use Rattle.std.proofs.lemmas.List.Elements.{All-replicate}
use Rattle.te_model.specs.declared.network.Network.{Network}
use Rattle.te_model.specs.declared.route.PairRoutes.{PairRoutes}
use Rattle.te_model.specs.declared.demand.DemandSet.{DemandSet}
use Rattle.te_model.specs.Network.{is_well_formed, link_count}
use Rattle.te_model.proofs.Choices.{step_by_step}
use Rattle.best_blocks.specs.declared.sharing.SharedLink.{SharedLink}
use Rattle.best_blocks.specs.Conditions.{IsRoutingWithin}
use Rattle.best_blocks.specs.Sharing.{IsSharedLink}
use Rattle.best_blocks.proofs.MetricsExist.{metric_exists}
use Rattle.ratio_certificate.specs.declared.rounds.Rounds.{Rounds}
use Rattle.ratio_certificate.specs.declared.weighting.Weighting.{Weighting}
use Rattle.ratio_certificate.specs.Rising.{AreRoundsTo}
use Rattle.ratio_certificate.specs.Weighting.{IsWeighting}
use Rattle.ratio_certificate.proofs.NextRoundExists.{next_round_exists}
use Rattle.ratio_certificate.proofs.RoundMetrics.{first_least, first_round, first_small, lesser_is, lesser_small, next_least, next_small, round_after_round, round_weights}
use Rattle.ratio_certificate.proofs.WeightingsExist.{metric_weighting_exists}

-- the lesser of two, and the first of equal ones
pub lesser_exists : (first second : Weighting) → (w : Weighting) × (first.need ≤ second.need → w ≡ first) × (second.need < first.need → w ≡ second)
lesser_exists first second = elim (cases_lt second.need first.need) [
  | inl lt ↦ (second, λ le. absurd (omega (arith, lt, le)), λ less. refl)
  | inr ge ↦ (first, λ le. refl, λ less. absurd (omega (arith, ge, less)))
]

first_rounds_exist : (net : Network) (routes : List PairRoutes) (wanted : DemandSet) (l : SharedLink) → is_well_formed net ≡ true →
    IsRoutingWithin net routes → IsSharedLink net routes wanted l → (r : Rounds) × AreRoundsTo 0 net routes wanted l r
first_rounds_exist net routes wanted l formed within shared =
    let (m, metric, same) =
    metric_exists net routes l.marks (replicate (link_count net) (2 ^ 20)) formed (length-replicate (link_count net) (2 ^ 20))
    (All-replicate (λ w. w ≤ 2 ^ 28) (link_count net) (2 ^ 20) (omega arith))
    in
    let round = first_round net routes l m metric same in
    let (w, is) = metric_weighting_exists net routes wanted l m within shared metric (round_weights net routes l 0 m (omega arith) round) in (
      record { metric = m; best = w; searches = None },
      record {
        metric = round;
        link = is.link_is;
        weighting = is.weighting;
        least = first_least net routes wanted l m w formed shared round is.weighting is.link_is is.weights_are;
        small = first_small net routes wanted l m w formed within shared round is.weighting is.link_is is.weights_are;
        along = tt;
      },
    )

next_rounds_exist : (net : Network) (routes : List PairRoutes) (wanted : DemandSet) (l : SharedLink) (k : ℕ) (r : Rounds) →
    is_well_formed net ≡ true → IsRoutingWithin net routes → IsSharedLink net routes wanted l → k < 15 → AreRoundsTo k net routes wanted l r →
    (next : Rounds) × AreRoundsTo (k + 1) net routes wanted l next
next_rounds_exist net routes wanted l k r formed within shared few are =
    let old = r.metric in
    let (next, after) =
    next_round_exists net routes wanted l old formed within shared are.metric.metric (round_weights net routes l k old (omega arith) are.metric)
    in
    let (m, metric, same) =
    metric_exists net routes l.marks next.weights formed (after.count ∙ are.metric.metric.count) (next_small net routes l k old next few are.metric after)
    in
    let round = round_after_round net routes l k old m next are.metric after metric same in
    let (found, is) = metric_weighting_exists net routes wanted l m within shared metric (round_weights net routes l (k + 1) m (omega arith) round) in
    let (w, keeps, takes) = lesser_exists r.best found in (
      record { metric = m; best = w; searches = None },
      record {
        metric = round;
        link = lesser_is (λ x. x.link ≡ l.link) r.best found w keeps takes are.link is.link_is;
        weighting = lesser_is (IsWeighting net routes wanted) r.best found w keeps takes are.weighting is.weighting;
        least = next_least net routes wanted l k m r.best found w formed shared round is.weighting is.link_is is.weights_are keeps takes are.least;
        small = lesser_small (1000000 * 2 ^ 42) r.best found w keeps takes are.small;
        along = tt;
      },
    )

-- the rounds from 0 to 15 of a link
pub rounds_exist : (net : Network) (routes : List PairRoutes) (wanted : DemandSet) (l : SharedLink) → is_well_formed net ≡ true →
    IsRoutingWithin net routes → IsSharedLink net routes wanted l → (r : Rounds) × AreRoundsTo 15 net routes wanted l r
rounds_exist net routes wanted l formed within shared =
    step_by_step (λ k (r : Rounds). AreRoundsTo k net routes wanted l r) 15 (first_rounds_exist net routes wanted l formed within shared)
    (λ k r few are. next_rounds_exist net routes wanted l k r formed within shared few are) 15 (omega arith)
