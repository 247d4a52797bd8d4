-- The metrics of the rounds, one after the other, and what the best round needs.
use Rattle.std.proofs.Common.{◌≡◌, ℕ, zero, suc, ◌+◌, ◌*◌, ◌^◌, ◌<◌, ◌≤◌, true, Bool, List, Result, Ok, Err, replicate, add-one, arith, refl, ap, sym, subst, ◌∙◌, inl, inr, slice_index, ◌⊎◌}
use Rattle.std.specs.Prelude.{All, IfOk}
use Rattle.std.proofs.lemmas.Bool.{cases_lt}
use Rattle.std.proofs.lemmas.List.{get_or-replicate}
use Rattle.te_model.specs.declared.network.Network.{Network}
use Rattle.te_model.specs.declared.route.PairRoutes.{PairRoutes}
use Rattle.te_model.specs.declared.demand.DemandSet.{DemandSet}
use Rattle.te_model.specs.Network.{is_well_formed, link_count, node_count}
use Rattle.te_model.proofs.WellFormed.{capacities_positive}
use Rattle.best_blocks.specs.declared.metric.Metric.{Metric}
use Rattle.best_blocks.specs.declared.sharing.SharedLink.{SharedLink}
use Rattle.best_blocks.specs.Conditions.{IsRoutingWithin}
use Rattle.best_blocks.specs.Metric.{IsMetric}
use Rattle.best_blocks.specs.Need.{need_by}
use Rattle.best_blocks.specs.Sharing.{IsSharedLink}
use Rattle.best_blocks.specs.Under.{IsNeedUnder}
use Rattle.best_blocks.proofs.NeedLaws.{needs_are_one}
use Rattle.ratio_certificate.specs.declared.raising.NextRound.{NextRound}
use Rattle.ratio_certificate.specs.declared.weighting.Weighting.{Weighting}
use Rattle.ratio_certificate.specs.Problems.{IsStartingMetric}
use Rattle.ratio_certificate.specs.Rising.{IsRoundAfter, IsRoundMetric, NeedsNoMore}
use Rattle.ratio_certificate.specs.Rounds.{greatest_of_round, starting_weights, IsNextRound, IsWeightRound}
use Rattle.ratio_certificate.specs.Weighting.{AreWeights, IsWeighting}
use Rattle.ratio_certificate.proofs.StartingNeed.{starting_need}
use Rattle.ratio_certificate.proofs.Weighed.{all_small, scale_within}

-- the greatest weights never fall from round to round
round_up_to : (k n : ℕ) → k ≤ n → greatest_of_round k ≤ greatest_of_round n
round_up_to k zero less = let e : k ≡ 0 = omega arith in rw e (omega arith)
round_up_to k (suc n) less = elim (cases_lt n k) [
  | inl lt ↦ let e : k ≡ suc n = omega arith in rw e (omega arith)
  | inr ge ↦ omega (arith, round_up_to k n ge)
]

rounds_small : (k : ℕ) → k ≤ 15 → greatest_of_round k ≤ 2 ^ 28
rounds_small k few = let last : greatest_of_round 15 ≤ 2 ^ 28 = omega arith in omega (arith, round_up_to k 15 few, last)

-- the weights of a round are from 1 to 2^28
pub round_weights : (net : Network) (routes : List PairRoutes) (l : SharedLink) (k : ℕ) (m : Metric) → k ≤ 15 → IsRoundMetric net routes l k m → AreWeights net m.weights
round_weights net routes l k m few is = record {
  count = is.metric.count;
  some = λ h below. omega (arith, is.low h below);
  small = λ h below. omega (arith, is.high h below, rounds_small k few);
}

pub first_round : (net : Network) (routes : List PairRoutes) (l : SharedLink) (m : Metric) → IsMetric net routes l.marks m →
    m.weights ≡ replicate (link_count net) (2 ^ 20) → IsRoundMetric net routes l 0 m
first_round net routes l m metric are = record {
  metric = metric;
  low = λ h below. omega (arith, each h below);
  high = λ h below. omega (arith, each h below);
  only = λ weights is. is ∙ sym are;
}
  where
    each : (h : ℕ) → h < link_count net → slice_index m.weights h ≡ 2 ^ 20
    each h below = ap (λ (ws : List ℕ). slice_index ws h) are ∙ get_or-replicate (link_count net) h (2 ^ 20) 0 below

-- the metric that was made of the starting weights, if it was
pub first_made : {E : Type 0} (net : Network) (routes : List PairRoutes) (l : SharedLink) (marks : List Bool) (weights : List ℕ) (r : Result Metric E) → marks ≡ l.marks →
    weights ≡ replicate (link_count net) (2 ^ 20) → IfOk r (λ m. IsMetric net routes marks m) → IfOk r (λ m. m.weights ≡ weights) → IfOk r (IsRoundMetric net routes l 0)
first_made net routes l marks weights (Ok m) is_marks are metric kept =
    first_round net routes l m (subst (λ (x : List Bool). IsMetric net routes x m) is_marks metric) (kept ∙ are)
first_made net routes l marks weights (Err e) is_marks are metric kept = tt

-- the metric with a row for each node, if it was made
pub starting_made : {E : Type 0} (net : Network) (routes : List PairRoutes) (marks : List Bool) (weights : List ℕ) (r : Result Metric E) →
    marks ≡ replicate (node_count net) true → weights ≡ replicate (link_count net) (2 ^ 20) → IfOk r (λ m. IsMetric net routes marks m) →
    IfOk r (λ m. m.weights ≡ weights) → IfOk r (IsStartingMetric net routes)
starting_made net routes marks weights (Ok m) is_marks are metric kept =
    record { metric = subst (λ (x : List Bool). IsMetric net routes x m) is_marks metric; weights_are = kept ∙ are }
starting_made net routes marks weights (Err e) is_marks are metric kept = tt

-- the next round's weights stay small
next_high : (net : Network) (routes : List PairRoutes) (l : SharedLink) (k : ℕ) (m : Metric) (next : NextRound) → IsRoundMetric net routes l k m →
    IsRoundAfter net routes l.link m.weights next → (h : ℕ) → h < link_count net → slice_index next.weights h ≤ greatest_of_round (suc k)
next_high net routes l k m next is after h below =
    omega (arith, (after.more h (omega (arith, below, is.metric.count))).1, is.high h below)

pub next_small : (net : Network) (routes : List PairRoutes) (l : SharedLink) (k : ℕ) (m : Metric) (next : NextRound) → k < 15 → IsRoundMetric net routes l k m →
    IsRoundAfter net routes l.link m.weights next → All (λ w. w ≤ 2 ^ 28) next.weights
next_small net routes l k m next few is after =
    all_small next.weights (link_count net) (2 ^ 28) (after.count ∙ is.metric.count)
    (λ h below. omega (arith, next_high net routes l k m next is after h below, rounds_small (suc k) (omega arith)))

pub round_after_round : (net : Network) (routes : List PairRoutes) (l : SharedLink) (k : ℕ) (m m' : Metric) (next : NextRound) → IsRoundMetric net routes l k m →
    IsRoundAfter net routes l.link m.weights next → IsMetric net routes l.marks m' → m'.weights ≡ next.weights → IsRoundMetric net routes l (k + 1) m'
round_after_round net routes l k m m' next is after metric are =
    subst (λ j. IsRoundMetric net routes l j m') (sym (add-one k)) (record {
      metric = metric;
      low = λ h below.
          let more = (after.more h (omega (arith, below, is.metric.count))).0 in
          subst (λ (ws : List ℕ). 2 ^ 20 ≤ slice_index ws h) (sym are) (omega (arith, more, is.low h below));
      high = λ h below.
          subst (λ (ws : List ℕ). slice_index ws h ≤ greatest_of_round (suc k)) (sym are) (next_high net routes l k m next is after h below);
      only = λ weights (before, earlier, follows).
          after.only weights (subst (λ (ws : List ℕ). IsNextRound net routes l.link ws weights) (is.only before earlier) follows) ∙ sym are;
    })

-- the metric that was made of the next round's weights, if it was
pub next_made : {E : Type 0} (net : Network) (routes : List PairRoutes) (l : SharedLink) (k : ℕ) (m : Metric) (next : NextRound) (marks : List Bool) (weights : List ℕ)
    (r : Result Metric E) → marks ≡ l.marks → weights ≡ next.weights → IsRoundMetric net routes l k m → IsRoundAfter net routes l.link m.weights next →
    IfOk r (λ m. IsMetric net routes marks m) → IfOk r (λ m. m.weights ≡ weights) → IfOk r (IsRoundMetric net routes l (k + 1))
next_made net routes l k m next marks weights (Ok m') is_marks are is after metric kept =
    round_after_round net routes l k m m' next is after (subst (λ (x : List Bool). IsMetric net routes x m') is_marks metric) (kept ∙ are)
next_made net routes l k m next marks weights (Err e) is_marks are is after metric kept = tt

-- what the weights of a round need is one number
pub round_need : (net : Network) (routes : List PairRoutes) (set : DemandSet) (l : SharedLink) (k : ℕ) (m : Metric) (w : Weighting) → is_well_formed net ≡ true →
    IsSharedLink net routes set l → IsRoundMetric net routes l k m → IsWeighting net routes set w → w.link ≡ l.link → w.weights ≡ m.weights →
    (weights : List ℕ) → IsWeightRound net routes l.link k weights → (need : ℕ) → IsNeedUnder net routes set l.link weights need → w.need ≡ need
round_need net routes set l k m w formed shared is weighting link_is weights_are weights round need under =
    needs_are_one net routes set l.link m.weights w.need need (capacities_positive net formed l.link shared.within)
    (subst (λ (ws : List ℕ). IsNeedUnder net routes set l.link ws w.need) weights_are
    (subst (λ e. IsNeedUnder net routes set e w.weights w.need) link_is (record { a = w.a; b = w.b; scale = weighting.scale_is; need_is = weighting.need_is })))
    (subst (λ (ws : List ℕ). IsNeedUnder net routes set l.link ws need) (is.only weights round) under)

pub first_least : (net : Network) (routes : List PairRoutes) (set : DemandSet) (l : SharedLink) (m : Metric) (w : Weighting) → is_well_formed net ≡ true →
    IsSharedLink net routes set l → IsRoundMetric net routes l 0 m → IsWeighting net routes set w → w.link ≡ l.link → w.weights ≡ m.weights →
    NeedsNoMore net routes set l.link 0 w
first_least net routes set l m w formed shared is weighting link_is weights_are j few weights round need under =
    let zero_is : j ≡ 0 = omega arith in
    let same = round_need net routes set l 0 m w formed shared is weighting link_is weights_are weights
    (subst (λ i. IsWeightRound net routes l.link i weights) zero_is round) need under
    in
    omega (arith, same)

-- the lesser of two is one of them
pub chosen : (first second result : Weighting) → (first.need ≤ second.need → result ≡ first) → (second.need < first.need → result ≡ second) →
    ((result ≡ first) ⊎ (result ≡ second)) × (result.need ≤ first.need) × (result.need ≤ second.need)
chosen first second result keeps takes = elim (cases_lt second.need first.need) [
  | inl lt ↦ let same = ap (λ (w : Weighting). w.need) (takes lt) in (inr (takes lt), omega (arith, same, lt), omega (arith, same))
  | inr ge ↦ let same = ap (λ (w : Weighting). w.need) (keeps ge) in (inl (keeps ge), omega (arith, same), omega (arith, same, ge))
]

-- what holds of both holds of the lesser
pub lesser_is : (P : Weighting → Type 0) (first second result : Weighting) → (first.need ≤ second.need → result ≡ first) → (second.need < first.need → result ≡ second) →
    P first → P second → P result
lesser_is P first second result keeps takes one two = elim (chosen first second result keeps takes).0 [
  | inl same ↦ subst P (sym same) one
  | inr same ↦ subst P (sym same) two
]

pub lesser_small : (limit : ℕ) (first second result : Weighting) → (first.need ≤ second.need → result ≡ first) → (second.need < first.need → result ≡ second) →
    first.need ≤ limit → result.need ≤ limit
lesser_small limit first second result keeps takes small = omega (arith, (chosen first second result keeps takes).1, small)

pub next_least : (net : Network) (routes : List PairRoutes) (set : DemandSet) (l : SharedLink) (k : ℕ) (m : Metric) (best other w : Weighting) → is_well_formed net ≡ true →
    IsSharedLink net routes set l → IsRoundMetric net routes l (k + 1) m → IsWeighting net routes set other → other.link ≡ l.link → other.weights ≡ m.weights →
    (best.need ≤ other.need → w ≡ best) → (other.need < best.need → w ≡ other) → NeedsNoMore net routes set l.link k best →
    NeedsNoMore net routes set l.link (k + 1) w
next_least net routes set l k m best other w formed shared is weighting link_is weights_are keeps takes least j few weights round need under =
    let bounds = chosen best other w keeps takes in
    elim (cases_lt k j) [
      | inl lt ↦
          let last : j ≡ k + 1 = omega arith in
          let same = round_need net routes set l (k + 1) m other formed shared is weighting link_is weights_are weights
          (subst (λ i. IsWeightRound net routes l.link i weights) last round) need under
          in
          omega (arith, bounds.2, same)
      | inr ge ↦ omega (arith, bounds.1, least j ge weights round need under)
    ]

-- what the first round needs is within the limit of ratios
pub first_small : (net : Network) (routes : List PairRoutes) (set : DemandSet) (l : SharedLink) (m : Metric) (w : Weighting) → is_well_formed net ≡ true →
    IsRoutingWithin net routes → IsSharedLink net routes set l → IsRoundMetric net routes l 0 m → IsWeighting net routes set w → w.link ≡ l.link → w.weights ≡ m.weights →
    w.need ≤ 1000000 * 2 ^ 42
first_small net routes set l m w formed within shared is weighting link_is weights_are =
    let are : starting_weights net ≡ w.weights = is.only (starting_weights net) refl ∙ sym weights_are in
    let inside : w.link < link_count net = omega (arith, shared.within, link_is) in
    let large : (h : ℕ) → h < link_count net → 2 ^ 20 ≤ slice_index w.weights h =
    λ h below. subst (λ (ws : List ℕ). 2 ^ 20 ≤ slice_index ws h) (sym weights_are) (is.low h below)
    in
    let bounds = scale_within net routes set w.link (2 ^ 20) w.a w.b w.weights formed within (omega arith) weighting.weights_are large weighting.scale_is in
    let bound : need_by net w.link w.weights w.a w.b ≤ 1000000 * 2 ^ 42 =
    subst (λ (ws : List ℕ). need_by net w.link ws w.a w.b ≤ 1000000 * 2 ^ 42) are
    (starting_need net w.link w.a w.b formed inside (omega (arith, bounds.a_small)) bounds.b_large)
    in
    subst (λ n. n ≤ 1000000 * 2 ^ 42) (sym weighting.need_is) bound
