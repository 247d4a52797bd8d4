-- That a block has a better block or none.
use Rattle.std.proofs.Common.{◌≡◌, ℕ, ◌+◌, ◌*◌, ◌/◌, ◌^◌, ◌<◌, ◌≤◌, ◌⊎◌, Bool, true, false, List, length, arith, refl, subst, ◌∙◌, inl, inr, set, slice_index}
use Rattle.std.proofs.lemmas.Bool.{cases_lt}
use Rattle.std.proofs.lemmas.List.{length-set}
use Rattle.std.proofs.lemmas.List.Elements.{All-set}
use Rattle.std.specs.Prelude.{All}
use Rattle.te_model.specs.declared.network.Network.{Network}
use Rattle.te_model.specs.declared.route.PairRoutes.{PairRoutes}
use Rattle.te_model.specs.declared.certificate.Block.{Block}
use Rattle.te_model.specs.declared.demand.DemandSet.{DemandSet}
use Rattle.te_model.specs.declared.demand.DemandSet.TheVariants.{All as AllMatrices, Margin, Box}
use Rattle.te_model.specs.declared.units.TheConstants.{SHARE_UNIT}
use Rattle.te_model.specs.Network.{is_well_formed, link_count}
use Rattle.te_model.proofs.Searches.{both_or_not, first_or_all}
use Rattle.best_blocks.specs.declared.metric.Metric.{Metric}
use Rattle.best_blocks.specs.declared.sharing.SharedLink.{SharedLink}
use Rattle.best_blocks.specs.Best.{balances, IsBestBlock, IsBestScale, IsScaleBetween}
use Rattle.best_blocks.specs.Conditions.{IsRoutingWithin}
use Rattle.best_blocks.specs.Metric.{IsMetric}
use Rattle.best_blocks.specs.Need.{need_of, HasNumbers}
use Rattle.best_blocks.specs.Scale.{HasNoScale}
use Rattle.best_blocks.specs.Sharing.{HasShare, IsSharedLink}
use Rattle.best_blocks.proofs.BlockMade.{block_is}
use Rattle.best_blocks.proofs.BlocksExist.{potential_rows_exist}
use Rattle.best_blocks.proofs.Growing.{greatest_passing}
use Rattle.best_blocks.proofs.MetricsExist.{metric_exists}
use Rattle.best_blocks.proofs.ScalesExist.{balance_exists, greatest_quotient_exists}
use Rattle.best_blocks.proofs.SharedExist.{shared_link_exists}
use Rattle.ratio_certificate.specs.Better.{IsBetterBlock}
use Rattle.ratio_certificate.specs.BlockChanges.{HasNoBetterStep, HasNoBetterWith}
use Rattle.ratio_certificate.specs.Polished.{HasNoBetterChange, IsDoublingOrHalving}
use Rattle.ratio_certificate.proofs.BetterBlocks.{better_with, no_best_under, no_better_change, no_better_step, no_better_with, stepped_small, weights_small}

-- a best scale for every matrix, or a share without a distance
all_scale_or_none : (n : ℕ) (shares distance : ℕ → ℕ) → (p : ℕ) × (p < n) × (0 < shares p) →
    ((a : ℕ) × (b : ℕ) × IsBestScale AllMatrices n shares distance a b) ⊎ HasNoScale AllMatrices n shares distance
all_scale_or_none n shares distance some =
    elim (first_or_all (λ p. (0 < shares p) × (distance p ≡ 0)) (λ p. 0 < shares p → 1 ≤ distance p) n (λ p below. free_or_far p)) [
      | inl found ↦ inr (found.0, found.1, found.2.0, found.2.1)
      | inr apart ↦
          let (q, best) = greatest_quotient_exists n shares distance apart some in
          inl (q.share, q.distance, record { apart = apart; quotient = best.0 })
    ]
  where
    free_or_far : (p : ℕ) → ((0 < shares p) × (distance p ≡ 0)) ⊎ (0 < shares p → 1 ≤ distance p)
    free_or_far p = elim (cases_lt 0 (distance p)) [
      | inl far ↦ inr (λ more. omega (arith, far))
      | inr near ↦ elim (cases_lt 0 (shares p)) [
        | inl more ↦ inl (more, omega (arith, near))
        | inr none ↦ inr (λ more. absurd (omega (arith, none, more)))
      ]
    ]

-- a best scale between bounds, or sums that even 1 does not balance
between_or_none : (lower upper : ℕ → ℕ) (n : ℕ) (shares distance : ℕ → ℕ) →
    ((a : ℕ) × (b : ℕ) × IsScaleBetween lower upper n shares distance a b) ⊎ (balances lower upper n shares distance 1 ≡ false)
between_or_none lower upper n shares distance = go (balances lower upper n shares distance 1) refl
  where
    go : (t : Bool) → balances lower upper n shares distance 1 ≡ t →
        ((a : ℕ) × (b : ℕ) × IsScaleBetween lower upper n shares distance a b) ⊎ (balances lower upper n shares distance 1 ≡ false)
    go true is =
        let (b, best) = greatest_passing (balances lower upper n shares distance) (2 ^ 36) (omega arith) is in
        inl (
          SHARE_UNIT,
          b,
          record { unit = refl; balance = record { some = best.some; small = best.small; balanced = best.passes; greatest = best.greatest } },
        )
    go false is = inr is

-- a best scale, or none
pub scale_or_none : (wanted : DemandSet) (n : ℕ) (shares distance : ℕ → ℕ) → (p : ℕ) × (p < n) × (0 < shares p) →
    ((a : ℕ) × (b : ℕ) × IsBestScale wanted n shares distance a b) ⊎ HasNoScale wanted n shares distance
scale_or_none AllMatrices n shares distance some = all_scale_or_none n shares distance some
scale_or_none (Margin num den base) n shares distance some = between_or_none _ _ n shares distance
scale_or_none (Box lower upper) n shares distance some = between_or_none _ _ n shares distance

-- the best block of a metric, or no scale
metric_block_or_none : (net : Network) (routes : List PairRoutes) (wanted : DemandSet) (l : SharedLink) (m : Metric) → is_well_formed net ≡ true →
    IsRoutingWithin net routes → IsSharedLink net routes wanted l → IsMetric net routes l.marks m →
    ((block : Block) × IsBestBlock net routes wanted l.link m.weights block)
    ⊎ HasNoScale wanted (length routes) (slice_index l.shares) (slice_index m.distances)
metric_block_or_none net routes wanted l m formed within shared metric =
    let (p, below, share) = shared.some in
    elim (scale_or_none wanted (length routes) (slice_index l.shares) (slice_index m.distances) (p, below, omega (arith, share, shared.shares_are.each p below))) [
      | inl found ↦
          let (plus, minus, balance) = balance_exists wanted (length routes) (slice_index l.shares) (slice_index m.distances) found.1 in
          let (rows, are) = potential_rows_exist net m.weights l.marks m.rows formed metric.rows_are in
          inl (
            record { link = l.link; a = found.0; b = found.1; weights = m.weights; rows = rows; plus = plus; minus = minus },
            block_is net routes wanted l m found.0 found.1 m.weights plus minus m.weights rows rows within shared metric found.2 balance are refl refl refl,
          )
      | inr none ↦ inr none
    ]

-- the best block of any weights of a link with a share, or none
pub best_block_or_none : (net : Network) (routes : List PairRoutes) (wanted : DemandSet) (e : ℕ) (weights : List ℕ) → is_well_formed net ≡ true →
    IsRoutingWithin net routes → HasShare routes e → length weights ≡ link_count net → All (λ w. w ≤ 2 ^ 28) weights →
    ((block : Block) × IsBestBlock net routes wanted e weights block) ⊎ ((block : Block) → IsBestBlock net routes wanted e weights block → ⊥)
best_block_or_none net routes wanted e weights formed within some count small =
    let (l, shared, link_is) = shared_link_exists net routes wanted e within some in
    let (m, metric, weights_are) = metric_exists net routes l.marks weights formed count small in
    elim (metric_block_or_none net routes wanted l m formed within shared metric) [
      | inl found ↦
          inl (
            found.0,
            subst (λ k. IsBestBlock net routes wanted k weights found.0) link_is
                (subst (λ (ws : List ℕ). IsBestBlock net routes wanted l.link ws found.0) weights_are found.1),
          )
      | inr none ↦ inr (no_best_under net routes wanted l m e weights within shared metric link_is weights_are none)
    ]

-- a block is better, or no best block of the weights with this one on link h is
weight_tried : (net : Network) (routes : List PairRoutes) (wanted : DemandSet) (old : Block) (h weight : ℕ) → is_well_formed net ≡ true →
    IsRoutingWithin net routes → HasShare routes old.link → HasNumbers net old → h < link_count net → IsDoublingOrHalving (slice_index old.weights h) weight →
    ((new : Block) × IsBetterBlock net routes wanted old new) ⊎ HasNoBetterWith net routes wanted old h weight
weight_tried net routes wanted old h weight formed within some has below step =
    elim (best_block_or_none net routes wanted old.link (set old.weights h weight) formed within some (length-set old.weights h weight ∙ has.weights)
    (All-set (λ w. w ≤ 2 ^ 28) old.weights h weight (stepped_small net old h weight has step) (weights_small net old has))) [
      | inl found ↦
          elim (both_or_not (need_of net found.0) (need_of net old) (64 * need_of net found.0) (63 * need_of net old)) [
            | inl better ↦ inl (found.0, better_with net routes wanted old h weight found.0 has below step found.1 better)
            | inr worse ↦ inr (no_better_with net routes wanted old h weight found.0 formed has found.1 worse)
          ]
      | inr none ↦ inr (λ new best better. none new best)
    ]

-- a step of the weight of link h gives a better block, or none does
link_tried : (net : Network) (routes : List PairRoutes) (wanted : DemandSet) (old : Block) (h : ℕ) → is_well_formed net ≡ true → IsRoutingWithin net routes →
    HasShare routes old.link → HasNumbers net old → h < link_count net →
    ((new : Block) × IsBetterBlock net routes wanted old new) ⊎ HasNoBetterStep net routes wanted old h
link_tried net routes wanted old h formed within some has below = elim double [
  | inl better ↦ inl better
  | inr twice ↦ elim half [
    | inl better ↦ inl better
    | inr less ↦ inr (no_better_step net routes wanted old h twice less)
  ]
]
  where
    x : ℕ
    x = slice_index old.weights h

    double : ((new : Block) × IsBetterBlock net routes wanted old new) ⊎ ((1 ≤ x) × (x ≤ 2 ^ 27) → HasNoBetterWith net routes wanted old h (2 * x))
    double = elim (both_or_not 0 x x (2 ^ 27)) [
      | inl within_limits ↦
          elim (weight_tried net routes wanted old h (2 * x) formed within some has below (inl (omega (arith, within_limits.0), within_limits.1, refl))) [
            | inl better ↦ inl better
            | inr none ↦ inr (λ again. none)
          ]
      | inr not ↦ inr (λ are. absurd (not (omega (arith, are.0), are.1)))
    ]

    half : ((new : Block) × IsBetterBlock net routes wanted old new) ⊎ (2 ≤ x → HasNoBetterWith net routes wanted old h ((x + 1) / 2))
    half = elim (cases_lt x 2) [
      | inl lt ↦ inr (λ large. absurd (omega (arith, lt, large)))
      | inr large ↦ elim (weight_tried net routes wanted old h ((x + 1) / 2) formed within some has below (inr (large, refl))) [
        | inl better ↦ inl better
        | inr none ↦ inr (λ again. none)
      ]
    ]

-- a block has a better block, or no change of one weight has one
pub better_or_none : (net : Network) (routes : List PairRoutes) (wanted : DemandSet) (old : Block) → is_well_formed net ≡ true → IsRoutingWithin net routes →
    HasShare routes old.link → HasNumbers net old → ((new : Block) × IsBetterBlock net routes wanted old new) ⊎ HasNoBetterChange net routes wanted old
better_or_none net routes wanted old formed within some has =
    elim (first_or_all (λ h. (new : Block) × IsBetterBlock net routes wanted old new) (HasNoBetterStep net routes wanted old) (link_count net)
    (λ h below. link_tried net routes wanted old h formed within some has below)) [
      | inl found ↦ inl (found.2.0, found.2.1)
      | inr settled ↦ inr (no_better_change net routes wanted old has settled)
    ]
