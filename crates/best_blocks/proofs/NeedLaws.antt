-- Weights have one need, and twice the weights have no greater one.
use Rattle.std.proofs.Common.{◌≡◌, ℕ, ◌*◌, ◌^◌, ◌<◌, ◌≤◌, true, false, List, length, arith, refl, ap, sym, subst, ◌∙◌, inl, inr, slice_index}
use Rattle.std.proofs.lemmas.Bool.{cases_lt, leb-true, le-leb, lt-ltb}
use Rattle.std.proofs.Math.Nat.{mul-le-mul_left, le_of_mul-le-mul_left}
use Rattle.std.proofs.lemmas.Nat.{mul-le}
use Rattle.te_model.specs.declared.network.Network.{Network}
use Rattle.te_model.specs.declared.route.PairRoutes.{PairRoutes}
use Rattle.te_model.specs.declared.certificate.Block.{Block}
use Rattle.te_model.specs.declared.demand.DemandSet.{DemandSet}
use Rattle.te_model.specs.declared.demand.DemandSet.TheVariants.{All as AllMatrices, Margin, Box}
use Rattle.te_model.specs.declared.units.TheConstants.{SHARE_UNIT}
use Rattle.te_model.specs.Division.{quotient_up}
use Rattle.te_model.specs.Inequalities.{capacity_by}
use Rattle.te_model.specs.Network.{link_count, capacity_of}
use Rattle.te_model.specs.Path.{source_of, destination_of}
use Rattle.te_model.proofs.Quotients.{quotient_up-enough, quotient_up-least}
use Rattle.te_model.proofs.Sums.{sum_below-le, sum_below-mul, sum_below-same}
use Rattle.shortest_path.proofs.Double.{distance_doubles}
use Rattle.shortest_path.proofs.Unique.{distance_unique}
use Rattle.best_blocks.specs.Best.{weighed_share, plus_amount, minus_amount, balances, needs_row, IsBestBlock, IsBestScale, IsScaleBetween, IsScaleForAll}
use Rattle.best_blocks.specs.Need.{need_by, need_of}
use Rattle.best_blocks.specs.Under.{IsNeedUnder, IsScaleUnder}
use Rattle.best_blocks.proofs.Balances.{balances-same}

-- cost by cost and unit by unit: a smaller quotient has no greater need
need_less : (a a' w w' b b' c : ℕ) → 1 ≤ b → 1 ≤ b' → 1 ≤ c → a' * w' * b ≤ a * w * b' →
    quotient_up (a' * 1000000 * w') (b' * 1000000 * c) ≤ quotient_up (a * 1000000 * w) (b * 1000000 * c)
need_less a a' w w' b b' c some some' some_c less =
    let one = mul-le 1 1 b c some some_c in
    let two = mul-le 1 1 b' c some' some_c in
    let q = quotient_up (a * 1000000 * w) (b * 1000000 * c) in
    let enough : a * 1000000 * w ≤ q * (b * 1000000 * c) = quotient_up-enough (a * 1000000 * w) (b * 1000000 * c) (omega (arith, one)) in
    let scaled : b' * (a * 1000000 * w) ≤ b' * (q * (b * 1000000 * c)) = mul-le-mul_left b' enough in
    let both : b * (a' * 1000000 * w') ≤ b * (q * (b' * 1000000 * c)) = omega (arith, less, scaled) in
    quotient_up-least (a' * 1000000 * w') (b' * 1000000 * c) q (omega (arith, two)) (le_of_mul-le-mul_left both some)

-- For distances that are k times as far, a / b is a k-th at most; the numbers k that follow are 1 and 2.
times_for_all : (k n : ℕ) (shares distance shares' distance' : ℕ → ℕ) (a b a' b' : ℕ) → 1 ≤ k →
    ((p : ℕ) → p < n → shares' p ≡ shares p) → ((p : ℕ) → p < n → 0 < shares p → distance' p ≡ k * distance p) →
    IsScaleForAll n shares distance a b → IsScaleForAll n shares' distance' a' b' → (1 ≤ b) × (1 ≤ b') × (k * (a' * b) ≤ a * b')
times_for_all k n shares distance shares' distance' a b a' b' some same far best best' =
    let q = best.quotient in
    let r = best'.quotient in
    let share_is : a' ≡ shares r.pair = r.share_is ∙ same r.pair r.within in
    let positive : 0 < shares r.pair = omega (arith, r.positive, same r.pair r.within) in
    let bound : a' * b ≤ a * distance r.pair = subst (λ x. x * b ≤ a * distance r.pair) (sym share_is) (q.greatest r.pair r.within) in
    let far_is : b' ≡ k * distance r.pair = r.distance_is ∙ far r.pair r.within positive in
    let scaled : k * (a' * b) ≤ k * (a * distance r.pair) = mul-le-mul_left k bound in
    let right : a * b' ≡ k * (a * distance r.pair) = rw far_is (omega arith) in (
      omega (arith, best.apart q.pair q.within q.positive, q.distance_is),
      omega (arith, best'.apart r.pair r.within r.positive, r.distance_is),
      omega (arith, scaled, right),
    )

between_times : (k : ℕ) (lower upper : ℕ → ℕ) (n : ℕ) (shares distance shares' distance' : ℕ → ℕ) (a b a' b' : ℕ) →
    balances lower upper n shares' distance' (k * b) ≡ true → k * b ≤ 2 ^ 36 →
    IsScaleBetween lower upper n shares distance a b → IsScaleBetween lower upper n shares' distance' a' b' → (1 ≤ b) × (1 ≤ b') × (k * (a' * b) ≤ a * b')
between_times k lower upper n shares distance shares' distance' a b a' b' there small best best' =
    let times : k * b ≤ b' = elim (cases_lt b' (k * b)) [
      | inl lt ↦ let contrary : false ≡ true = sym (best'.balance.greatest (k * b) lt small) ∙ there in cc
      | inr ge ↦ ge
    ]
    in
    let unit : a' ≡ a = best'.unit ∙ sym best.unit in
    let bound = mul-le-mul_left a times in
    let left : k * (a' * b) ≡ a * (k * b) = rw unit (omega arith) in
    (best.balance.some, best'.balance.some, omega (arith, bound, left))

-- twice the number asks for at most twice as much
asked_doubles : (b s : ℕ) → weighed_share (2 * b) s ≤ 2 * weighed_share b s
asked_doubles b s =
    let enough = quotient_up-enough (b * s) SHARE_UNIT (omega arith) in
    quotient_up-least (2 * b * s) SHARE_UNIT (2 * weighed_share b s) (omega arith) (omega (arith, enough))

-- what balances the distances, doubled balances twice the distances
balance_doubles : (lower upper : ℕ → ℕ) (n : ℕ) (shares distance : ℕ → ℕ) (b : ℕ) →
    balances lower upper n shares distance b ≡ true → balances lower upper n shares (λ p. 2 * distance p) (2 * b) ≡ true
balance_doubles lower upper n shares distance b is =
    let gain =
    sum_below-le n (λ p. upper p * plus_amount shares (λ p. 2 * distance p) (2 * b) p) (λ p. 2 * (upper p * plus_amount shares distance b p))
    (λ p below. let asks = asked_doubles b (shares p) in
    let less : plus_amount shares (λ p. 2 * distance p) (2 * b) p ≤ 2 * plus_amount shares distance b p = omega (arith, asks) in
    omega (arith, mul-le-mul_left (upper p) less))
    in
    let loss =
    sum_below-le n (λ p. 2 * (lower p * minus_amount shares distance b p)) (λ p. lower p * minus_amount shares (λ p. 2 * distance p) (2 * b) p)
    (λ p below. let asks = asked_doubles b (shares p) in
    let more : 2 * minus_amount shares distance b p ≤ minus_amount shares (λ p. 2 * distance p) (2 * b) p = omega (arith, asks) in
    omega (arith, mul-le-mul_left (lower p) more))
    in
    let twice_gain = sum_below-mul n 2 (λ p. upper p * plus_amount shares distance b p) in
    let twice_loss = sum_below-mul n 2 (λ p. lower p * minus_amount shares distance b p) in
    let between = leb-true _ _ is in
    le-leb _ _ (omega (arith, gain, loss, twice_gain, twice_loss, between))

same_between : (lower upper : ℕ → ℕ) (n : ℕ) (shares distance shares' distance' : ℕ → ℕ) (a b a' b' : ℕ) →
    ((p : ℕ) → p < n → shares' p ≡ shares p) → ((p : ℕ) → p < n → distance' p ≡ distance p) →
    IsScaleBetween lower upper n shares distance a b → IsScaleBetween lower upper n shares' distance' a' b' → (1 ≤ b) × (1 ≤ b') × (1 * (a' * b) ≤ a * b')
same_between lower upper n shares distance shares' distance' a b a' b' same far best best' =
    let once : 1 * b ≡ b = omega arith in
    let there : balances lower upper n shares' distance' b ≡ true =
    balances-same lower upper n shares' distance' shares distance b same far ∙ best.balance.balanced
    in
    between_times 1 lower upper n shares distance shares' distance' a b a' b' (subst (λ c. balances lower upper n shares' distance' c ≡ true) (sym once) there)
    (omega (arith, best.balance.small)) best best'

half_between : (lower upper : ℕ → ℕ) (n : ℕ) (shares distance shares' distance' : ℕ → ℕ) (a b a' b' : ℕ) → b < 2 ^ 35 →
    ((p : ℕ) → p < n → shares' p ≡ shares p) → ((p : ℕ) → p < n → distance' p ≡ 2 * distance p) →
    IsScaleBetween lower upper n shares distance a b → IsScaleBetween lower upper n shares' distance' a' b' → (1 ≤ b) × (1 ≤ b') × (2 * (a' * b) ≤ a * b')
half_between lower upper n shares distance shares' distance' a b a' b' small same far best best' =
    let there : balances lower upper n shares' distance' (2 * b) ≡ true =
    balances-same lower upper n shares' distance' shares (λ p. 2 * distance p) (2 * b) same far
    ∙ balance_doubles lower upper n shares distance b best.balance.balanced
    in
    between_times 2 lower upper n shares distance shares' distance' a b a' b' there (omega (arith, small)) best best'

-- the same distances have the same scale
same_scale : (set : DemandSet) (n : ℕ) (shares distance shares' distance' : ℕ → ℕ) (a b a' b' : ℕ) →
    ((p : ℕ) → p < n → shares' p ≡ shares p) → ((p : ℕ) → p < n → needs_row set (shares p) ≡ true → distance' p ≡ distance p) →
    IsBestScale set n shares distance a b → IsBestScale set n shares' distance' a' b' → (1 ≤ b) × (1 ≤ b') × (1 * (a' * b) ≤ a * b')
same_scale AllMatrices n shares distance shares' distance' a b a' b' same far best best' =
    times_for_all 1 n shares distance shares' distance' a b a' b' (omega arith) same
    (λ p below some. far p below (lt-ltb 0 (shares p) some) ∙ omega arith) best best'
same_scale (Margin num den base) n shares distance shares' distance' a b a' b' same far best best' =
    same_between _ _ n shares distance shares' distance' a b a' b' same (λ p below. far p below refl) best best'
same_scale (Box lower upper) n shares distance shares' distance' a b a' b' same far best best' =
    same_between _ _ n shares distance shares' distance' a b a' b' same (λ p below. far p below refl) best best'

-- twice the distances have half the scale at most, where b has room to double
half_scale : (set : DemandSet) (n : ℕ) (shares distance shares' distance' : ℕ → ℕ) (a b a' b' : ℕ) → b < 2 ^ 35 →
    ((p : ℕ) → p < n → shares' p ≡ shares p) → ((p : ℕ) → p < n → needs_row set (shares p) ≡ true → distance' p ≡ 2 * distance p) →
    IsBestScale set n shares distance a b → IsBestScale set n shares' distance' a' b' → (1 ≤ b) × (1 ≤ b') × (2 * (a' * b) ≤ a * b')
half_scale AllMatrices n shares distance shares' distance' a b a' b' small same far best best' =
    times_for_all 2 n shares distance shares' distance' a b a' b' (omega arith) same (λ p below some. far p below (lt-ltb 0 (shares p) some)) best best'
half_scale (Margin num den base) n shares distance shares' distance' a b a' b' small same far best best' =
    half_between _ _ n shares distance shares' distance' a b a' b' small same (λ p below. far p below refl) best best'
half_scale (Box lower upper) n shares distance shares' distance' a b a' b' small same far best best' =
    half_between _ _ n shares distance shares' distance' a b a' b' small same (λ p below. far p below refl) best best'

-- a best block has the best scale of its weights
pub scale_of_block : (net : Network) (routes : List PairRoutes) (set : DemandSet) (e : ℕ) (weights : List ℕ) (block : Block) →
    IsBestBlock net routes set e weights block → IsScaleUnder net routes set e weights block.a block.b
scale_of_block net routes set e weights block best = record {
  shares = best.shares;
  distance = best.distance;
  shares_are = best.shares_are;
  distances_are = best.distances_are;
  scale = best.scale;
}

pub need_of_block : (net : Network) (routes : List PairRoutes) (set : DemandSet) (e : ℕ) (weights : List ℕ) (block : Block) →
    IsBestBlock net routes set e weights block → IsNeedUnder net routes set e weights (need_of net block)
need_of_block net routes set e weights block best = record {
  a = block.a;
  b = block.b;
  scale = scale_of_block net routes set e weights block best;
  need_is = ap (λ l. need_by net l block.weights block.a block.b) best.link_is ∙ ap (λ (ws : List ℕ). need_by net e ws block.a block.b) best.weights_are;
}

scales_alike : (net : Network) (routes : List PairRoutes) (set : DemandSet) (e : ℕ) (weights : List ℕ) (a b a' b' : ℕ) →
    IsScaleUnder net routes set e weights a b → IsScaleUnder net routes set e weights a' b' → (1 ≤ b) × (1 ≤ b') × (1 * (a' * b) ≤ a * b')
scales_alike net routes set e weights a b a' b' one two =
    let same : (p : ℕ) → p < length routes → two.shares p ≡ one.shares p = λ p below. two.shares_are p below ∙ sym (one.shares_are p below) in
    same_scale set (length routes) one.shares one.distance two.shares two.distance a b a' b' same
    (λ p below needs.
    distance_unique net weights (source_of routes p) (destination_of routes p) (two.distance p) (one.distance p)
    (two.distances_are p below (subst (λ s. needs_row set s ≡ true) (sym (same p below)) needs)) (one.distances_are p below needs))
    one.scale two.scale

no_more : (net : Network) (routes : List PairRoutes) (set : DemandSet) (e : ℕ) (weights : List ℕ) (a b a' b' : ℕ) → 1 ≤ capacity_of net e →
    IsScaleUnder net routes set e weights a b → IsScaleUnder net routes set e weights a' b' → need_by net e weights a' b' ≤ need_by net e weights a b
no_more net routes set e weights a b a' b' some one two =
    let (some_b, some_b', less) = scales_alike net routes set e weights a b a' b' one two in
    let w = capacity_by net weights in
    let scaled : w * (a' * b) ≤ w * (a * b') = mul-le-mul_left w (omega (arith, less)) in
    need_less a a' w w b b' (capacity_of net e) some_b some_b' some (omega (arith, scaled))

-- weights have one need
pub needs_are_one : (net : Network) (routes : List PairRoutes) (set : DemandSet) (e : ℕ) (weights : List ℕ) (x y : ℕ) → 1 ≤ capacity_of net e →
    IsNeedUnder net routes set e weights x → IsNeedUnder net routes set e weights y → x ≡ y
needs_are_one net routes set e weights x y some one two =
    omega (
      arith,
      one.need_is,
      two.need_is,
      no_more net routes set e weights one.a one.b two.a two.b some one.scale two.scale,
      no_more net routes set e weights two.a two.b one.a one.b some two.scale one.scale,
    )

-- twice the weights need no more, where b has room to double
pub double_needs_no_more : (net : Network) (routes : List PairRoutes) (set : DemandSet) (e : ℕ) (weights doubled : List ℕ) (a b a' b' : ℕ) →
    1 ≤ capacity_of net e → b < 2 ^ 35 → ((h : ℕ) → slice_index doubled h ≡ 2 * slice_index weights h) →
    IsScaleUnder net routes set e weights a b → IsScaleUnder net routes set e doubled a' b' → need_by net e doubled a' b' ≤ need_by net e weights a b
double_needs_no_more net routes set e weights doubled a b a' b' some small twice one two =
    let same : (p : ℕ) → p < length routes → two.shares p ≡ one.shares p = λ p below. two.shares_are p below ∙ sym (one.shares_are p below) in
    let (some_b, some_b', less) =
    half_scale set (length routes) one.shares one.distance two.shares two.distance a b a' b' small same
    (λ p below needs.
    distance_unique net doubled (source_of routes p) (destination_of routes p) (two.distance p) (2 * one.distance p)
    (two.distances_are p below (subst (λ s. needs_row set s ≡ true) (sym (same p below)) needs))
    (distance_doubles net weights doubled twice (source_of routes p) (destination_of routes p) (one.distance p) (one.distances_are p below needs)))
    one.scale two.scale
    in
    let w = capacity_by net weights in
    let cost : capacity_by net doubled ≡ 2 * w =
    sum_below-same (link_count net) (λ h. capacity_of net h * slice_index doubled h) (λ h. 2 * (capacity_of net h * slice_index weights h))
    (λ h below. ap (λ x. capacity_of net h * x) (twice h) ∙ omega arith)
    ∙ sum_below-mul (link_count net) 2 (λ h. capacity_of net h * slice_index weights h)
    in
    let scaled : w * (2 * (a' * b)) ≤ w * (a * b') = mul-le-mul_left w less in
    let left : a' * capacity_by net doubled * b ≡ w * (2 * (a' * b)) = ap (λ x. a' * x * b) cost ∙ omega arith in
    need_less a a' w (capacity_by net doubled) b b' (capacity_of net e) some_b some_b' some (omega (arith, scaled, left))
