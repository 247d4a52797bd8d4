-- What other weights need at least, by the scale that stands.
use Rattle.std.proofs.Common.{◌≡◌, ℕ, ◌*◌, ◌<◌, ◌≤◌, true, false, List, [], ◌∷◌, Some, length, arith, refl, sym, subst, ◌∙◌, inl, inr, slice_index}
use Rattle.std.proofs.lemmas.Bool.{cases_lt, leb-true, le-leb, lt-ltb}
use Rattle.std.proofs.Math.Nat.{mul-le-mul_left, le_of_mul-le-mul_left}
use Rattle.std.proofs.lemmas.Nat.{mul-le}
use Rattle.te_model.specs.declared.network.Network.{Network}
use Rattle.te_model.specs.declared.route.PairRoutes.{PairRoutes}
use Rattle.te_model.specs.declared.demand.DemandSet.{DemandSet}
use Rattle.te_model.specs.declared.demand.DemandSet.TheVariants.{All as AllMatrices, Margin, Box}
use Rattle.te_model.specs.Division.{quotient_up}
use Rattle.te_model.specs.Inequalities.{capacity_by}
use Rattle.te_model.specs.Network.{link_count, capacity_of}
use Rattle.te_model.specs.Path.{source_of, destination_of}
use Rattle.te_model.proofs.Chains.{chains_of_path}
use Rattle.te_model.proofs.Quotients.{quotient_up-enough, quotient_up-least}
use Rattle.te_model.proofs.Sums.{sum_below-le}
use Rattle.shortest_path.specs.Paths.{sum_along, IsDistance}
use Rattle.best_blocks.specs.Best.{balances, minus_amount, needs_row, plus_amount, IsBestScale, IsScaleBetween, IsScaleForAll}
use Rattle.best_blocks.specs.Need.{need_by}
use Rattle.best_blocks.specs.Under.{IsNeedUnder, IsScaleUnder}
use Rattle.ratio_certificate.specs.Critical.{IsCritical}

-- by the new weights the second node is no farther from the first
abbrev pub GoesNoFarther : Network → List ℕ → List ℕ → ℕ → ℕ → Type 0
GoesNoFarther net old new s t = (d d' : ℕ) → IsDistance net old s t (Some d) → IsDistance net new s t (Some d') → d' ≤ d

sum_along-le : (old new : List ℕ) → ((h : ℕ) → slice_index new h ≤ slice_index old h) → (links : List ℕ) → sum_along new links ≤ sum_along old links
sum_along-le old new less [] = omega arith
sum_along-le old new less (h ∷ hs) = omega (arith, less h, sum_along-le old new less hs)

-- where no weight rises, no node goes farther
pub lower_no_farther : (net : Network) (old new : List ℕ) → ((h : ℕ) → slice_index new h ≤ slice_index old h) → (s t : ℕ) → GoesNoFarther net old new s t
lower_no_farther net old new less s t d d' ((p, path, sum), least) ((q, other, sum'), least') =
    omega (arith, least' p (chains_of_path net s t p path), sum_along-le old new less p, sum)

-- what balances shorter distances balances the distances
balances_farther : (lower upper : ℕ → ℕ) (n : ℕ) (shares distance shares' distance' : ℕ → ℕ) (b : ℕ) → ((p : ℕ) → p < n → shares' p ≡ shares p) →
    ((p : ℕ) → p < n → distance' p ≤ distance p) → balances lower upper n shares' distance' b ≡ true → balances lower upper n shares distance b ≡ true
balances_farther lower upper n shares distance shares' distance' b same near is =
    let gain =
    sum_below-le n (λ p. upper p * plus_amount shares distance b p) (λ p. upper p * plus_amount shares' distance' b p)
    (λ p below. mul-le-mul_left (upper p) (rw (same p below) (omega (arith, near p below))))
    in
    let loss =
    sum_below-le n (λ p. lower p * minus_amount shares' distance' b p) (λ p. lower p * minus_amount shares distance b p)
    (λ p below. mul-le-mul_left (lower p) (rw (same p below) (omega (arith, near p below))))
    in
    let between = leb-true _ _ is in
    le-leb _ _ (omega (arith, gain, loss, between))

-- For every matrix: where the dearest pair goes no farther, the scale does not fall.
least_for_all : (n : ℕ) (shares distance shares' distance' : ℕ → ℕ) (a b a' b' : ℕ) → ((p : ℕ) → p < n → shares' p ≡ shares p) →
    ((p : ℕ) → p < n → 0 < shares p → IsCritical AllMatrices n shares distance p → distance' p ≤ distance p) →
    IsScaleForAll n shares distance a b → IsScaleForAll n shares' distance' a' b' → (1 ≤ b) × (1 ≤ b') × (a * b' ≤ a' * b)
least_for_all n shares distance shares' distance' a b a' b' same near best best' =
    let q = best.quotient in
    let r = best'.quotient in
    let share_is : shares' q.pair ≡ a = same q.pair q.within ∙ sym q.share_is in
    let bound : a * b' ≤ a' * distance' q.pair = subst (λ x. x * b' ≤ a' * distance' q.pair) share_is (r.greatest q.pair q.within) in
    let near_q : distance' q.pair ≤ b = omega (arith, near q.pair q.within q.positive (a, b, (q, refl)), q.distance_is) in
    let more : a' * distance' q.pair ≤ a' * b = mul-le-mul_left a' near_q in (
      omega (arith, best.apart q.pair q.within q.positive, q.distance_is),
      omega (arith, best'.apart r.pair r.within (omega (arith, r.positive, same r.pair r.within)), r.distance_is),
      omega (arith, bound, more),
    )

least_between : (lower upper : ℕ → ℕ) (n : ℕ) (shares distance shares' distance' : ℕ → ℕ) (a b a' b' : ℕ) → ((p : ℕ) → p < n → shares' p ≡ shares p) →
    ((p : ℕ) → p < n → distance' p ≤ distance p) → IsScaleBetween lower upper n shares distance a b → IsScaleBetween lower upper n shares' distance' a' b' →
    (1 ≤ b) × (1 ≤ b') × (a * b' ≤ a' * b)
least_between lower upper n shares distance shares' distance' a b a' b' same near best best' =
    let less : b' ≤ b = elim (cases_lt b b') [
      | inl lt ↦
          let there = balances_farther lower upper n shares distance shares' distance' b' same near best'.balance.balanced in
          let contrary : false ≡ true = sym (best.balance.greatest b' lt best'.balance.small) ∙ there in
          cc
      | inr ge ↦ ge
    ]
    in
    let unit : a' ≡ a = best'.unit ∙ sym best.unit in
    let bound : a * b' ≤ a * b = mul-le-mul_left a less in
    (best.balance.some, best'.balance.some, rw unit bound)

-- where no critical pair goes farther, the scale does not fall
scale_no_less : (set : DemandSet) (n : ℕ) (shares distance shares' distance' : ℕ → ℕ) (a b a' b' : ℕ) → ((p : ℕ) → p < n → shares' p ≡ shares p) →
    ((p : ℕ) → p < n → needs_row set (shares p) ≡ true → IsCritical set n shares distance p → distance' p ≤ distance p) →
    IsBestScale set n shares distance a b → IsBestScale set n shares' distance' a' b' → (1 ≤ b) × (1 ≤ b') × (a * b' ≤ a' * b)
scale_no_less AllMatrices n shares distance shares' distance' a b a' b' same near best best' =
    least_for_all n shares distance shares' distance' a b a' b' same (λ p below some. near p below (lt-ltb 0 (shares p) some)) best best'
scale_no_less (Margin num den base) n shares distance shares' distance' a b a' b' same near best best' =
    least_between _ _ n shares distance shares' distance' a b a' b' same (λ p below. near p below refl below) best best'
scale_no_less (Box lower upper) n shares distance shares' distance' a b a' b' same near best best' =
    least_between _ _ n shares distance shares' distance' a b a' b' same (λ p below. near p below refl below) best best'

-- a smaller scale needs no more
need_scaled : (a a' b b' w c : ℕ) → 1 ≤ b → 1 ≤ b' → 1 ≤ c → a * b' ≤ a' * b →
    quotient_up (a * 1000000 * w) (b * 1000000 * c) ≤ quotient_up (a' * 1000000 * w) (b' * 1000000 * c)
need_scaled a a' b b' w c some some' some_c less =
    let one = mul-le 1 1 b c some some_c in
    let two = mul-le 1 1 b' c some' some_c in
    let q = quotient_up (a' * 1000000 * w) (b' * 1000000 * c) in
    let enough : a' * 1000000 * w ≤ q * (b' * 1000000 * c) = quotient_up-enough (a' * 1000000 * w) (b' * 1000000 * c) (omega (arith, two)) in
    let scaled : b * (a' * 1000000 * w) ≤ b * (q * (b' * 1000000 * c)) = mul-le-mul_left b enough in
    let wide : w * (a * b') ≤ w * (a' * b) = mul-le-mul_left w less in
    let both : b' * (a * 1000000 * w) ≤ b' * (q * (b * 1000000 * c)) = omega (arith, wide, scaled) in
    quotient_up-least (a * 1000000 * w) (b * 1000000 * c) q (omega (arith, one)) (le_of_mul-le-mul_left both some')

-- where no critical pair goes farther, other weights need at least what they would by the scale that stands
pub need_at_least : (net : Network) (routes : List PairRoutes) (set : DemandSet) (e : ℕ) (old new : List ℕ) (a b x : ℕ) → 1 ≤ capacity_of net e →
    (one : IsScaleUnder net routes set e old a b) → IsNeedUnder net routes set e new x →
    ((p : ℕ) → p < length routes → needs_row set (one.shares p) ≡ true → IsCritical set (length routes) one.shares one.distance p →
    GoesNoFarther net old new (source_of routes p) (destination_of routes p)) → need_by net e new a b ≤ x
need_at_least net routes set e old new a b x some one under near =
    let two = under.scale in
    let same : (p : ℕ) → p < length routes → two.shares p ≡ one.shares p = λ p below. two.shares_are p below ∙ sym (one.shares_are p below) in
    let (some_b, some_b', less) =
    scale_no_less set (length routes) one.shares one.distance two.shares two.distance a b under.a under.b same
    (λ p below needs critical. near p below needs critical (one.distance p) (two.distance p) (one.distances_are p below needs)
    (two.distances_are p below (subst (λ s. needs_row set s ≡ true) (sym (same p below)) needs)))
    one.scale two.scale
    in
    subst (λ y. need_by net e new a b ≤ y) (sym under.need_is)
    (need_scaled a under.a b under.b (capacity_by net new) (capacity_of net e) some_b some_b' some less)

-- a quotient does not fall with what is divided
quotient_up-le : (x y u : ℕ) → 1 ≤ u → x ≤ y → quotient_up x u ≤ quotient_up y u
quotient_up-le x y u some less = quotient_up-least x u (quotient_up y u) some (omega (arith, less, quotient_up-enough y u some))

-- greater weights need no less by the same scale
pub greater_need : (net : Network) (e : ℕ) (old new : List ℕ) (a b : ℕ) → 1 ≤ capacity_of net e → 1 ≤ b → ((h : ℕ) → slice_index old h ≤ slice_index new h) →
    need_by net e old a b ≤ need_by net e new a b
greater_need net e old new a b some_c some_b more =
    let some = mul-le 1 1 b (capacity_of net e) some_b some_c in
    let volume : capacity_by net old ≤ capacity_by net new =
    sum_below-le (link_count net) (λ h. capacity_of net h * slice_index old h) (λ h. capacity_of net h * slice_index new h)
    (λ h below. mul-le-mul_left (capacity_of net h) (more h))
    in
    quotient_up-le (a * 1000000 * capacity_by net old) (a * 1000000 * capacity_by net new) (b * 1000000 * capacity_of net e) (omega (arith, some))
    (mul-le-mul_left (a * 1000000) volume)
