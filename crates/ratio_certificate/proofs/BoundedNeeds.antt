-- What a best block between bounds needs, beside the best block of the same weights for all matrices.
use Rattle.std.proofs.Common.{◌≡◌, ℕ, ◌+◌, ◌*◌, ◌^◌, ◌<◌, ◌≤◌, true, false, List, length, arith, ap, sym, subst, ◌∙◌, inl, inr}
use Rattle.std.proofs.lemmas.Bool.{cases_lt, le-leb, lt-ltb}
use Rattle.std.proofs.Math.Nat.{mul-le-mul_left, le_of_mul-le-mul_left}
use Rattle.std.proofs.lemmas.Nat.{mul-le}
use Rattle.te_model.specs.declared.network.Network.{Network}
use Rattle.te_model.specs.declared.route.PairRoutes.{PairRoutes}
use Rattle.te_model.specs.declared.certificate.Block.{Block}
use Rattle.te_model.specs.declared.demand.DemandSet.{DemandSet}
use Rattle.te_model.specs.declared.demand.DemandSet.TheVariants.{All as AllMatrices, Margin, Box}
use Rattle.te_model.specs.declared.units.TheConstants.{SHARE_UNIT}
use Rattle.te_model.specs.Division.{quotient_up}
use Rattle.te_model.specs.Inequalities.{capacity_by}
use Rattle.te_model.specs.Network.{capacity_of}
use Rattle.te_model.specs.Path.{source_of, destination_of}
use Rattle.te_model.proofs.Quotients.{quotient_up-enough, quotient_up-least}
use Rattle.te_model.proofs.Sums.{sum_below-zero}
use Rattle.te_model.proofs.WellFormed.{capacities_positive}
use Rattle.shortest_path.proofs.Unique.{distance_unique}
use Rattle.best_blocks.specs.Best.{balances, plus_amount, weighed_share, IsBestBlock, IsBestScale, IsScaleBetween, IsScaleForAll}
use Rattle.best_blocks.specs.Need.{need_by, need_of}
use Rattle.best_blocks.proofs.NeedLaws.{scale_of_block}
use Rattle.ratio_certificate.specs.Form.{HasBounds}
use Rattle.ratio_certificate.specs.Laws.{BoundedBlocksNeedLittleMore}
use Rattle.ratio_certificate.proofs.OtherMarks.{bounded_needs}

-- a number by which no share asks for more than the distance balances
balances_under : (lower upper : ℕ → ℕ) (n : ℕ) (shares distance : ℕ → ℕ) (b : ℕ) → ((p : ℕ) → p < n → b * shares p ≤ SHARE_UNIT * distance p) →
    balances lower upper n shares distance b ≡ true
balances_under lower upper n shares distance b less =
    let none = sum_below-zero n (λ p. upper p * plus_amount shares distance b p) (λ p below.
    let asked : weighed_share b (shares p) ≤ distance p = quotient_up-least (b * shares p) SHARE_UNIT (distance p) (omega arith) (omega (arith, less p below)) in
    let no_more : plus_amount shares distance b p ≡ 0 = omega (arith, asked) in
    rw no_more (omega arith))
    in
    le-leb _ _ (omega (arith, none))

-- where x / S is at most b / a, and b / a at most d / s
pair_fits : (S a b x s d : ℕ) → 1 ≤ a → x * a ≤ S * b → s * b ≤ a * d → x * s ≤ S * d
pair_fits S a b x s d some one two =
    let first : s * (x * a) ≤ s * (S * b) = mul-le-mul_left s one in
    let second : S * (s * b) ≤ S * (a * d) = mul-le-mul_left S two in
    let both : a * (x * s) ≤ a * (S * d) = omega (arith, first, second) in
    le_of_mul-le-mul_left both some

-- the best scale for all matrices, and the number after b, which does not balance
after_b : (lower upper : ℕ → ℕ) (n : ℕ) (shares distance shares' distance' : ℕ → ℕ) (a b a' b' : ℕ) → ((p : ℕ) → p < n → shares' p ≡ shares p) →
    ((p : ℕ) → p < n → 0 < shares p → distance' p ≡ distance p) → IsScaleForAll n shares distance a b → IsScaleBetween lower upper n shares' distance' a' b' →
    SHARE_UNIT * b < (2 ^ 36 + 1) * a → SHARE_UNIT * b < (b' + 1) * a
after_b lower upper n shares distance shares' distance' a b a' b' same far all best few = elim (cases_lt (SHARE_UNIT * b) ((b' + 1) * a)) [
  | inl lt ↦ lt
  | inr ge ↦ elim (cases_lt b' (2 ^ 36)) [
    | inl room ↦
        let contrary : false ≡ true = sym (best.balance.greatest (b' + 1) (omega arith) (omega (arith, room))) ∙ balances_under lower upper n shares' distance' (b' + 1) (fits ge) in
        cc
    | inr full ↦
        let is : b' ≡ 2 ^ 36 = omega (arith, full, best.balance.small) in
        let at : (b' + 1) * a ≡ (2 ^ 36 + 1) * a = rw is (omega arith) in
        absurd (omega (arith, at, ge, few))
  ]
]
  where
    some : 1 ≤ a
    some = omega (arith, all.quotient.share_is, all.quotient.positive)

    fits : (b' + 1) * a ≤ SHARE_UNIT * b → (p : ℕ) → p < n → (b' + 1) * shares' p ≤ SHARE_UNIT * distance' p
    fits ge p below = elim (cases_lt 0 (shares p)) [
      | inl positive ↦
          let fit = pair_fits SHARE_UNIT a b (b' + 1) (shares p) (distance p) some ge (all.quotient.greatest p below) in
          rw (same p below, far p below positive) fit
      | inr none ↦
          let zero : shares' p ≡ 0 = omega (arith, same p below, none) in
          rw zero (omega arith)
    ]

after_scale : (set : DemandSet) → HasBounds set → (n : ℕ) (shares distance shares' distance' : ℕ → ℕ) (a b a' b' : ℕ) → ((p : ℕ) → p < n → shares' p ≡ shares p) →
    ((p : ℕ) → p < n → 0 < shares p → distance' p ≡ distance p) → IsScaleForAll n shares distance a b → IsBestScale set n shares' distance' a' b' →
    SHARE_UNIT * b < (2 ^ 36 + 1) * a → (a' ≡ SHARE_UNIT) × (1 ≤ b') × (SHARE_UNIT * b < (b' + 1) * a)
after_scale AllMatrices bounded n shares distance shares' distance' a b a' b' same far all best few = absurd bounded
after_scale (Margin num den base) bounded n shares distance shares' distance' a b a' b' same far all best few =
    (best.unit, best.balance.some, after_b _ _ n shares distance shares' distance' a b a' b' same far all best few)
after_scale (Box lower upper) bounded n shares distance shares' distance' a b a' b' same far all best few =
    (best.unit, best.balance.some, after_b _ _ n shares distance shares' distance' a b a' b' same far all best few)

-- where S b is below (x + 1) a, what S / x needs is at most what a / b needs, and a part of it in x
little_more : (a b x w c : ℕ) → 1 ≤ a → 1 ≤ b → 1 ≤ x → 1 ≤ c → 1000000 * b < (x + 1) * a →
    quotient_up (1000000 * 1000000 * w) (x * 1000000 * c) ≤ quotient_up (a * 1000000 * w) (b * 1000000 * c) + quotient_up (quotient_up (a * 1000000 * w) (b * 1000000 * c)) x
little_more a b x w c some_a some_b some_x some_c less =
    let n = quotient_up (a * 1000000 * w) (b * 1000000 * c) in
    let q = n + quotient_up n x in
    let cells = mul-le 1 1 b c some_b some_c in
    let cells' = mul-le 1 1 x c some_x some_c in
    let enough : a * 1000000 * w ≤ n * (b * 1000000 * c) = quotient_up-enough (a * 1000000 * w) (b * 1000000 * c) (omega (arith, cells)) in
    let below : n * c * (1000000 * b) ≤ n * c * ((x + 1) * a) = mul-le-mul_left (n * c) (omega (arith, less)) in
    let scaled : a * (1000000 * w) ≤ a * (n * c * (x + 1)) = omega (arith, enough, below) in
    let volume : 1000000 * w ≤ n * c * (x + 1) = le_of_mul-le-mul_left scaled some_a in
    let part : n ≤ quotient_up n x * x = quotient_up-enough n x some_x in
    let more : n * (x + 1) ≤ q * x = omega (arith, part) in
    let parts : c * (n * (x + 1)) ≤ c * (q * x) = mul-le-mul_left c more in
    quotient_up-least (1000000 * 1000000 * w) (x * 1000000 * c) q (omega (arith, cells')) (omega (arith, volume, parts))

-- what a best block needs, by its link and weights
block_need : (net : Network) (routes : List PairRoutes) (set : DemandSet) (e : ℕ) (weights : List ℕ) (block : Block) → IsBestBlock net routes set e weights block →
    need_of net block ≡ need_by net e weights block.a block.b
block_need net routes set e weights block best =
    ap (λ l. need_by net l block.weights block.a block.b) best.link_is ∙ ap (λ (ws : List ℕ). need_by net e ws block.a block.b) best.weights_are

pub bounded_blocks_need_little_more : BoundedBlocksNeedLittleMore
bounded_blocks_need_little_more net routes set e weights all block formed inside bounded best_all best few =
    let one = scale_of_block net routes AllMatrices e weights all best_all in
    let two = scale_of_block net routes set e weights block best in
    let same : (p : ℕ) → p < length routes → two.shares p ≡ one.shares p = λ p below. two.shares_are p below ∙ sym (one.shares_are p below) in
    let (unit, some, after) =
    after_scale set bounded (length routes) one.shares one.distance two.shares two.distance all.a all.b block.a block.b same
    (λ p below positive. distance_unique net weights (source_of routes p) (destination_of routes p) (two.distance p) (one.distance p)
    (two.distances_are p below (bounded_needs set bounded (two.shares p))) (one.distances_are p below (lt-ltb 0 (one.shares p) positive)))
    one.scale two.scale few
    in
    let quotient = one.scale.quotient in
    let some_a : 1 ≤ all.a = omega (arith, quotient.share_is, quotient.positive) in
    let some_b : 1 ≤ all.b = omega (arith, one.scale.apart quotient.pair quotient.within quotient.positive, quotient.distance_is) in
    let bound =
    little_more all.a all.b block.b (capacity_by net weights) (capacity_of net e) some_a some_b some (capacities_positive net formed e inside) after
    in
    let first = block_need net routes AllMatrices e weights all best_all in
    let second = block_need net routes set e weights block best ∙ ap (λ a. need_by net e weights a block.b) unit in
    let known = need_by net e weights all.a all.b in
    let more : need_by net e weights SHARE_UNIT block.b ≤ known + quotient_up known block.b = bound in
    subst (λ n. need_of net block ≤ n + quotient_up n block.b) (sym first) (subst (λ m. m ≤ known + quotient_up known block.b) (sym second) more)
