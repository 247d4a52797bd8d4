-- What is added is taken back where the pairs with a share use no more than the distances allow.
use Rattle.std.proofs.Common.{◌≡◌, ℕ, ◌+◌, ◌-◌, ◌*◌, ◌^◌, ◌<◌, ◌≤◌, List, length, get_or, slice_index, arith, ap, sym, subst, take, ◌∙◌, inl, inr}
use Rattle.std.specs.Prelude.{min, nat_le, sum_by}
use Rattle.std.proofs.lemmas.Bool.{cases_lt, le-leb, lt-leb}
use Rattle.std.proofs.lemmas.List.{take_all}
use Rattle.std.proofs.lemmas.List.Elements.{All-get_or}
use Rattle.std.proofs.lemmas.List.Sums.{sum_by-take-le, sum_by_more}
use Rattle.te_model.specs.declared.demand.DemandSet.{DemandSet}
use Rattle.te_model.specs.declared.units.TheConstants.{SHARE_UNIT}
use Rattle.te_model.specs.Demand.{lower_of, upper_of}
use Rattle.te_model.specs.Inequalities.{weigh}
use Rattle.te_model.specs.Path.{share}
use Rattle.te_model.proofs.Quotients.{quotient_up-least}
use Rattle.te_model.proofs.Sums.{sum_below-add, sum_below-bound, sum_below-same}
use Rattle.routing.proofs.Shared.{sum_over_shares}
use Rattle.routing.proofs.Sharing.{no_share}
use Rattle.routing.specs.declared.shares.PairShare.{PairShare}
use Rattle.best_blocks.specs.declared.sharing.SharedLink.{SharedLink}
use Rattle.best_blocks.specs.Best.{plus_amount, weighed_share, balances, minus_amount}
use Rattle.best_blocks.specs.Scale.{AreScalable}
use Rattle.best_blocks.specs.Used.{used_by_shares, used_by, AreSharesListed}
use Rattle.te_model.proofs.Sizes.{bound_term}
use Rattle.best_blocks.proofs.Balances.{asked-small}

-- what pair p uses
abbrev pub used_at : DemandSet → List ℕ → List ℕ → ℕ → ℕ → ℕ
used_at wanted shares distances b p =
    used_by (lower_of wanted p) (upper_of wanted p) (slice_index distances p) (weighed_share b (slice_index shares p))

pub used_by-small : (lower upper distance wanted : ℕ) → lower ≤ 2 ^ 52 → upper ≤ 2 ^ 52 → distance ≤ 2 ^ 35 → wanted ≤ 2 ^ 36 →
    used_by lower upper distance wanted ≤ 2 ^ 89
used_by-small lower upper distance wanted hl hu hd hw =
    let more = bound_term upper (wanted - distance) hu (omega arith) in
    let within = bound_term lower (min wanted distance) hl (omega arith) in
    omega (arith, more, within)

used_by-nothing : (lower upper distance wanted : ℕ) → wanted ≡ 0 → used_by lower upper distance wanted ≡ 0
used_by-nothing lower upper distance wanted none =
    let more : wanted - distance ≡ 0 = omega arith in
    let within : min wanted distance ≡ 0 = omega arith in
    omega (arith, ap (λ t. upper * t) more, ap (λ t. lower * t) within)

-- a pair without a share asks for nothing
asked-none : (b s : ℕ) → s ≡ 0 → weighed_share b s ≡ 0
asked-none b s none = omega (arith, quotient_up-least (b * s) SHARE_UNIT 0 (omega arith) (omega (arith, ap (λ t. b * t) none)))

-- the pairs of the list use what all pairs use
pub used_listed : (wanted : DemandSet) (l : SharedLink) (distances : List ℕ) (b : ℕ) → AreSharesListed l →
    sum_by (λ s. used_at wanted l.shares distances b s.pair) l.list
    ≡ used_by_shares (lower_of wanted) (upper_of wanted) (length l.shares) (slice_index l.shares) (slice_index distances) b
used_listed wanted l distances b are =
    subst (λ n. sum_by (λ s. used_at wanted l.shares distances b s.pair) l.list
    ≡ used_by_shares (lower_of wanted) (upper_of wanted) n (slice_index l.shares) (slice_index distances) b) (sym are.shares_are.count)
    (sym (sum_over_shares are.routes l.link l.list (used_at wanted l.shares distances b) are.listed (λ p below none.
    used_by-nothing (lower_of wanted p) (upper_of wanted p) (slice_index distances p) (weighed_share b (slice_index l.shares p))
    (asked-none b (slice_index l.shares p) (are.shares_are.each p below ∙ none)))))

-- the sum of what they use fits 128 bits
pub used_small : (wanted : DemandSet) (shares distances : List ℕ) (b : ℕ) → AreScalable wanted shares distances → b ≤ 2 ^ 36 →
    used_by_shares (lower_of wanted) (upper_of wanted) (length shares) (slice_index shares) (slice_index distances) b ≤ length shares * 2 ^ 89
used_small wanted shares distances b small few =
    sum_below-bound (length shares) (2 ^ 89) (used_at wanted shares distances b) (λ p below.
    used_by-small (lower_of wanted p) (upper_of wanted p) (slice_index distances p) (weighed_share b (slice_index shares p)) (small.lower_small p) (small.upper_small p)
    (small.distances_small p) (omega (arith, asked-small b (slice_index shares p) (small.shares_small p), few)))

-- so does the sum of what the first i of the list use
pub sum_small : (wanted : DemandSet) (l : SharedLink) (distances : List ℕ) (b i sum : ℕ) → AreScalable wanted l.shares distances → AreSharesListed l →
    b ≤ 2 ^ 36 → sum ≡ sum_by (λ s. used_at wanted l.shares distances b s.pair) (take i l.list) → sum ≤ length l.shares * 2 ^ 89
sum_small wanted l distances b i sum small are few is =
    let part = sum_by-take-le (λ (s : PairShare). used_at wanted l.shares distances b s.pair) l.list i in
    omega (arith, is, part, used_listed wanted l distances b are, used_small wanted l.shares distances b small few)

-- with the next of the list
pub sum_more : (wanted : DemandSet) (l : SharedLink) (distances : List ℕ) (b i sum more : ℕ) (items : List PairShare) → AreSharesListed l → items ≡ l.list → i < length items →
    more ≡ used_by (lower_of wanted (get_or items i no_share).pair) (upper_of wanted (get_or items i no_share).pair) (slice_index distances (get_or items i no_share).pair)
    (weighed_share b (get_or items i no_share).share) →
    sum ≡ sum_by (λ s. used_at wanted l.shares distances b s.pair) (take i l.list) → sum + more ≡ sum_by (λ s. used_at wanted l.shares distances b s.pair) (take (i + 1) l.list)
sum_more wanted l distances b i sum more items are same inside more_is sum_is =
    let used : PairShare → ℕ = λ s. used_by (lower_of wanted s.pair) (upper_of wanted s.pair) (slice_index distances s.pair) (weighed_share b s.share) in
    let s = get_or l.list i no_share in
    let below : i < length l.list = subst (λ (xs : List PairShare). i < length xs) same inside in
    let entry = All-get_or (λ (t : PairShare). (t.pair < length are.routes) × (0 < t.share) × (t.share ≡ share are.routes t.pair l.link)) l.list i no_share below are.listed.shares in
    let listed : s.share ≡ slice_index l.shares s.pair = entry.2 ∙ sym (are.shares_are.each s.pair entry.0) in
    let here : more ≡ used_at wanted l.shares distances b s.pair =
    subst (λ (xs : List PairShare). more ≡ used (get_or xs i no_share)) same more_is
    ∙ ap (λ x. used_by (lower_of wanted s.pair) (upper_of wanted s.pair) (slice_index distances s.pair) (weighed_share b x)) listed
    in
    let whole = sum_by_more (λ (t : PairShare). used_at wanted l.shares distances b t.pair) l.list i no_share below in
    omega (arith, here, sum_is, whole)

pub sum_whole : (wanted : DemandSet) (l : SharedLink) (distances : List ℕ) (b i sum : ℕ) → AreSharesListed l → length l.list ≤ i →
    sum ≡ sum_by (λ s. used_at wanted l.shares distances b s.pair) (take i l.list) →
    sum ≡ used_by_shares (lower_of wanted) (upper_of wanted) (length l.shares) (slice_index l.shares) (slice_index distances) b
sum_whole wanted l distances b i sum are all is =
    is ∙ ap (λ (xs : List PairShare). sum_by (λ s. used_at wanted l.shares distances b s.pair) xs) (take_all i l.list all) ∙ used_listed wanted l distances b are

-- the same on both sides changes no order
same_order : (gain loss both more most : ℕ) → gain + both ≡ more → loss + both ≡ most → nat_le more most ≡ nat_le gain loss
same_order gain loss both more most up down = elim (cases_lt most more) [
  | inl lt ↦ lt-leb more most lt ∙ sym (lt-leb gain loss (omega arith))
  | inr ge ↦ le-leb more most ge ∙ sym (le-leb gain loss (omega arith))
]

-- a distance is what of it is asked for and what is taken back
parted : (lower distance wanted : ℕ) → lower * (distance - wanted) + lower * min wanted distance ≡ lower * distance
parted lower distance wanted =
    let whole : (distance - wanted) + min wanted distance ≡ distance = omega arith in
    omega (arith, ap (λ d. lower * d) whole)

pub balances_by_use : (lower upper : ℕ → ℕ) (n : ℕ) (shares distance : ℕ → ℕ) (b : ℕ) →
    nat_le (used_by_shares lower upper n shares distance b) (weigh n lower distance) ≡ balances lower upper n shares distance b
balances_by_use lower upper n shares distance b =
    same_order (weigh n upper (plus_amount shares distance b)) (weigh n lower (minus_amount shares distance b)) (weigh n lower within) _ _
    (sym (sum_below-add n (λ p. upper p * plus_amount shares distance b p) (λ p. lower p * within p)))
    (sym (sum_below-add n (λ p. lower p * minus_amount shares distance b p) (λ p. lower p * within p))
    ∙ sum_below-same n (λ p. lower p * minus_amount shares distance b p + lower p * within p) (λ p. lower p * distance p)
    (λ p below. parted (lower p) (distance p) (weighed_share b (shares p))))
  where
    within : ℕ → ℕ
    within p = min (weighed_share b (shares p)) (distance p)

pub balances_is : (lower upper : ℕ → ℕ) (n m : ℕ) (shares distance : ℕ → ℕ) (b more most : ℕ) → more ≡ used_by_shares lower upper n shares distance b →
    m ≡ n → most ≡ weigh m lower distance → nat_le more most ≡ balances lower upper n shares distance b
balances_is lower upper n m shares distance b more most is_more same is_most =
    ap (λ x. nat_le x most) is_more
    ∙ ap (λ y. nat_le (used_by_shares lower upper n shares distance b) y) (is_most ∙ ap (λ k. weigh k lower distance) same)
    ∙ balances_by_use lower upper n shares distance b
