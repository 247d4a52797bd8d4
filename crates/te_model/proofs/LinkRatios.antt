-- A feasible block shows each ratio of its link that pays for its weights.
use Rattle.std.proofs.Common.{◌≡◌, ℕ, ◌*◌, ◌<◌, ◌≤◌, Bool, true, Option, Some, None, List, length, arith, refl, subst, ◌==◌}
use Rattle.std.specs.Prelude.{All, find, unwrap_or, IsTrue}
use Rattle.std.proofs.lemmas.Bool.{leb-true, eqb-true}
use Rattle.std.proofs.lemmas.Bool.Decides.{nat_tests}
use Rattle.std.proofs.Math.Nat.{mul-le-mul_left}
use Rattle.te_model.specs.declared.certificate.Block.{Block}
use Rattle.te_model.specs.declared.certificate.Certificate.{Certificate}
use Rattle.te_model.specs.declared.demand.DemandSet.{DemandSet}
use Rattle.te_model.specs.declared.demand.DemandSet.TheVariants.{All as AllMatrices, Margin, Box}
use Rattle.te_model.specs.Counting.{sum_below}
use Rattle.te_model.specs.Network.{link_count, capacity_of}
use Rattle.te_model.specs.Path.{share, source_of, destination_of}
use Rattle.te_model.specs.Certificate.{block_of, empty_block, potential, weight_of, plus_of, minus_of}
use Rattle.te_model.specs.Inequalities.{keeps_bounds, weighted_capacity, pays_weights}
use Rattle.te_model.specs.Flow.{load}
use Rattle.te_model.specs.Demand.{IsBetween, IsMember, lower_of, upper_of}
use Rattle.te_model.specs.Laws.{LinksJoinNodes, PairsJoinNodes}
use Rattle.te_model.specs.Feasible.{IsFeasible}
use Rattle.te_model.specs.LinkRatio.{IsLinkRatio, RatiosAreOfLinks, GreaterLinkRatiosHold}
use Rattle.te_model.specs.declared.limits.Limits.{Limits}
use Rattle.te_model.specs.Formats.{limits_of}
use Rattle.te_model.specs.Shape.{is_shaped, is_shaped_block, has_one_each}
use Rattle.te_model.specs.Validity.{IsValid}
use Rattle.te_model.specs.Bounds.{HasSmallNumbers}
use Rattle.te_model.proofs.Tests.{list_all_found, list_all_weaker, get_or_past}
use Rattle.te_model.proofs.Searches.{find_some}
use Rattle.te_model.proofs.Valid.{Rules, rules_hold, valid_blocks}
use Rattle.te_model.proofs.Sums.{sum_below-zero}
use Rattle.te_model.proofs.FlowLaw.{routing_pays}
use Rattle.te_model.proofs.LinkBound.{demands_within, shares_covered, between_balances, ratio_pays}

-- a fact of each block and of the empty one is a fact of the block that is read for a link
pub block_of_has : (P : Block → Type 0) (blocks : List Block) (e : ℕ) → P (empty_block e) → All P blocks → P (block_of blocks e)
block_of_has P blocks e none all = go (find (λ b. b.link == e) blocks) refl
  where
    go : (o : Option Block) → find (λ b. b.link == e) blocks ≡ o → P (unwrap_or o (empty_block e))
    go None is = none
    go (Some b) is = (find_some P (λ b. b.link == e) blocks b is all).1

-- the block that is read for a link is one of that link
pub block_of_link : (blocks : List Block) (e : ℕ) → (block_of blocks e).link ≡ e
block_of_link blocks e = go (find (λ b. b.link == e) blocks) refl
  where
    go : (o : Option Block) → find (λ b. b.link == e) blocks ≡ o → (unwrap_or o (empty_block e)).link ≡ e
    go None is = refl
    go (Some b) is = eqb-true b.link e (find_some (λ b. Unit {0}) (λ b. b.link == e) blocks b is (λ k d below. tt)).0

-- for every matrix, a block lists nothing that is added
adds_nothing : DemandSet → Block → Bool
adds_nothing AllMatrices b = length b.plus == 0
adds_nothing (Margin num den base) b = true
adds_nothing (Box lower upper) b = true

listed_adds_nothing : (set : DemandSet) (pairs : ℕ) (b : Block) → has_one_each set pairs b.plus ≡ true → adds_nothing set b ≡ true
unfolding adds_nothing
listed_adds_nothing AllMatrices pairs b e = e
listed_adds_nothing (Margin num den base) pairs b e = refl
listed_adds_nothing (Box lower upper) pairs b e = refl

empty_adds_nothing : (set : DemandSet) (e : ℕ) → adds_nothing set (empty_block e) ≡ true
unfolding adds_nothing
empty_adds_nothing AllMatrices e = refl
empty_adds_nothing (Margin num den base) e = refl
empty_adds_nothing (Box lower upper) e = refl

block_adds_nothing : (limits : Limits) (c : Certificate) (e : ℕ) → IsTrue (is_shaped limits c) → adds_nothing c.head.set (block_of c.blocks e) ≡ true
block_adds_nothing limits c e shape =
    list_all_found (adds_nothing c.head.set) (λ b. b.link == e) c.blocks (empty_block e)
    (list_all_weaker (is_shaped_block limits c.head) (adds_nothing c.head.set)
    (λ b shaped. listed_adds_nothing c.head.set (length c.head.routes) b (grind (arith, nat_tests)))
    c.blocks (grind (arith, nat_tests)))
    (empty_adds_nothing c.head.set e)

-- what I3 says of the bounds holds of the members
between : (pairs : ℕ) (lower upper demand : ℕ → ℕ) (b : Block) → IsBetween lower upper pairs demand →
    sum_below pairs (λ p. upper p * plus_of b p) ≤ sum_below pairs (λ p. lower p * minus_of b p) →
    sum_below pairs (λ p. demand p * plus_of b p) ≤ sum_below pairs (λ p. demand p * minus_of b p)
between pairs lower upper demand b member kept =
    let each = member.3 in
    between_balances pairs demand lower upper (plus_of b) (minus_of b) member.0 member.1 member.2
    (λ p below. (each p below).0) (λ p below. (each p below).1) kept

balanced : (set : DemandSet) (pairs : ℕ) (demand : ℕ → ℕ) (b : Block) → adds_nothing set b ≡ true →
    IsMember set pairs demand → IsTrue (keeps_bounds set pairs b) →
    sum_below pairs (λ p. demand p * plus_of b p) ≤ sum_below pairs (λ p. demand p * minus_of b p)
unfolding adds_nothing
balanced AllMatrices pairs demand b nothing member kept =
    let empty : length b.plus ≡ 0 = eqb-true _ _ nothing in
    let zero' : (p : ℕ) → p < pairs → demand p * plus_of b p ≡ 0 =
    λ p below. let none : plus_of b p ≡ 0 = get_or_past b.plus p 0 (omega arith) in rw none (omega arith)
    in
    omega (arith, sum_below-zero pairs (λ p. demand p * plus_of b p) zero')
balanced (Margin num den base) pairs demand b nothing member kept =
    between pairs (lower_of (Margin num den base)) (upper_of (Margin num den base)) demand b member (leb-true _ _ kept)
balanced (Box lower upper) pairs demand b nothing member kept =
    between pairs (lower_of (Box lower upper)) (upper_of (Box lower upper)) demand b member (leb-true _ _ kept)

links_join : (c : Certificate) → Rules c → LinksJoinNodes c.head.network
links_join c rules h below =
    let sound = rules.links h below in
    (grind (arith, nat_tests), grind (arith, nat_tests))

pairs_join : (c : Certificate) → Rules c → PairsJoinNodes c.head.network c.head.routes
pairs_join c rules p below =
    let sound = rules.pairs p below in
    (grind (arith, nat_tests), grind (arith, nat_tests))

pub small_empty : (e : ℕ) → HasSmallNumbers (empty_block e)
small_empty e = record {
  a = omega arith;
  b = (omega arith, omega arith);
  weights = λ h. omega arith;
  potentials = λ i v. omega arith;
  plus = λ p. omega arith;
  minus = λ p. omega arith;
}

pub feasible_bounds_link : (c : Certificate) → IsValid c → (e : ℕ) → IsFeasible c.head (block_of c.blocks e) → (ratio : ℕ) →
    IsTrue (pays_weights c.head.network (block_of c.blocks e) ratio) →
    IsLinkRatio c.head.network c.head.routes c.head.set e ratio
feasible_bounds_link c valid e feasible ratio paid demand member amount some flows routing u v v_some within =
    let net = c.head.network in
    let pairs = length c.head.routes in
    let b = block_of c.blocks e in
    let rules = rules_hold c valid.1 in
    let link : b.link ≡ e = block_of_link c.blocks e in
    let small : HasSmallNumbers b = block_of_has HasSmallNumbers c.blocks e (small_empty e) (valid_blocks c valid) in
    let shape = valid.0 in
    let x : ℕ → ℕ = λ p. potential b (source_of c.head.routes p) (destination_of c.head.routes p) in
    let bound : v * sum_below pairs (λ p. demand p * x p) ≤ u * weighted_capacity net b =
    demands_within (link_count net) pairs demand (weight_of b) (capacity_of net) x flows amount u v some
    (routing_pays net c.head.routes (links_join c rules) (pairs_join c rules) (potential b) (weight_of b) feasible.starts feasible.rises
    demand amount flows routing) within
    in
    let covered : b.b * sum_below pairs (λ p. demand p * share c.head.routes p b.link) ≤ b.a * sum_below pairs (λ p. demand p * x p) =
    shares_covered pairs demand (λ p. share c.head.routes p b.link) x (plus_of b) (minus_of b) b.a b.b
    (λ p in'. leb-true _ _ (feasible.covers p in'))
    (balanced c.head.set pairs demand b (block_adds_nothing (limits_of c.head.format) c e shape) member feasible.bounds)
    in
    let pays = leb-true _ _ paid in
    let P : ℕ → Type 0 = λ k. 1000000 * v * load pairs demand (share c.head.routes) k ≤ ratio * u * 1000000 * capacity_of net k in
    subst P link
    (ratio_pays b.a b.b (capacity_of net b.link) ratio u v (weighted_capacity net b) (sum_below pairs (λ p. demand p * x p))
    (load pairs demand (share c.head.routes) b.link) small.b.0 bound covered pays)

pub ratios_of_links : RatiosAreOfLinks
ratios_of_links net routes set ratio = (
  λ is e below demand member amount some flows routing u v v_some within. is demand member amount some flows routing u v v_some within e below,
  λ each demand member amount some flows routing u v v_some within e below. each e below demand member amount some flows routing u v v_some within,
)

-- more millionths of the same capacity are no less
more_allowed : (x s u c r g : ℕ) → r ≤ g → x ≤ r * u * s * c → x ≤ g * u * s * c
more_allowed x s u c r g less within =
    let more : (u * s * c) * r ≤ (u * s * c) * g = mul-le-mul_left (u * s * c) less in
    omega (arith, within, more)

pub greater_link_ratios : GreaterLinkRatiosHold
greater_link_ratios net routes set e ratio greater less is demand member amount some flows routing u v v_some within =
    more_allowed ((1000000 * v) * load (length routes) demand (share routes) e) 1000000 u (capacity_of net e) ratio greater less
    (is demand member amount some flows routing u v v_some within)
