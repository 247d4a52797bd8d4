-- The least bound that pays for a block, and for some: it is small.
use Rattle.std.proofs.Common.{◌≡◌, ℕ, zero, suc, ◌+◌, ◌*◌, ◌^◌, ◌<◌, ◌≤◌, max, List, [], ◌∷◌, length, get_or, take, arith, rules, subst, sym}
use Rattle.std.specs.Prelude.{All, IsTrue, slice_index}
use Rattle.std.specs.Ordering.{nat_cmp, ord_max}
use Rattle.std.proofs.Math.Nat.{mul-le-mul_left}
use Rattle.std.proofs.lemmas.Bool.{le-leb, leb-true}
use Rattle.std.proofs.lemmas.List.Elements.{All-cons, All-from_get_or, All-get_or, All-head, All-more, All-nil, All-tail, All-weaker}
use Rattle.te_model.specs.declared.limits.TheConstants.{FORMAT_2}
use Rattle.te_model.specs.declared.network.Network.{Network}
use Rattle.te_model.specs.declared.route.PairRoutes.{PairRoutes}
use Rattle.te_model.specs.declared.units.TheConstants.{RATIO_UNIT, SHARE_UNIT}
use Rattle.te_model.specs.Counting.{sum_below}
use Rattle.te_model.specs.Division.{quotient_up}
use Rattle.te_model.specs.Network.{capacity_of, link_count, node_count}
use Rattle.te_model.proofs.Quotients.{quotient_up-enough, quotient_up-least}
use Rattle.hose_bound.specs.declared.hose.Hose.{Hose}
use Rattle.hose_bound.specs.declared.hose.HoseBlock.{HoseBlock}
use Rattle.hose_bound.specs.Covering.{IsLeastBound}
use Rattle.hose_bound.specs.Judging.{AreSmallAmounts, IsSmallBlock}
use Rattle.hose_bound.specs.Making.{IsAttained, IsLeastBoundOf}
use Rattle.hose_bound.specs.Rules.{zero_hose_block}
use Rattle.hose_bound.specs.Verdict.{block_sum, pays_numbers}
use Rattle.hose_bound.proofs.Raising.{pays_more}
use Rattle.hose_bound.proofs.Sizes.{node_sum_small}

sum_within : (n most : ℕ) (f : ℕ → ℕ) → ((i : ℕ) → f i ≤ most) → sum_below n f ≤ n * most
sum_within zero most f each = omega arith
sum_within (suc n) most f each = omega (arith, sum_within n most f each, each n)

pub sum_small : (n : ℕ) (h : Hose) (b : HoseBlock) → n ≤ FORMAT_2.nodes → AreSmallAmounts h → IsSmallBlock b → block_sum n h b < 2 ^ 60
sum_small n h b few amounts small =
    let most = sum_within n (2 ^ 33 * 1000000) (λ i. slice_index h.sent i * slice_index b.tails i + slice_index h.received i * slice_index b.heads i)
    (λ i. node_sum_small (slice_index h.sent i) (slice_index b.tails i) (slice_index h.received i) (slice_index b.heads i) (amounts.sent i) (small.tails i) (amounts.received i) (small.heads i)) in
    omega (arith, most, few)

-- the least quotient is at most the sum
pub quotient_within : (sum capacity q : ℕ) → 1 ≤ capacity → ((k : ℕ) → 1000000 * sum ≤ k * (1000000 * capacity) → q ≤ k) → q ≤ sum
quotient_within sum capacity q some least = least sum (omega (arith, mul-le-mul_left {m = 1} {n = capacity} sum some))

-- what pays, as a product
pub pays_from : (net : Network) (h : Hose) (bound link : ℕ) (b : HoseBlock) →
    RATIO_UNIT * block_sum (node_count net) h b ≤ bound * (SHARE_UNIT * capacity_of net link) → IsTrue (pays_numbers net h bound link b)
pays_from net h bound link b enough = le-leb _ _ (omega (arith, enough))

pub enough_from : (net : Network) (h : Hose) (bound link : ℕ) (b : HoseBlock) → IsTrue (pays_numbers net h bound link b) →
    RATIO_UNIT * block_sum (node_count net) h b ≤ bound * (SHARE_UNIT * capacity_of net link)
enough_from net h bound link b pays = let le = leb-true _ _ pays in omega (arith, le)

-- one block more
pub one_bound_more : (net : Network) (h : Hose) (bs : List HoseBlock) (b : HoseBlock) (bound one : ℕ) → IsLeastBound net h bs bound →
    IsTrue (pays_numbers net h one b.link b) → ((other : ℕ) → IsTrue (pays_numbers net h other b.link b) → one ≤ other) → IsLeastBound net h (b ∷ bs) (max one bound)
one_bound_more net h bs b bound one are pays least = record {
  pays = All-cons (λ (x : HoseBlock). IsTrue (pays_numbers net h (max one bound) x.link x)) b bs
      (pays_more net h one (max one bound) b (omega arith) pays)
      (All-weaker (λ (x : HoseBlock). IsTrue (pays_numbers net h bound x.link x)) (λ (x : HoseBlock). IsTrue (pays_numbers net h (max one bound) x.link x))
      (λ x is. pays_more net h bound (max one bound) x (omega arith) is) bs are.pays);
  least = λ other all.
      let first = least other (All-head (λ (x : HoseBlock). IsTrue (pays_numbers net h other x.link x)) b bs all) in
      let rest = are.least other (All-tail (λ (x : HoseBlock). IsTrue (pays_numbers net h other x.link x)) b bs all) in
      omega (arith, first, rest);
}

-- one block more in a walk along the blocks
pub bound_pays_more : (net : Network) (h : Hose) (bs : List HoseBlock) (k : ℕ) (b : HoseBlock) (bound one next : ℕ) → k < length bs → b ≡ get_or bs k b → next ≡ max bound one →
    All (λ (x : HoseBlock). IsTrue (pays_numbers net h bound x.link x)) (take k bs) → IsTrue (pays_numbers net h one b.link b) →
    All (λ (x : HoseBlock). IsTrue (pays_numbers net h next x.link x)) (take (k + 1) bs)
bound_pays_more net h bs k b bound one next below is grows before pays =
    let P : HoseBlock → Type 0 = λ x. IsTrue (pays_numbers net h next x.link x) in
    All-more P bs k b below
    (All-weaker (λ (x : HoseBlock). IsTrue (pays_numbers net h bound x.link x)) P (λ x it. pays_more net h bound next x (omega (arith, grows)) it) (take k bs) before)
    (subst P is (pays_more net h one next b (omega (arith, grows)) pays))

-- and what pays for all pays for each
pub one_of_all : (net : Network) (h : Hose) (other : ℕ) (bs : List HoseBlock) (k : ℕ) (b : HoseBlock) → k < length bs → b ≡ get_or bs k b →
    All (λ (x : HoseBlock). IsTrue (pays_numbers net h other x.link x)) bs → IsTrue (pays_numbers net h other b.link b)
one_of_all net h other bs k b below is all =
    let P : HoseBlock → Type 0 = λ x. IsTrue (pays_numbers net h other x.link x) in
    subst P (sym is) (All-get_or P bs k b below all)

-- blocks on links with a capacity have such a bound
pub some_bound : (net : Network) (h : Hose) (bs : List HoseBlock) → node_count net ≤ FORMAT_2.nodes → ((e : ℕ) → e < link_count net → 1 ≤ capacity_of net e) →
    AreSmallAmounts h → All IsSmallBlock bs → All (λ b. b.link < link_count net) bs → (bound : ℕ) × IsLeastBound net h bs bound × (bound < 2 ^ 60)
some_bound net h [] few some amounts small inside = (0, record { pays = All-nil (λ (x : HoseBlock). IsTrue (pays_numbers net h 0 x.link x)); least = λ other all. omega arith }, omega arith)
some_bound net h (b ∷ bs) few some amounts small inside =
    let rest = some_bound net h bs few some amounts (All-tail IsSmallBlock b bs small) (All-tail (λ x. x.link < link_count net) b bs inside) in
    let link = All-head (λ x. x.link < link_count net) b bs inside in
    let sum = block_sum (node_count net) h b in
    let capacity = capacity_of net b.link in
    let positive : 1 ≤ SHARE_UNIT * capacity = (let one = some b.link link in omega (arith, one)) in
    let q = quotient_up (RATIO_UNIT * sum) (SHARE_UNIT * capacity) in
    let least : (k : ℕ) → RATIO_UNIT * sum ≤ k * (SHARE_UNIT * capacity) → q ≤ k = λ k. quotient_up-least (RATIO_UNIT * sum) (SHARE_UNIT * capacity) k positive in
    let within = quotient_within sum capacity q (some b.link link) least in
    let short = sum_small (node_count net) h b few amounts (All-head IsSmallBlock b bs small) in
    let small' = rest.2 in (
      max q rest.0,
      one_bound_more net h bs b rest.0 q rest.1 (pays_from net h q b.link b (quotient_up-enough (RATIO_UNIT * sum) (SHARE_UNIT * capacity) positive))
          (λ other pays. least other (enough_from net h other b.link b pays)),
      omega (arith, within, short, small'),
    )

-- where each block's sum is put on its link by some matrix within the hose, no lower bound is true
pub least_bound_of : (net : Network) (routes : List PairRoutes) (h : Hose) (bs : List HoseBlock) (bound : ℕ) → All (IsAttained net routes h) bs → All (λ b. b.link < link_count net) bs →
    IsLeastBound net h bs bound → IsLeastBoundOf net routes h bound
least_bound_of net routes h bs bound attained inside is = λ other bounded.
    is.least other (All-from_get_or (λ (x : HoseBlock). IsTrue (pays_numbers net h other x.link x)) bs (zero_hose_block 0)
    (λ k below.
    let b = get_or bs k (zero_hose_block 0) in
    let (demand, within, reaches) = All-get_or (IsAttained net routes h) bs k (zero_hose_block 0) below attained in
    let most = bounded demand within b.link (All-get_or (λ x. x.link < link_count net) bs k (zero_hose_block 0) below inside) in
    pays_from net h other b.link b (omega (arith, reaches, most))))
