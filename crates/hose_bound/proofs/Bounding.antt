-- Why hose inequalities bound every matrix.
use Rattle.std.proofs.Common.{ℕ, ◌+◌, ◌*◌, ◌<◌, ◌≤◌, List, arith, ◌==◌, length}
use Rattle.std.specs.Prelude.{if◌then◌else◌}
use Rattle.std.proofs.Math.Nat.{mul-le-mul_left}
use Rattle.te_model.specs.Counting.{sum_below}
use Rattle.te_model.specs.declared.network.Network.{Network}
use Rattle.te_model.specs.declared.route.PairRoutes.{PairRoutes}
use Rattle.te_model.specs.Flow.{load}
use Rattle.te_model.specs.Laws.{PairsJoinNodes}
use Rattle.te_model.specs.Network.{node_count}
use Rattle.te_model.specs.Path.{share, source_of, destination_of}
use Rattle.te_model.proofs.FlowLaw.{by_ends}
use Rattle.te_model.proofs.Sums.{sum_below-le, sum_below-add}
use Rattle.hose_bound.specs.Hose.{HoseBounds, IsInHose}

-- the demands by the numbers of their ends are at most the hose's amounts by them
one_side : (n pairs : ℕ) (end' : ℕ → ℕ) (demand d most : ℕ → ℕ) → ((p : ℕ) → p < pairs → end' p < n) →
    ((i : ℕ) → i < n → sum_below pairs (λ p. if end' p == i then demand p else 0) ≤ most i) →
    sum_below pairs (λ p. demand p * d (end' p)) ≤ sum_below n (λ i. most i * d i)
one_side n pairs end' demand d most ends within =
    let whole = by_ends n pairs end' demand d ends in
    let each = sum_below-le n (λ i. d i * sum_below pairs (λ p. if end' p == i then demand p else 0)) (λ i. most i * d i)
    (λ i below. omega (arith, mul-le-mul_left (d i) (within i below))) in
    omega (arith, whole, each)

-- what a matrix within the hose puts on a link is at most what numbers that cover the shares come to
pub load_within : (net : Network) (routes : List PairRoutes) (sent received tails heads : ℕ → ℕ) (e : ℕ) → PairsJoinNodes net routes →
    ((p : ℕ) → p < length routes → share routes p e ≤ tails (source_of routes p) + heads (destination_of routes p)) →
    (demand : ℕ → ℕ) → IsInHose net routes sent received demand →
    load (length routes) demand (share routes) e ≤ sum_below (node_count net) (λ i. sent i * tails i + received i * heads i)
load_within net routes sent received a b e ends covers demand in' =
    let n = node_count net in
    let pairs = length routes in
    let left = one_side n pairs (source_of routes) demand a sent (λ p p_in. (ends p p_in).0) in'.sends in
    let right = one_side n pairs (destination_of routes) demand b received (λ p p_in. (ends p p_in).1) in'.receives in
    let covered = sum_below-le pairs (λ p. demand p * share routes p e) (λ p. demand p * a (source_of routes p) + demand p * b (destination_of routes p))
    (λ p p_in. omega (arith, mul-le-mul_left (demand p) (covers p p_in))) in
    let apart = sum_below-add pairs (λ p. demand p * a (source_of routes p)) (λ p. demand p * b (destination_of routes p)) in
    let sums = sum_below-add n (λ i. sent i * a i) (λ i. received i * b i) in
    omega (arith, left, right, covered, apart, sums)

pub bounds : HoseBounds
bounds net routes sent received bound tails heads ends holds demand in' e below =
    let h = holds e below in
    let within = load_within net routes sent received (tails e) (heads e) e ends h.covers demand in' in
    let pays = h.pays in
    omega (arith, within, pays)
