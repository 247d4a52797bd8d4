-- What pairs have put on the links, pair by pair.
use Rattle.std.proofs.Common.{◌≡◌, ℕ, suc, ◌+◌, ◌*◌, ◌^◌, ◌<◌, ◌≤◌, List, arith, ap}
use Rattle.std.proofs.lemmas.Nat.{mul-le}
use Rattle.te_model.specs.declared.limits.TheConstants.{FORMAT_2}
use Rattle.te_model.specs.declared.route.PathShare.{PathShare}
use Rattle.te_model.specs.Flow.{load}
use Rattle.te_model.specs.Path.{weight_on}
use Rattle.te_model.proofs.Sums.{sum_below-bound}
use Rattle.routing.proofs.Splits.{weight_on-le}
use Rattle.ratio_witness.specs.Judged.{AreSimpleSplits}

-- one pair more
pub load_more : (n : ℕ) (demand : ℕ → ℕ) (flows : ℕ → ℕ → ℕ) (e : ℕ) → load (n + 1) demand flows e ≡ load n demand flows e + demand n * flows n e
load_more n demand flows e =
    let next : n + 1 ≡ suc n = omega arith in
    ap (λ k. load k demand flows e) next

-- the pairs of a head put less than 2 ^ 66 on a link
pub load_small : (n m : ℕ) (demand : ℕ → ℕ) (flows : ℕ → ℕ → ℕ) (e : ℕ) → n ≤ m → m ≤ FORMAT_2.pairs →
    ((p : ℕ) → p < m → demand p ≤ 2 ^ 32) → ((p : ℕ) → p < m → flows p e ≤ 1000000) → load n demand flows e ≤ 2 ^ 66
load_small n m demand flows e le few small shares =
    let each : load n demand flows e ≤ n * (4294967296 * 1000000) = sum_below-bound n (4294967296 * 1000000) (λ p. demand p * flows p e) (λ p below.
    mul-le (demand p) (flows p e) 4294967296 1000000 (small p (omega (arith, below, le))) (shares p (omega (arith, below, le)))) in
    omega (arith, each)

-- a pair puts at most its whole demand on a link
pub split_small : (n : ℕ) (paths : ℕ → List PathShare) → AreSimpleSplits n paths → (p e : ℕ) → p < n → weight_on (paths p) e ≤ 1000000
split_small n paths splits p e below = omega (arith, weight_on-le (paths p) e, splits.whole p below)
