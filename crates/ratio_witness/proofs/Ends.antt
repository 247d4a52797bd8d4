-- What a pair puts on the links at its ends.
use Rattle.std.proofs.Common.{◌≡◌, ℕ, ◌+◌, ◌*◌, ◌≤◌, Bool, true, false, List, length, arith}
use Rattle.std.specs.Prelude.{if◌then◌else◌, ◌==◌}
use Rattle.std.proofs.lemmas.Bool.Decides.{nat_tests}
use Rattle.std.proofs.Math.Nat.{mul-le-mul_right}
use Rattle.te_model.specs.declared.network.Network.{Network}
use Rattle.te_model.specs.declared.route.PairRoutes.{PairRoutes}
use Rattle.te_model.specs.Counting.{sum_below}
use Rattle.te_model.specs.LowerBound.{IsLowerBound}
use Rattle.te_model.specs.Network.{link_count, capacity_of, tail_of, head_of}
use Rattle.te_model.specs.Path.{source_of, destination_of}
use Rattle.te_model.proofs.Lower.{potentials_bound}
use Rattle.te_model.proofs.Sums.{sum_below-le, sum_below-term}
use Rattle.ratio_witness.specs.Witness.{capacity_from, capacity_into, EndsBoundRoutings}

once : (b : Bool) (c : ℕ) → c * (if b then 1 else 0) ≤ (if b then c else 0)
once true c = omega arith
once false c = omega arith

-- of node i at node v: 1 everywhere but at s itself, where i is s
abbrev out_of : ℕ → ℕ → ℕ → ℕ
out_of s i v = if i == v then 0 else (if i == s then 1 else 0)

-- 1 at t alone, where i is another node
abbrev in_to : ℕ → ℕ → ℕ → ℕ
in_to t i v = if i == v then 0 else (if v == t then 1 else 0)

out_start : (s i : ℕ) → out_of s i i ≡ 0
out_start s i = grind (arith, nat_tests)

out_rises : (s i a b : ℕ) → out_of s i b ≤ out_of s i a + (if a == s then 1 else 0)
out_rises s i a b = grind (arith, nat_tests)

out_one : (s t : ℕ) → (s ≡ t → ⊥) → out_of s s t ≡ 1
out_one s t apart = grind (arith, nat_tests)

in_start : (t i : ℕ) → in_to t i i ≡ 0
in_start t i = grind (arith, nat_tests)

in_rises : (t i a b : ℕ) → in_to t i b ≤ in_to t i a + (if b == t then 1 else 0)
in_rises t i a b = grind (arith, nat_tests)

in_one : (s t : ℕ) → (s ≡ t → ⊥) → in_to t s t ≡ 1
in_one s t apart = grind (arith, nat_tests)

-- a lower bound of a greater demand is one of a smaller
fewer : (net : Network) (routes : List PairRoutes) (demand : ℕ → ℕ) (x z y : ℕ) → x ≤ z → IsLowerBound net routes demand z y → IsLowerBound net routes demand x y
fewer net routes demand x z y less bound amount some flows is u v one within =
    let whole = bound amount some flows is u v one within in
    omega (arith, whole, mul-le-mul_right {m = x} {n = z} v less)

pub ends_bound : EndsBoundRoutings
ends_bound net routes links pairs demand p below apart =
    let s = source_of routes p in
    let t = destination_of routes p in
    let n = length routes in
    let m = link_count net in
    let out_term = sum_below-term n p (λ q. demand q * out_of s (source_of routes q) (destination_of routes q)) below in
    let in_term = sum_below-term n p (λ q. demand q * in_to t (source_of routes q) (destination_of routes q)) below in
    let out_here : demand p ≤ demand p * out_of s s t = rw (out_one s t apart) (omega arith) in
    let in_here : demand p ≤ demand p * in_to t s t = rw (in_one s t apart) (omega arith) in (
      fewer net routes demand (demand p) (sum_below n (λ q. demand q * out_of s (source_of routes q) (destination_of routes q))) (capacity_from net s)
          (omega (arith, out_term, out_here))
          (potentials_bound net routes links pairs (λ h. if tail_of net h == s then 1 else 0) (out_of s) (λ i i_in. out_start s i)
          (λ i h i_in h_in. out_rises s i (tail_of net h) (head_of net h)) demand (capacity_from net s)
          (sum_below-le m (λ h. capacity_of net h * (if tail_of net h == s then 1 else 0)) (λ h. if tail_of net h == s then capacity_of net h else 0)
          (λ h h_in. once (tail_of net h == s) (capacity_of net h)))),
      fewer net routes demand (demand p) (sum_below n (λ q. demand q * in_to t (source_of routes q) (destination_of routes q))) (capacity_into net t)
          (omega (arith, in_term, in_here))
          (potentials_bound net routes links pairs (λ h. if head_of net h == t then 1 else 0) (in_to t) (λ i i_in. in_start t i)
          (λ i h i_in h_in. in_rises t i (tail_of net h) (head_of net h)) demand (capacity_into net t)
          (sum_below-le m (λ h. capacity_of net h * (if head_of net h == t then 1 else 0)) (λ h. if head_of net h == t then capacity_of net h else 0)
          (λ h h_in. once (head_of net h == t) (capacity_of net h)))),
    )
