-- The greatest bound so far, when a mean is offered.
use Rattle.std.proofs.Common.{◌≡◌, ℕ, ◌<◌, ◌≤◌, max, arith}

pub bound_taken : (low mean exact : ℕ) → mean ≡ exact → low < mean → mean ≡ max low exact
bound_taken low mean exact is less = omega (arith, is, less)

pub bound_kept : (low mean exact : ℕ) → mean ≡ exact → mean ≤ low → low ≡ max low exact
bound_kept low mean exact is le = omega (arith, is, le)
