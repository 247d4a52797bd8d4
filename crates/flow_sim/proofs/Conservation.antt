-- Nothing is made and nothing vanishes.
use Rattle.std.proofs.Common.{◌≡◌, ℕ, zero, suc, ◌+◌, ◌≤◌, Bool, true, false, arith, refl, ◌==◌}
use Rattle.std.specs.Prelude.{if◌then◌else◌, nat_lt}
use Rattle.std.proofs.lemmas.Bool.{eq-eqb}
use Rattle.te_model.specs.Counting.{sum_below}
use Rattle.te_model.proofs.Sums.{sum_below-same, sum_below-add, sum_below-zero}
use Rattle.flow_sim.specs.Fair.{fair}
use Rattle.flow_sim.specs.Step.{Setting, Moment, arrivals, service_of, units_passed_on, used_capacity, before_round, units, loss, delivery, lost_failed_before, lost_full_before, lost_failed, lost_full, over_pair}
use Rattle.flow_sim.proofs.Level.{fair-le, fair-sum}

pub served-le : (s : Setting) (now : Moment) (r e f : ℕ) → service_of s now r e f ≤ arrivals s now r e f
served-le s now r e f = go (s.has_failed e)
  where
    go : (b : Bool) → (if b then 0 else fair (now.left e) s.flows (arrivals s now r e) f) ≤ arrivals s now r e f
    go true = omega arith
    go false = fair-le (now.left e) s.flows (arrivals s now r e) f

arrivals-own : (s : Setting) (now : Moment) (r f : ℕ) → arrivals s now r (s.hop f r) f ≡ now.units f
arrivals-own s now r f = let same : (s.hop f r == s.hop f r) ≡ true = eq-eqb (s.hop f r) (s.hop f r) refl in rw same refl

-- no flow gains units
pub passed-le : (s : Setting) (now : Moment) (r f : ℕ) → units_passed_on s now r f ≤ now.units f
passed-le s now r f = go (nat_lt (s.hop f r) s.links)
  where
    go : (b : Bool) → (if b then service_of s now r (s.hop f r) f else now.units f) ≤ now.units f
    go true = omega (arith, served-le s now r (s.hop f r) f, arrivals-own s now r f)
    go false = omega arith

split_loss : (b : Bool) (x : ℕ) → (if b then x else 0) + (if b then 0 else x) ≡ x
split_loss true x = omega arith
split_loss false x = omega arith

-- what a flow starts with it still has, or has lost
pub kept_so_far : (s : Setting) (f n : ℕ) → s.start f ≡ units s f n + lost_failed_before s f n + lost_full_before s f n
kept_so_far s f zero = omega arith
kept_so_far s f (suc n) =
    omega (
      arith,
      kept_so_far s f n,
      passed-le s (before_round s n) n f,
      split_loss (s.has_failed (s.hop f n)) (loss s f n),
    )

-- what a flow starts with is delivered or lost
pub flow_conserved : (s : Setting) (f : ℕ) → s.start f ≡ delivery s f + lost_failed s f + lost_full s f
flow_conserved s f = kept_so_far s f s.rounds

pick_three : (b : Bool) (w x y z : ℕ) → w ≡ x + y + z →
    (if b then w else 0) ≡ (if b then x else 0) + (if b then y else 0) + (if b then z else 0)
pick_three true w x y z e = e
pick_three false w x y z e = refl

-- so are the units of a pair's flows
pub pair_conserved : (s : Setting) (p : ℕ) →
    over_pair s s.start p ≡ over_pair s (delivery s) p + over_pair s (lost_failed s) p + over_pair s (lost_full s) p
pair_conserved s p =
    let of = λ (amount : ℕ → ℕ) (f : ℕ). if s.pair f == p then amount f else 0 in
    omega (
      arith,
      sum_below-same s.flows (of s.start) (λ f. of (delivery s) f + of (lost_failed s) f + of (lost_full s) f)
          (λ f below. pick_three (s.pair f == p) (s.start f) (delivery s f) (lost_failed s f) (lost_full s f) (flow_conserved s f)),
      sum_below-add s.flows (λ f. of (delivery s) f + of (lost_failed s) f) (of (lost_full s)),
      sum_below-add s.flows (of (delivery s)) (of (lost_failed s)),
    )

-- a link serves no more than it has left
pub used-le : (s : Setting) (now : Moment) (r e : ℕ) → used_capacity s now r e ≤ now.left e
used-le s now r e = go (s.has_failed e)
  where
    go : (b : Bool) → sum_below s.flows (λ f. if b then 0 else fair (now.left e) s.flows (arrivals s now r e) f) ≤ now.left e
    go true = omega (arith, sum_below-zero s.flows (λ f. 0) (λ k below. refl))
    go false = omega (arith, fair-sum (now.left e) s.flows (arrivals s now r e))

-- what a link has left is its capacity less what it served in earlier rounds
pub left_is : (s : Setting) (e n : ℕ) →
    (before_round s n).left e + sum_below n (λ r. used_capacity s (before_round s r) r e) ≡ s.capacity e
left_is s e zero = omega arith
left_is s e (suc n) = omega (arith, left_is s e n, used-le s (before_round s n) n e)
