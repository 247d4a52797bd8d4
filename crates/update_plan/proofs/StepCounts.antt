-- Numbers of steps: of one link, and of one link more.
use Rattle.std.proofs.Common.{◌↔◌, ◌≡◌, ℕ, ◌+◌, ◌*◌, ◌-◌, ◌<◌, ◌≤◌, arith, below_more, rules, subst}
use Rattle.std.specs.Ordering.{nat_cmp, ord_max}
use Rattle.std.specs.Prelude.{max, slice_index}
use Rattle.te_model.specs.declared.network.Network.{Network}
use Rattle.te_model.specs.declared.units.TheConstants.{SHARE_UNIT}
use Rattle.te_model.specs.Network.{capacity_of}
use Rattle.update_plan.specs.declared.loads.LinkLoads.{LinkLoads}
use Rattle.update_plan.specs.declared.path.TheConstants.{MAX_STEPS}
use Rattle.update_plan.specs.Laws.{AreEnough}
use Rattle.update_plan.specs.Loads.{AreEnoughOn}

-- the tests of a link by its numbers of steps
pub by_both : (whole before after growth decline growing shrinking K : ℕ) → before ≤ whole → after ≤ whole → 1 ≤ K →
    (growth ≤ K * (whole - before)) ↔ (growing ≤ K) → (decline ≤ K * (whole - after)) ↔ (shrinking ≤ K) →
    AreEnough whole before after growth decline K ↔ (max (max growing shrinking) 1 ≤ K)
by_both whole before after growth decline growing shrinking K before_fits after_fits some grows shrinks = (
  λ enough. omega (arith, grows.0 enough.growth_fits, shrinks.0 enough.decline_fits),
  λ le. record {
    before_fits = before_fits;
    after_fits = after_fits;
    growth_fits = grows.1 (omega arith);
    decline_fits = shrinks.1 (omega arith);
  },
)

-- the least number of steps of one link more
pub one_more : (net : Network) (loads : LinkLoads) (most steps h : ℕ) →
    ((K : ℕ) → 1 ≤ K → K ≤ MAX_STEPS → ((e : ℕ) → e < h → AreEnoughOn net loads K e) ↔ (most ≤ K)) →
    ((K : ℕ) → 1 ≤ K → K ≤ MAX_STEPS → AreEnoughOn net loads K h ↔ (steps ≤ K)) →
    (K : ℕ) → 1 ≤ K → K ≤ MAX_STEPS → ((e : ℕ) → e < h + 1 → AreEnoughOn net loads K e) ↔ (max most steps ≤ K)
one_more net loads most steps h before here K some few = (
  λ enough. omega (arith, (before K some few).0 (λ e below. enough e (omega (arith, below))), (here K some few).0 (enough h (omega arith))),
  λ le. below_more (AreEnoughOn net loads K) h ((before K some few).1 (omega arith)) ((here K some few).1 (omega arith)),
)

-- what the code finds of link h is said of the network
pub of_link : (net : Network) (loads : LinkLoads) (h whole before after growth decline steps : ℕ) → whole ≡ SHARE_UNIT * capacity_of net h →
    before ≡ slice_index loads.before h → after ≡ slice_index loads.after h → growth ≡ slice_index loads.growth h → decline ≡ slice_index loads.decline h →
    ((K : ℕ) → 1 ≤ K → K ≤ MAX_STEPS → AreEnough whole before after growth decline K ↔ (steps ≤ K)) →
    (K : ℕ) → 1 ≤ K → K ≤ MAX_STEPS → AreEnoughOn net loads K h ↔ (steps ≤ K)
of_link net loads h whole before after growth decline steps w b a g d least K some few =
    subst (λ x. AreEnough x (slice_index loads.before h) (slice_index loads.after h) (slice_index loads.growth h) (slice_index loads.decline h) K ↔ (steps ≤ K)) w
    (subst (λ x. AreEnough whole x (slice_index loads.after h) (slice_index loads.growth h) (slice_index loads.decline h) K ↔ (steps ≤ K)) b
    (subst (λ x. AreEnough whole before x (slice_index loads.growth h) (slice_index loads.decline h) K ↔ (steps ≤ K)) a
    (subst (λ x. AreEnough whole before after x (slice_index loads.decline h) K ↔ (steps ≤ K)) g
    (subst (λ x. AreEnough whole before after growth x K ↔ (steps ≤ K)) d (least K some few)))))
