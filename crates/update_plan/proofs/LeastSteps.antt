-- What the numbers of the links say of the update.
use Rattle.std.proofs.Common.{◌↔◌, ◌≡◌, inl, inr, ℕ, ◌+◌, ◌*◌, ◌≤◌, List, length, arith, refl, sym, subst}
use Rattle.std.specs.Prelude.{Err, IfOk, Ok, Result, slice_index}
use Rattle.std.proofs.lemmas.Bool.{cases_lt}
use Rattle.te_model.specs.declared.network.Network.{Network}
use Rattle.te_model.specs.declared.route.PairRoutes.{PairRoutes}
use Rattle.te_model.specs.declared.units.TheConstants.{SHARE_UNIT}
use Rattle.te_model.specs.Network.{link_count, capacity_of}
use Rattle.update_plan.specs.declared.fault.UpdateFault.{UpdateFault}
use Rattle.update_plan.specs.declared.fault.UpdateFault.TheVariants.{Memory, NoSlack}
use Rattle.update_plan.specs.declared.loads.LinkLoads.{LinkLoads}
use Rattle.update_plan.specs.declared.path.TheConstants.{MAX_STEPS}
use Rattle.update_plan.specs.declared.path.UpdatePath.{UpdatePath}
use Rattle.update_plan.specs.declared.path.UpdatePlan.{UpdatePlan}
use Rattle.update_plan.specs.Laws.{AreEnough, HasSteps, decline_on, growth_on}
use Rattle.update_plan.specs.Loads.{AreEnoughOn, AreLinkLoads, HasLoads}
use Rattle.update_plan.specs.Paths.{ArePaths, update_of}
use Rattle.update_plan.specs.Plan.{HasPlanWithin, IsLeastSafe, IsPlanOf, LacksSlack, LacksSlackOn, LeaveRoutesFree}
use Rattle.update_plan.specs.Steps.{IsFirstWithoutSteps, IsStepCount}
use Rattle.update_plan.specs.Update.{IsSafe, LeaveFree, load_by}
use Rattle.update_plan.proofs.RoutingLoads.{loads_are_of_routings}
use Rattle.update_plan.proofs.Safe.{by_quotients, on_quotients, with_slack}

enough_same : (whole b a g d b' a' g' d' K : ℕ) → b ≡ b' → a ≡ a' → g ≡ g' → d ≡ d' → AreEnough whole b a g d K → AreEnough whole b' a' g' d' K
enough_same whole b a g d b' a' g' d' K eb ea eg ed has =
    subst (λ x. AreEnough whole x a' g' d' K) eb
    (subst (λ x. AreEnough whole b x g' d' K) ea (subst (λ x. AreEnough whole b a x d' K) eg (subst (λ x. AreEnough whole b a g x K) ed has)))

-- the steps of a link by its loads
enough_is : (net : Network) (demand : List ℕ) (paths : List UpdatePath) (loads : LinkLoads) → AreLinkLoads net demand paths loads → (K e : ℕ) →
    AreEnoughOn net loads K e ↔ HasSteps (update_of net demand paths) K e
enough_is net demand paths loads are K e =
    let x = update_of net demand paths in
    let eb = are.before.each e in
    let ea = are.after.each e in
    let eg = are.growth.each e in
    let ed = are.decline.each e in (
      λ has. enough_same (SHARE_UNIT * capacity_of net e) (slice_index loads.before e) (slice_index loads.after e) (slice_index loads.growth e) (slice_index loads.decline e) (load_by x x.before e) (load_by x x.after e) (growth_on x e) (decline_on x e) K eb ea eg ed has,
      λ has. enough_same (SHARE_UNIT * capacity_of net e) (load_by x x.before e) (load_by x x.after e) (growth_on x e) (decline_on x e)
          (slice_index loads.before e) (slice_index loads.after e) (slice_index loads.growth e) (slice_index loads.decline e) K
          (sym eb) (sym ea) (sym eg) (sym ed) has,
    )

pub least_safe : (net : Network) (demand : List ℕ) (paths : List UpdatePath) (loads : LinkLoads) (steps : ℕ) → AreLinkLoads net demand paths loads →
    IsStepCount net loads steps → IsLeastSafe (update_of net demand paths) steps
least_safe net demand paths loads steps are count =
    let x = update_of net demand paths in
    record {
      some = count.some;
      few = count.few;
      safe = (by_quotients x steps count.some).1 (λ e e_in.
          (enough_is net demand paths loads are steps e).0 ((count.least steps count.some count.few).1 (omega arith) e e_in));
      least = λ K some fewer safe.
          let enough = (by_quotients x K some).0 safe in
          let few : K ≤ MAX_STEPS = omega (arith, fewer, count.few) in
          let le = (count.least K some few).0 (λ e e_in. (enough_is net demand paths loads are K e).1 (enough e e_in)) in
          omega (arith, le, fewer);
    }

pub lacks_slack : (net : Network) (demand : List ℕ) (paths : List UpdatePath) (loads : LinkLoads) (e : ℕ) → AreLinkLoads net demand paths loads →
    IsFirstWithoutSteps net loads e → LacksSlack (update_of net demand paths) e
lacks_slack net demand paths loads e are lacks =
    let x = update_of net demand paths in
    let some : 1 ≤ MAX_STEPS = omega arith in
    record {
      inside = lacks.inside;
      none = λ K one few safe. lacks.none K one few ((enough_is net demand paths loads are K e).1 ((by_quotients x K one).0 safe e lacks.inside));
      fails = λ safe. lacks.none MAX_STEPS some (omega arith) ((enough_is net demand paths loads are MAX_STEPS e).1 ((on_quotients x MAX_STEPS e some).0 safe));
      first = λ h lt. (on_quotients x MAX_STEPS h some).1 ((enough_is net demand paths loads are MAX_STEPS h).0 (lacks.first h lt));
    }

-- the loads have one number of each kind for each link
pub has_loads : (net : Network) (demand : List ℕ) (paths : List UpdatePath) (loads : LinkLoads) → AreLinkLoads net demand paths loads →
    HasLoads (link_count net) loads
has_loads net demand paths loads are = record {
  before = record { count_is = are.before.count; beyond = are.before.beyond };
  after = record { count_is = are.after.count; beyond = are.after.beyond };
  growth = record { count_is = are.growth.count; beyond = are.growth.beyond };
  decline = record { count_is = are.decline.count; beyond = are.decline.beyond };
}

-- free shares of the routings are free shares of their update
leave_free : (net : Network) (before after : List PairRoutes) (demand : List ℕ) (paths : List UpdatePath) (k : ℕ) → length after ≡ length before →
    ArePaths (length before) before after paths → LeaveRoutesFree net before after demand k → LeaveFree (update_of net demand paths) k
leave_free net before after demand paths k same are free = record {
  before = λ e e_in.
      subst (λ l. (k + 1) * l ≤ k * SHARE_UNIT * capacity_of net e) (sym (loads_are_of_routings net before after demand paths same are e).0) (free.before e e_in);
  after = λ e e_in.
      subst (λ l. (k + 1) * l ≤ k * SHARE_UNIT * capacity_of net e) (sym (loads_are_of_routings net before after demand paths same are e).1) (free.after e e_in);
}

-- k steps are safe by a free share
pub safe_by_slack : (net : Network) (before after : List PairRoutes) (demand : List ℕ) (paths : List UpdatePath) (k : ℕ) → length after ≡ length before →
    ArePaths (length before) before after paths → 1 ≤ k → LeaveRoutesFree net before after demand k → IsSafe (update_of net demand paths) k
safe_by_slack net before after demand paths k same are some free =
    with_slack (update_of net demand paths) k some (leave_free net before after demand paths k same are free)

-- so the least number of steps is no greater
pub few_by_slack : (net : Network) (before after : List PairRoutes) (demand : List ℕ) (paths : List UpdatePath) (steps k : ℕ) → length after ≡ length before →
    ArePaths (length before) before after paths → IsLeastSafe (update_of net demand paths) steps → 1 ≤ k → LeaveRoutesFree net before after demand k → steps ≤ k
few_by_slack net before after demand paths steps k same are least some free = elim (cases_lt k steps) [
  | inl lt ↦ absurd (least.least k some lt (safe_by_slack net before after demand paths k same are some free))
  | inr ge ↦ ge
]

-- so there is a plan within k steps
pub within_slack : (net : Network) (before after : List PairRoutes) (demand : List ℕ) → length after ≡ length before → (result : Result UpdatePlan UpdateFault) →
    IfOk result (IsPlanOf net before after demand) → ((e : ℕ) → result ≡ Err (NoSlack e) → LacksSlackOn net before after demand e) →
    (k : ℕ) → 1 ≤ k → k ≤ MAX_STEPS → LeaveRoutesFree net before after demand k → HasPlanWithin k result
within_slack net before after demand same (Ok plan) is none k some few free =
    few_by_slack net before after demand plan.paths plan.steps k same is.0 is.1 some free
within_slack net before after demand same (Err (NoSlack e)) is none k some few free =
    let (paths, are, lacks) = none e refl in
    absurd (lacks.none k some few (safe_by_slack net before after demand paths k same are some free))
within_slack net before after demand same (Err Memory) is none k some few free = refl
