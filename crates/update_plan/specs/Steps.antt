-- How many steps the links need.
use Rattle.std.specs.Prelude.{◌↔◌, ℕ, ◌<◌, ◌≤◌}
use Rattle.te_model.specs.declared.network.Network.{Network}
use Rattle.te_model.specs.Network.{link_count}
use Rattle.update_plan.specs.declared.loads.LinkLoads.{LinkLoads}
use Rattle.update_plan.specs.declared.path.TheConstants.{MAX_STEPS}
use Rattle.update_plan.specs.Loads.{AreEnoughOn}

-- as many steps, 1 to 1000, are enough on each link, and no fewer are
pub record IsStepCount (net : Network) (loads : LinkLoads) (steps : ℕ) : Type 0 where
  pub some : 1 ≤ steps
  pub few : steps ≤ MAX_STEPS
  pub least : (K : ℕ) → 1 ≤ K → K ≤ MAX_STEPS → ((e : ℕ) → e < link_count net → AreEnoughOn net loads K e) ↔ (steps ≤ K)

-- of the links on which no number of steps up to 1000 is enough, e is the first
pub record IsFirstWithoutSteps (net : Network) (loads : LinkLoads) (e : ℕ) : Type 0 where
  pub inside : e < link_count net
  pub none : (K : ℕ) → 1 ≤ K → K ≤ MAX_STEPS → ¬ AreEnoughOn net loads K e
  pub first : (h : ℕ) → h < e → AreEnoughOn net loads MAX_STEPS h
