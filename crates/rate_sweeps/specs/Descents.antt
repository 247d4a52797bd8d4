-- Where a descent stands, and what a turn makes of it.
use Rattle.std.specs.Prelude.{◌≡◌, ℕ, ◌+◌, ◌-◌, ◌*◌, ◌/◌, ◌<◌, ◌≤◌, List, map, min}
use Rattle.te_model.specs.declared.network.Network.{Network}
use Rattle.te_model.specs.declared.route.PairRoutes.{PairRoutes}
use Rattle.te_model.specs.PathRouting.{IsPathRouting}
use Rattle.routing.specs.Routes.{HasFewPaths}
use Rattle.routing.specs.Utilisation.{parts}
use Rattle.rate_sweeps.specs.declared.descent.Descent.{Descent}
use Rattle.rate_sweeps.specs.declared.pace.Pace.{Pace}
use Rattle.rate_sweeps.specs.Shifts.{AreShifts, UsesOnlyWays}

-- numbers of a pace
pub record IsPace (pace : Pace) : Type 0 where
  pub some : 1 ≤ pace.step_divisor
  pub step_divisor : pace.step_divisor ≤ 4096
  pub squarings : pace.squarings ≤ 9
  pub idle : pace.idle ≤ 5

-- the pace at the start of a descent, where a turn takes a 128th of a weight and usages are squared six times
abbrev pub first_pace : ℕ → Pace
first_pace most = record { step_divisor = 128; squarings = 6; idle = 0; least = most }

-- The pace after a turn to this greatest utilisation. A gain, which is a fall by more than one of 2000 parts, is kept. A turn without one is
-- idle, and after five idle ones shares become half as great, and usages are squared once more, up to nine times.
pub record IsNextPace (old : Pace) (most : ℕ) (new : Pace) : Type 0 where
  pub gain : most < old.least - old.least / 2000 → new ≡ record old { least = most; idle = 0 }
  pub idle : old.least - old.least / 2000 ≤ most → old.idle < 5 → new ≡ record old { idle = old.idle + 1 }
  pub smaller : old.least - old.least / 2000 ≤ most → 5 ≤ old.idle →
      new ≡ record old { step_divisor = 2 * min old.step_divisor 2048; squarings = min (old.squarings + 1) 9; idle = 0 }

-- two routings of the pairs of the start, the better of which is no worse than the start
pub record IsDescent (net : Network) (demand : List ℕ) (start : List PairRoutes) (d : Descent) : Type 0 where
  pub routing : IsPathRouting net d.routing.routes
  pub routing_pairs : map (λ r. r.pair) d.routing.routes ≡ map (λ r. r.pair) start
  pub best : IsPathRouting net d.best.routes
  pub best_pairs : map (λ r. r.pair) d.best.routes ≡ map (λ r. r.pair) start
  pub least : d.least ≡ parts net d.best.routes demand
  pub no_greater : parts net d.best.routes demand ≤ parts net start demand
  pub pace : IsPace d.pace

-- what holds of the paths of both routings
abbrev pub BothKeep : (List PairRoutes → Type 0) → Descent → Type 0
BothKeep P d = P d.routing.routes × P d.best.routes

-- a turn: no pair gets more paths than it may have, nor others than those offered
pub record IsTurn (limit : ℕ) (offered : List (List ℕ)) (old new : Descent) : Type 0 where
  pub few : BothKeep (HasFewPaths limit) old → BothKeep (HasFewPaths limit) new
  pub only : (fixed : List PairRoutes) → BothKeep (UsesOnlyWays fixed offered) old → BothKeep (UsesOnlyWays fixed offered) new

-- A turn whose shifts made this routing: the pace is the next one, the best routing is the better one, and the next turn goes on from what
-- was made, or from the best routing where shares become smaller.
pub record IsTurnTo (net : Network) (demand : List ℕ) (made : List PairRoutes) (old new : Descent) : Type 0 where
  pub pace : IsNextPace old.pace (parts net made demand) new.pace
  pub better : parts net made demand < old.least → new.best.routes ≡ made
  pub no_better : old.least ≤ parts net made demand → new.best.routes ≡ old.best.routes
  pub goes_on : new.pace.step_divisor ≤ old.pace.step_divisor → new.routing.routes ≡ made
  pub goes_back : old.pace.step_divisor < new.pace.step_divisor → new.routing.routes ≡ new.best.routes

-- a turn makes a routing by shifts to the offered paths, in the parts of the pace
abbrev pub MakesTurn : Network → List ℕ → List ℕ → ℕ → List (List ℕ) → Descent → Descent → Type 0
MakesTurn net demand lengths limit offered old new =
    (made : List PairRoutes) × AreShifts lengths old.pace.step_divisor limit demand old.routing.routes offered made × IsTurnTo net demand made old new
