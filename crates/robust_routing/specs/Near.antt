-- The loads that the pairs near the dearest put on the links.
use Rattle.std.specs.Prelude.{◌≡◌, ℕ, zero, suc, ◌+◌, ◌*◌, ◌^◌, ◌<◌, Bool, true, false, List, Option, length, min, nat_le, slice_index}
use Rattle.te_model.specs.Pairs.{pair_at}
use Rattle.centred_steps.specs.Loads.{times_on}
use Rattle.centred_steps.specs.Ways.{AreLastLinks, way_to}
use Rattle.robust_routing.specs.declared.round.Round.{Round}
use Rattle.robust_routing.specs.Sweep.{amount, nearness}
use Rattle.robust_routing.specs.Tables.{NumberTable, number_in}

-- how much pair p counts on the link beside the greatest quotient there
abbrev pub nearness_on : Round → NumberTable → ℕ → ℕ → ℕ → ℕ
nearness_on r quotients link greatest p = nearness r.sweep greatest (number_in quotients link p)

-- whether that is at least one of 2^13 parts of what the dearest one counts
abbrev pub is_near : Round → NumberTable → ℕ → ℕ → ℕ → Bool
is_near r quotients link greatest p = nat_le (2 ^ 17) (nearness_on r quotients link greatest p)

-- what pair p sends against the link
abbrev pub amount_on : Round → NumberTable → NumberTable → ℕ → ℕ → ℕ → ℕ
amount_on r shares quotients link greatest p =
    amount r.sweep (nearness_on r quotients link greatest p) (number_in quotients link p) (number_in shares link p)

-- a pair that is near puts its amount on each link of a way to its destination, and one that is not puts nothing
pub record IsLoadAdded (r : Round) (shares quotients : NumberTable) (link greatest p : ℕ) (old new : List ℕ) : Type 0 where
  pub near : is_near r quotients link greatest p ≡ true → (lasts : List (Option ℕ)) × AreLastLinks r.net.now lasts
      × ((e : ℕ) → e < length old → slice_index new e ≡ min (2 ^ 66)
      (slice_index old e + amount_on r shares quotients link greatest p * times_on (way_to r.net.now lasts (length lasts) (pair_at r.pairs.now p).dst) e))
  pub far : is_near r quotients link greatest p ≡ false → new ≡ old

-- the loads after the first n pairs, from these on
abbrev pub AreLoadsNear : Round → NumberTable → NumberTable → ℕ → ℕ → List ℕ → ℕ → List ℕ → Type 0
AreLoadsNear r shares quotients link greatest first zero loads = loads ≡ first
AreLoadsNear r shares quotients link greatest first (suc n) loads =
    (before : List ℕ) × AreLoadsNear r shares quotients link greatest first n before × IsLoadAdded r shares quotients link greatest n before loads
