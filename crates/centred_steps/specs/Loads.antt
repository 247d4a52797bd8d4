-- The loads of links in a sweep, and the usage in their middle.
use Rattle.std.specs.Prelude.{◌≡◌, ℕ, ◌^◌, ◌≤◌, List, length, slice_index, ◌==◌}
use Rattle.std.specs.List.{count_by}
use Rattle.te_model.specs.declared.network.Network.{Network}
use Rattle.te_model.specs.Network.{link_count}
use Rattle.centred_steps.specs.declared.usage_spread.UsageSpread.{UsageSpread}

-- no load is above 2^66
abbrev pub AreSmall : List ℕ → Type 0
AreSmall loads = (h : ℕ) → slice_index loads h ≤ 2 ^ 66

-- such a load for each link
pub record AreLoadsWithin (net : Network) (loads : List ℕ) : Type 0 where
  pub count : length loads ≡ link_count net
  pub small : AreSmall loads

-- how often link e stands among the links
abbrev pub times_on : List ℕ → ℕ → ℕ
times_on links e = count_by (λ h. h == e) links

-- numbers by which weights move
pub record IsUsageSpread (c : UsageSpread) : Type 0 where
  pub mean : c.mean ≤ 2 ^ 86
  pub some : 1 ≤ c.deviation
  pub deviation : c.deviation ≤ 2 ^ 86
