use Rattle.std.proofs.Common.{ℕ, ◌*◌, ◌<◌, ◌≤◌, slice_index}
use Rattle.te_model.specs.declared.units.TheConstants.{RATIO_UNIT, SHARE_UNIT}
use Rattle.te_model.specs.Network.{capacity_of}
use Rattle.witness_search.proofs.limits.greatest_over_capacity.Given as goal

abbrev pub invariant-loop-h : goal.invariant-loop-h
invariant-loop-h l = (e : ℕ) → e < l.h → RATIO_UNIT * (l.room * slice_index l.shares e) ≤ l.greatest * (SHARE_UNIT * capacity_of l.net e)
