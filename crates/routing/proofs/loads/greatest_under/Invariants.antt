use Rattle.std.proofs.Common.{◌≡◌, ◌*◌, slice_index}
use Rattle.te_model.specs.declared.units.TheConstants.{RATIO_UNIT, SHARE_UNIT}
use Rattle.te_model.specs.Network.{capacity_of}
use Rattle.te_model.specs.Division.{quotient_up}
use Rattle.te_model.specs.Counting.{greatest_below}
use Rattle.routing.proofs.loads.greatest_under.Given as goal

abbrev pub invariant-loop-h : goal.invariant-loop-h
invariant-loop-h l = l.most ≡ greatest_below l.h (λ e. quotient_up (slice_index l.loads e * RATIO_UNIT) (SHARE_UNIT * capacity_of l.net e))
