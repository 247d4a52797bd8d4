use Rattle.std.proofs.Common.{◌*◌, slice_index}
use Rattle.te_model.specs.Counting.{sum_below}
use Rattle.te_model.specs.Network.{link_count}
use Rattle.te_model.specs.Path.{routes_at}
use Rattle.fault_rates.specs.Making.{AreValues}
use Rattle.fault_rates.specs.Tables.{paths_on}
use Rattle.fault_rates.proofs.maker.sums_of.Given as goal

abbrev pub invariant-loop-p : goal.invariant-loop-p
invariant-loop-p l =
    AreValues (link_count l.net) (λ e. sum_below l.p (λ q. slice_index l.even q * paths_on (routes_at l.routes q).paths e)) l.sums.items
