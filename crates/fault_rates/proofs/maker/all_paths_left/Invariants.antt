use Rattle.fault_rates.specs.Making.{AreValues, paths_left_of}
use Rattle.fault_rates.proofs.maker.all_paths_left.Given as goal

abbrev pub invariant-loop-p : goal.invariant-loop-p
invariant-loop-p l =
    AreValues l.p (paths_left_of l.net l.routes l.failures) l.left.items
