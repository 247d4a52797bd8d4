use Rattle.routing.specs.Merge.{IsMerge}
use Rattle.routing.proofs.merging.merge.Given as goal

abbrev pub invariant-loop-part : goal.invariant-loop-part
invariant-loop-part l = IsMerge l.yielded l.merged.items
