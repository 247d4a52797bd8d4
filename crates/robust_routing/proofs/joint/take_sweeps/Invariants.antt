use Rattle.robust_routing.specs.Joint.{IsJoint}
use Rattle.robust_routing.proofs.joint.take_sweeps.Given as goal

abbrev pub invariant-loop-number : goal.invariant-loop-number
invariant-loop-number l = IsJoint l.net l.pairs l.limit l.joint
