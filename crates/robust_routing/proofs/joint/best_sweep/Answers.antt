use Rattle.robust_routing.proofs.Joining.{joint_of_more}
use Rattle.robust_routing.proofs.joint.best_sweep.Goals as goal

pub take_sweeps-requires-clause-joint : goal.take_sweeps-requires-clause-joint
take_sweeps-requires-clause-joint c =
    joint_of_more c.args.net.now c.args.pairs.now 1 c.args.limit c.in_ok-joint.joint c.requires.limit.0 c.in_ok-joint.ensures

pub returns-clause-few : goal.returns-clause-few
returns-clause-few c = c.in_ok-take_sweeps.ensures.few
