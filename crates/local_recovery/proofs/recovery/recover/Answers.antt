use Rattle.local_recovery.proofs.Left.{recovered_left, left_rates, left_paths, left_few, left_pairs}
use Rattle.local_recovery.proofs.recovery.recover.Goals as goal

pub invariant_of-result : goal.invariant_of-result
invariant_of-result c = record {
  rates = left_rates c.args.net.now c.args.routing.now.routes c.in_ok-routes.routes
      (recovered_left c.args.mode c.args.net.now c.args.failed.now c.args.routing.now.routes c.in_ok-routes.routes c.requires.routing c.requires.few c.in_ok-routes.ensures);
}

pub returns-clause-pairs : goal.returns-clause-pairs
returns-clause-pairs c =
    left_pairs c.args.net.now c.args.routing.now.routes c.in_ok-routes.routes
    (recovered_left c.args.mode c.args.net.now c.args.failed.now c.args.routing.now.routes c.in_ok-routes.routes c.requires.routing c.requires.few c.in_ok-routes.ensures)

pub returns-clause-paths : goal.returns-clause-paths
returns-clause-paths c =
    left_paths c.args.net.now c.args.routing.now.routes c.in_ok-routes.routes
    (recovered_left c.args.mode c.args.net.now c.args.failed.now c.args.routing.now.routes c.in_ok-routes.routes c.requires.routing c.requires.few c.in_ok-routes.ensures)

pub returns-clause-few : goal.returns-clause-few
returns-clause-few c =
    left_few c.args.net.now c.args.routing.now.routes c.in_ok-routes.routes
    (recovered_left c.args.mode c.args.net.now c.args.failed.now c.args.routing.now.routes c.in_ok-routes.routes c.requires.routing c.requires.few c.in_ok-routes.ensures)
