use Rattle.std.proofs.Common.{◌^◌, arith}
use Rattle.te_model.proofs.WellFormed.{capacities_small, few_links}
use Rattle.shortest_path.proofs.Values.{listed_small}
use Rattle.centred_steps.proofs.usage_spread.mean_usage.Goals as goal

pub capacity_by-requires-clause-links : goal.capacity_by-requires-clause-links
capacity_by-requires-clause-links c = few_links c.args.net.now c.requires.network

pub capacity_by-requires-clause-capacities : goal.capacity_by-requires-clause-capacities
capacity_by-requires-clause-capacities c = capacities_small c.args.net.now c.requires.network

pub capacity_by-requires-clause-weights : goal.capacity_by-requires-clause-weights
capacity_by-requires-clause-weights c =
    listed_small (2 ^ 28) c.args.weights.now (λ h below. omega (arith, c.requires.weights.small h below))

pub load_by-requires-clause-few : goal.load_by-requires-clause-few
load_by-requires-clause-few c = omega (arith, few_links c.args.net.now c.requires.network, c.requires.loads.count)
