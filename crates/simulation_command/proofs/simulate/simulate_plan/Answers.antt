use Rattle.std.proofs.lemmas.Result.{err_from_is_err_and}
use Rattle.te_model.specs.declared.network.Network.{Network}
use Rattle.simulation_command.specs.NetworkFile.{topologies_of}
use Rattle.simulation_command.specs.Simulate.{networked_reading}
use Rattle.command_frame.proofs.Following.{goes_on, stops}
use Rattle.simulation_command.proofs.simulate.simulate_plan.Goals as goal

pub returns-in_err-network : goal.returns-in_err-network
returns-in_err-network g c = λ blocks.
    let p = err_from_is_err_and c.from_residual.result c.from_residual.ensures.1 in
    rw (p.1, p.2)
    (stops Network (topologies_of c.args.head.network) c.args.plan.topology (networked_reading (record { head = c.args.head; blocks = blocks }) c.args.plan) _ _
    c.in_err-network.field-0.0 (rw c.as_str.ensures at c.in_err-network.ensures.reads))

pub returns : goal.returns
returns g c = λ blocks.
    goes_on Network (topologies_of c.args.head.network) c.args.plan.topology (networked_reading (record { head = c.args.head; blocks = blocks }) c.args.plan)
    c.in_ok-network.network _ _ _ c.simulate_network.result (rw c.as_str.ensures at c.in_ok-network.ensures.reads) (c.simulate_network.ensures blocks)
