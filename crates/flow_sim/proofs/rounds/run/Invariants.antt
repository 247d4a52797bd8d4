use Rattle.flow_sim.specs.State.{IsState}
use Rattle.flow_sim.specs.Traffic.{step_setting}
use Rattle.flow_sim.proofs.rounds.run.Given as goal

abbrev pub invariant-loop-number : goal.invariant-loop-number
invariant-loop-number l = IsState (step_setting l.net l.failed l.rates l.matrix.demand) l.number l.state
