use Rattle.std.proofs.Common.{length}
use Rattle.flow_sim.specs.Serving.{HasShape}
use Rattle.flow_sim.proofs.ServeLaws.{IsHalfway}
use Rattle.flow_sim.proofs.serve.serve_round.Given as goal

abbrev pub invariant-loop-link : goal.invariant-loop-link
invariant-loop-link l = record {
  shape : HasShape (length l.initial.state.units.items) (length l.failed) l.state;
  halfway : IsHalfway l.failed l.round l.link l.initial.state l.state;
}
