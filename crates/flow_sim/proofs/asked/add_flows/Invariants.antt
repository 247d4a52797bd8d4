use Rattle.std.proofs.Common.{◌≡◌, ℕ, ◌+◌, slice_index}
use Rattle.flow_sim.specs.Asked.{asked_from}
use Rattle.flow_sim.proofs.asked.add_flows.Given as goal

abbrev pub invariant-loop-place : goal.invariant-loop-place
invariant-loop-place l = (e : ℕ) → slice_index l.asked e ≡ slice_index l.fn.asked e + asked_from l.paths l.units l.first l.place e
