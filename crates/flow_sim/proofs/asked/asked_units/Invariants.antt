use Rattle.std.proofs.Common.{◌≡◌, ℕ, length, slice_index}
use Rattle.te_model.specs.Network.{link_count}
use Rattle.flow_sim.proofs.AskedLaws.{asked_before, first_flow}
use Rattle.flow_sim.proofs.asked.asked_units.Given as goal

abbrev pub invariant-loop-p : goal.invariant-loop-p
invariant-loop-p l = record {
  first : l.first ≡ first_flow l.rates.routes l.p;
  count : length l.asked.items ≡ link_count l.net;
  asked : (e : ℕ) → slice_index l.asked.items e ≡ asked_before l.rates.routes l.units.items e l.p;
}
