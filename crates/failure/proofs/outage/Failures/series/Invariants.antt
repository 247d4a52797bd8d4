use Rattle.std.proofs.Common.{◌≡◌, length, map}
use Rattle.std.specs.Prelude.{nat_lt}
use Rattle.std.specs.List.{range_with_len}
use Rattle.te_model.specs.Network.{link_count}
use Rattle.failure.specs.Series.{AreEnds, AreEndsByStep, marks_of}
use Rattle.failure.proofs.outage.Failures.series.Given as goal

abbrev pub invariant-loop-step : goal.invariant-loop-step
invariant-loop-step l = record {
  rows : length l.table.items ≡ l.steps;
  table : AreEndsByStep (link_count l.net) l.self.list l.table.items;
  latest : AreEnds (link_count l.net) (λ from. nat_lt from l.step) l.self.list l.latest.items;
  series : l.series.items ≡ map (marks_of l.net l.self) (range_with_len 0 l.step);
}
