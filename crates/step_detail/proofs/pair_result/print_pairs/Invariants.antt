use Rattle.std.proofs.Common.{◌≡◌, ◌++◌}
use Rattle.std.specs.List.{flat_map, range_with_len}
use Rattle.step_detail.specs.Pairs.{line_of_pair}
use Rattle.step_detail.proofs.pair_result.print_pairs.Given as goal

abbrev pub invariant-loop-p : goal.invariant-loop-p
invariant-loop-p l = l.text.items ≡ l.fn.text.items ++ flat_map (line_of_pair l.net l.least l.word l.step) (range_with_len 0 l.p)
