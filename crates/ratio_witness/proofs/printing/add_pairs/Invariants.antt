use Rattle.std.proofs.Common.{◌≡◌, ◌++◌, take}
use Rattle.std.specs.List.{flat_map}
use Rattle.ratio_witness.specs.Text.{pair_lines}
use Rattle.ratio_witness.proofs.printing.add_pairs.Given as goal

abbrev pub invariant-loop-paths : goal.invariant-loop-paths
invariant-loop-paths l = l.lines.items ≡ l.fn.lines.items ++ flat_map pair_lines (take l.paths-index l.rival)
