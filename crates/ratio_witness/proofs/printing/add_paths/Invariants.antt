use Rattle.std.proofs.Common.{◌≡◌, ◌++◌, map, take}
use Rattle.ratio_witness.specs.Text.{share_line}
use Rattle.ratio_witness.proofs.printing.add_paths.Given as goal

abbrev pub invariant-loop-path : goal.invariant-loop-path
invariant-loop-path l = l.lines.items ≡ l.fn.lines.items ++ map share_line (take l.path-index l.paths)
