use Rattle.std.proofs.Common.{◌≡◌, ◌++◌, take}
use Rattle.std.specs.List.{flat_map}
use Rattle.step_detail.specs.Paths.{path_lines_of}
use Rattle.step_detail.proofs.weighted_path.print_paths.Given as goal

abbrev pub invariant-loop-routes : goal.invariant-loop-routes
invariant-loop-routes l = l.text.items ≡ l.fn.text.items ++ flat_map (path_lines_of l.net l.word) (take l.routes-index l.routes-items)
