use Rattle.std.proofs.Common.{◌≡◌, ◌++◌, take}
use Rattle.std.specs.List.{flat_map}
use Rattle.te_model.specs.Network.{name_at}
use Rattle.step_detail.specs.Paths.{weighted_path_line}
use Rattle.step_detail.proofs.weighted_path.print_pair_paths.Given as goal

abbrev pub invariant-loop-path : goal.invariant-loop-path
invariant-loop-path l =
    l.text.items
    ≡ l.fn.text.items
    ++ flat_map (weighted_path_line l.word (name_at l.net l.routes.pair.src) (name_at l.net l.routes.pair.dst)) (take l.path-index l.path-items)
