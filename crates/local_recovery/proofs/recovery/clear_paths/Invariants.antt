use Rattle.std.proofs.Common.{◌≡◌, take}
use Rattle.std.specs.Prelude.{filter}
use Rattle.local_recovery.specs.Recovery.{is_clear}
use Rattle.local_recovery.proofs.recovery.clear_paths.Given as goal

abbrev pub invariant-loop-path : goal.invariant-loop-path
invariant-loop-path l = l.list.items ≡ filter (is_clear l.failed) (take l.path-index l.paths)
