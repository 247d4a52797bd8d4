use Rattle.std.specs.Prelude.{Contains}
use Rattle.series_simulation.proofs.KeptPreparations.{one_goes, some_stay}
use Rattle.series_simulation.proofs.kept_preparations.make_room.Goals as goal

pub returns-then-len-ge-KEPT_SETS-clause-kept : goal.returns-then-len-ge-KEPT_SETS-clause-kept
returns-then-len-ge-KEPT_SETS-clause-kept g c =
    one_goes (Contains c.args.kept.now.items) _ _ c.needed_last-last.result c.remove.ensures.by_index.2 (some_stay _ _ _ _ c.retain.ensures.filtered)

pub returns-else-len-ge-KEPT_SETS-clause-kept : goal.returns-else-len-ge-KEPT_SETS-clause-kept
returns-else-len-ge-KEPT_SETS-clause-kept g c = some_stay _ _ _ _ c.retain.ensures.filtered
