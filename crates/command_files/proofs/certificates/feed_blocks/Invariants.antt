use Rattle.block_reader.specs.Blocks.{blocks_left}
use Rattle.te_ports.specs.Shown.{shown_by}
use Rattle.command_files.proofs.Feeding.{StandsFed}
use Rattle.command_files.proofs.certificates.feed_blocks.Given as goal

abbrev pub invariant-rest : goal.invariant-rest
invariant-rest g l =
    StandsFed g.F.BlockFeed.stands_for g.F.BlockFeed.given_head g.F.BlockFeed.least_link l.file (shown_by g.D.Depot.content g.D.Depot.gave g.D.Depot.faults l.fn.depot)
    (shown_by g.D.Depot.content g.D.Depot.gave g.D.Depot.faults l.depot) l.reader l.feed

abbrev pub decreases-rest : goal.decreases-rest
decreases-rest g l = blocks_left l.reader
