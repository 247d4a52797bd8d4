use Rattle.std.proofs.Common.{List}
use Rattle.te_model.specs.declared.certificate.Block.{Block}
use Rattle.block_reader.specs.Blocks.{blocks_left}
use Rattle.te_ports.specs.Shown.{shown_by}
use Rattle.command_files.proofs.Streaming.{HasReadSoFar}
use Rattle.command_files.proofs.certificates.read_head.Given as goal

abbrev pub invariant-rest : goal.invariant-rest
invariant-rest g l =
    (blocks : List Block)
    × HasReadSoFar l.file (shown_by g.D.Depot.content g.D.Depot.gave g.D.Depot.faults l.fn.depot)
    (shown_by g.D.Depot.content g.D.Depot.gave g.D.Depot.faults l.depot) l.reader l.head blocks

abbrev pub decreases-rest : goal.decreases-rest
decreases-rest g l = blocks_left l.reader
