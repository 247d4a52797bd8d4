use Rattle.std.specs.Io.{ReadsAtMost}
use Rattle.te_ports.specs.Trying.{IsCalled, NotesRead}
use Rattle.te_ports.proofs.real_depot.read_again.Given as goal

abbrev pub invariant-tries : goal.invariant-tries
invariant-tries g l =
    ReadsAtMost l.answer l.buf ×
    IsCalled (NotesRead g.D.Disk.calls l.name l.at) l.counter (l.fn.disk, l.fn.buf) l.answer (l.disk, l.buf)
