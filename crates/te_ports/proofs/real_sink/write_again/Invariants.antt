use Rattle.std.specs.Io.{WritesAtMost}
use Rattle.std.specs.Io.KnownBytes.{WriteAppends}
use Rattle.te_ports.specs.Trying.{IsCalled, NotesWrite}
use Rattle.te_ports.proofs.real_sink.write_again.Given as goal

abbrev pub invariant-tries : goal.invariant-tries
invariant-tries g l =
    WritesAtMost l.answer l.bytes ×
    WriteAppends (g.W.Stream.contents l.fn.stream) (g.W.Stream.contents l.stream) l.answer l.bytes ×
    IsCalled (NotesWrite g.W.Stream.calls l.bytes) l.counter l.fn.stream l.answer l.stream
