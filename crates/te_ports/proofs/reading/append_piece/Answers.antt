use Rattle.std.proofs.Common.{arith}
use Rattle.te_ports.proofs.Giving.{piece_given}
use Rattle.te_ports.proofs.reading.append_piece.Goals as goal

pub returns-clause-piece : goal.returns-clause-piece
returns-clause-piece g c =
    piece_given (g.D.Depot.gave c.args.depot.now) (g.D.Depot.gave c.fetch.new.self) c.args.name.now c.args.bytes.now.items c.fetch.new.buf c.extend_from_slice.new.self.items _ c.in_ok-count.count
    (omega arith) (c.in_ok-count.ensures.gave (omega arith)) c.in_ok-count.ensures.room c.in_ok-extend_from_slice.ensures.items
