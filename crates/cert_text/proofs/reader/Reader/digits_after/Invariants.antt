use Rattle.std.proofs.Common.{◌≡◌}
use Rattle.cert_text.specs.Reading.{read_digits}
use Rattle.cert_text.proofs.reader.Reader.digits_after.Given as goal

abbrev pub invariant-digits : goal.invariant-digits
invariant-digits g l =
    g.C.Cursor.is_told l.self.source → g.C.Cursor.is_told l.fn.self.source ×
    (read_digits l.self.line l.value (g.C.Cursor.rest l.self.source)
    ≡ read_digits l.fn.self.line l.first (g.C.Cursor.rest l.fn.self.source))

abbrev pub decreases-digits : goal.decreases-digits
decreases-digits g l = g.C.Cursor.bound l.self.source
