use Rattle.std.proofs.Common.{◌≡◌, drop}
use Rattle.cert_text.specs.Place.{place}
use Rattle.cert_text.specs.Reading.{read_word}
use Rattle.cert_text.proofs.reader.Reader.word.Given as goal

abbrev pub invariant-loop-b : goal.invariant-loop-b
invariant-loop-b g l =
    g.C.Cursor.is_told l.self.source → g.C.Cursor.is_told l.fn.self.source ×
    (read_word (drop l.b-index l.wanted) (place l.self.line (g.C.Cursor.rest l.self.source))
    ≡ read_word l.wanted (place l.fn.self.line (g.C.Cursor.rest l.fn.self.source)))
