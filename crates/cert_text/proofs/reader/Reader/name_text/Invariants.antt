use Rattle.std.proofs.Common.{◌≡◌, ◌≤◌, length, [], true}
use Rattle.std.specs.Prelude.{string_bytes}
use Rattle.std.specs.List.{list_all}
use Rattle.te_model.specs.Network.{is_name_byte}
use Rattle.cert_text.specs.Reading.{name_from}
use Rattle.cert_text.proofs.reader.Reader.name_text.Given as goal

abbrev pub invariant-loop-b : goal.invariant-loop-b
invariant-loop-b g l =
    (length (string_bytes l.name) ≤ 32) × (list_all is_name_byte (string_bytes l.name) ≡ true) ×
    (g.C.Cursor.is_told l.self.source → g.C.Cursor.is_told l.fn.self.source ×
    (name_from l.self.line (string_bytes l.name) (g.C.Cursor.rest l.self.source)
    ≡ name_from l.fn.self.line [] (g.C.Cursor.rest l.fn.self.source)))

abbrev pub decreases-loop-b : goal.decreases-loop-b
decreases-loop-b g l = g.C.Cursor.bound l.self.source
