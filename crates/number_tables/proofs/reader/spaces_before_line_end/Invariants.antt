use Rattle.std.proofs.Common.{◌≡◌, ◌+◌, ◌≤◌, drop}
use Rattle.number_tables.specs.Reading.{spaces_in_line}
use Rattle.number_tables.proofs.reader.spaces_before_line_end.Given as goal

abbrev pub invariant-loop-b : goal.invariant-loop-b
invariant-loop-b l = (l.count ≤ l.b-index) × (l.count + spaces_in_line (drop l.b-index l.bytes) ≡ spaces_in_line l.bytes)
