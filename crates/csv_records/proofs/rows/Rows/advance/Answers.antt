use Rattle.std.proofs.Common.{◌≡◌, ◌∷◌, false, sym}
use Rattle.std.proofs.lemmas.Bool.{false≢true}
use Rattle.csv.specs.Records.{fields_of}
use Rattle.csv_records.specs.Rest.{IsReadyReader, rest_of}
use Rattle.csv_records.proofs.ReaderLemmas.{read-more, read-end, is-ready}
use Rattle.csv_records.proofs.rows.Rows.advance.Goals as goal

-- what a read that found a record did
more : (c : goal.In-Ok-true) → c.self.inside.ended ≡ false → IsReadyReader c.read_byte_record.new.self × (rest_of c.self.inside.reader ≡ fields_of c.read_byte_record.new.row ∷ rest_of c.read_byte_record.new.self)
more c going =
    let s = c.self.invariant going in
    let e = c.in-Ok-true.ensures in
    read-more c.self.inside.reader c.read_byte_record.new.self (fields_of c.read_byte_record.new.row) s
    (rw c.in-Ok-true.field-0-test at (e.reads s.trims (is-ready _ s))) (e.ready s.trims) e.flexible e.goes

pub invariant_of-self : goal.invariant_of-self
invariant_of-self c = λ going. (more c going).0

pub returns-in-Ok-true-clause-found : goal.returns-in-Ok-true-clause-found
returns-in-Ok-true-clause-found c = λ _. rw (← c.self.view_is, c.if-self.false) (more c c.if-self.false).1

pub returns-in-Ok-true-clause-ended : goal.returns-in-Ok-true-clause-ended
returns-in-Ok-true-clause-ended c = λ none. absurd (false≢true (sym none))

pub returns-in-Ok-false-clause-ended : goal.returns-in-Ok-false-clause-ended
returns-in-Ok-false-clause-ended c = λ _.
    let s = c.self.invariant c.if-self.false in
    let e = c.in-Ok-false.ensures in
    rw (← c.self.view_is, c.if-self.false) (read-end c.self.inside.reader c.read_byte_record.new.self (fields_of c.read_byte_record.new.row) s
    (rw c.in-Ok-false.field-0-test at (e.reads s.trims (is-ready _ s))))
