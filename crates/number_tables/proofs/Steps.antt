-- What the steps of a reader take, as the lines of a table are read.
use Rattle.std.proofs.Common.{◌≡◌, ℕ, Bool, cond, List, ◌++◌, Result, subst, get_or}
use Rattle.std.specs.Char.{is_ascii_digit}
use Rattle.cert_text.specs.declared.cursor.Cursor.{Ghosts}
use Rattle.cert_text.specs.declared.reader.Reader.{Reader}
use Rattle.cert_text.specs.LineEnds.{read_line_end_after}
use Rattle.cert_text.specs.Place.{Place, place, ◌>>=◌}
use Rattle.cert_text.specs.Reading.{read_next_number, read_many}
use Rattle.cert_text.specs.Takes.{Takes}
use Rattle.number_tables.specs.declared.line.NumLine.{NumLine}
use Rattle.number_tables.specs.Reading.{spaces_in_line, read_last, read_numbers_line, read_word_line, read_line}

-- as many numbers as there are spaces
pub as_many : {C : Type 0} {cursor : Ghosts C} {old new : Reader C cursor} {gives : Place → Result (List ℕ × Place) ℕ → Type 0} (front : List ℕ) (count : ℕ) → count ≡ spaces_in_line (cursor.rest old.source)
    → Takes old new gives (λ p. read_many count read_next_number p >>= λ x. read_line_end_after (front ++ x.0) x.1) → Takes old new gives (read_last front)
unfolding read_last
as_many {cursor = cursor} {old = old} {new = new} {gives = gives} front count same one = record {
  told = one.told;
  reads = λ t. subst (λ (n : ℕ). gives (place new.line (cursor.rest new.source)) (read_many n read_next_number (place old.line (cursor.rest old.source)) >>= λ x. read_line_end_after (front ++ x.0) x.1)) same (one.reads t);
}

abbrev chosen : Bool → Place → Result (NumLine × Place) ℕ
chosen digit p = cond digit (read_numbers_line p) (read_word_line p)

-- the line that its first byte names
pub by_first : {C : Type 0} {cursor : Ghosts C} {old new : Reader C cursor} {gives : Place → Result (NumLine × Place) ℕ → Type 0} (digit : Bool) → digit ≡ is_ascii_digit (get_or (cursor.rest old.source) 0 0)
    → Takes old new gives (chosen digit) → Takes old new gives read_line
unfolding read_line
by_first {cursor = cursor} {old = old} {new = new} {gives = gives} digit same one = record {
  told = one.told;
  reads = λ t. subst (λ (d : Bool). gives (place new.line (cursor.rest new.source)) (chosen d (place old.line (cursor.rest old.source)))) same (one.reads t);
}
