-- What a reader takes.
use Rattle.cert_text.specs.Place.{Place, place}
use Rattle.cert_text.specs.declared.cursor.Cursor.{Ghosts}
use Rattle.cert_text.specs.declared.reader.Reader.{Reader}

-- Where the content is told after a step, it was told before, and gives holds of the place after it and what reading gave.
pub record Takes {C : Type 0} {cursor : Ghosts C} {R : Type 0} (old new : Reader C cursor) (gives : Place → R → Type 0) (read : Place → R) : Type 0 where
  pub told : cursor.is_told new.source → cursor.is_told old.source
  pub reads : cursor.is_told new.source → gives (place new.line (cursor.rest new.source)) (read (place old.line (cursor.rest old.source)))
