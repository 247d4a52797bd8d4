-- What stands next in bytes that may be no table.
use Rattle.std.proofs.Common.{◌≡◌, ℕ, ◌+◌, true, false, List, ◌∷◌, ◌++◌, drop, Some, Result, Ok, Err, refl, sym, ap, ◌∙◌}
use Rattle.std.specs.Prelude.{codes}
use Rattle.cert_text.specs.declared.fault.Stop.{Stop}
use Rattle.cert_text.specs.declared.fault.Stop.TheVariants as stops
use Rattle.cert_text.specs.Place.{Place, place, Stops, ◌>>=◌}
use Rattle.cert_text.specs.Reading.{read_word, read_line_end}
use Rattle.number_tables.specs.declared.fault.TableFault.TheVariants as faults
use Rattle.number_tables.specs.declared.line.NumLine.{NumLine}
use Rattle.number_tables.specs.declared.lines.TableLines.{TableLines}
use Rattle.number_tables.specs.Outcome.{fault_of}
use Rattle.number_tables.specs.Passing.{bytes_left, next_number, PassesFirst, TakesNext}
use Rattle.number_tables.specs.Reading.{begins_with_end, read_line}
use Rattle.number_tables.proofs.Body.{after_end, end_stands}
use Rattle.number_tables.proofs.Faults.{not_ok}
use Rattle.number_tables.proofs.Texts.{line_again, line_takes, line_fault, next_line}
use Rattle.number_tables.proofs.Whole.{first_line_on, first_line_again, took_first}

-- ---- the first line

-- the reader stops in the first line, or at its end
pub stops_in_first : (first : List ℕ) (p : Place) (e : Stop) → Stops e (read_word first p) → Stops e (read_word first p >>= read_line_end)
stops_in_first first p stops.Memory s = tt
stops_in_first first p (stops.Shape k) s = ap (λ (r : Result Place ℕ). r >>= read_line_end) s

pub stops_behind_first : (first : List ℕ) (p mid : Place) (e : Stop) → read_word first p ≡ Ok mid → Stops e (read_line_end mid) → Stops e (read_word first p >>= read_line_end)
stops_behind_first first p mid stops.Memory w s = tt
stops_behind_first first p mid (stops.Shape k) w s = ap (λ (r : Result Place ℕ). r >>= read_line_end) w ∙ s

pub other_first : (X : Type 0) (first bytes : List ℕ) (p : Place) (e : Stop) → p ≡ place 1 bytes → ¬ (◌≡◌ {A = Result X Stop} (Err e) (Err stops.Memory))
    → Stops e (read_word first p >>= read_line_end) → PassesFirst (Err (fault_of e)) first bytes
other_first X first bytes p stops.Memory at room s = absurd (room refl)
other_first X first bytes p (stops.Shape k) at room s = (
  ap (λ (n : ℕ). faults.Shape n) (first_line_on first p k s ∙ ap (λ (y : Place). y.line) at),
  λ left same. not_ok (place (p.line + 1) left) k (read_word first p >>= read_line_end) s
      (ap (λ (y : List ℕ). read_word first (place p.line y) >>= read_line_end) (ap (λ (y : Place). y.rest) at ∙ same) ∙ first_line_again first p.line left),
)

pub first_passed : (first bytes : List ℕ) (p mid q : Place) → p ≡ place 1 bytes → read_word first p ≡ Ok mid → read_line_end mid ≡ Ok q
    → (bytes ≡ first ++ 10 ∷ q.rest) × (q.line ≡ 2)
first_passed first bytes p mid q at w l =
    let took = took_first first p mid q w l in
    (sym (ap (λ (y : Place). y.rest) at) ∙ took.parts, took.line ∙ ap (λ (y : Place). y.line + 1) at)

-- ---- the next line

pub end_is_next : (bytes : List ℕ) → begins_with_end bytes ≡ true → (left : List ℕ) × (bytes ≡ codes "end" ++ 10 ∷ left)
end_is_next bytes is = (drop 4 bytes, after_end bytes is)

pub line_is_next : (before after : TableLines) (l : NumLine)
    → read_line (place (next_number before) (bytes_left before)) ≡ Ok (l, place (next_number after) (bytes_left after)) → TakesNext (Ok (Some l)) before after
line_is_next before after l e =
    let p = place (next_number before) (bytes_left before) in
    let q = place (next_number after) (bytes_left after) in
    let took = line_takes p l q e in
    (took.good, took.parts, next_line p l q e)

pub none_is_next : (before after : TableLines) (e : Stop) → begins_with_end (bytes_left before) ≡ false
    → Stops e (read_line (place (next_number before) (bytes_left before))) → TakesNext (Err (fault_of e)) before after
none_is_next before after stops.Memory more s = tt
none_is_next before after (stops.Shape k) more s =
    let p = place (next_number before) (bytes_left before) in (
      line_fault p k s,
      (λ left same. let stands = end_stands (bytes_left before) left same in absurd cc),
      λ l left good same. not_ok (l, place (next_number before + 1) left) k (read_line p) s
          (ap (λ (y : List ℕ). read_line (place (next_number before) y)) same ∙ line_again l (next_number before) left good),
    )
