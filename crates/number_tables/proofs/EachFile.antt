-- Each file is a small file of its kind, or leaves these at a line.
use Rattle.std.proofs.Common.{◌≡◌, ◌≤◌, ℕ, zero, suc, ◌+◌, Bool, true, false, List, [], ◌∷◌, ◌++◌, length, Option, Some, None, Result, Ok, Err, refl, sym, ap, subst, ◌∙◌, arith, append_assoc, ◌⊎◌, inl, inr}
use Rattle.te_model.specs.Faults.{line_ends, LeavesAt}
use Rattle.cert_text.specs.declared.fault.Stop.TheVariants as stops
use Rattle.cert_text.specs.Grammar.{read_closing}
use Rattle.cert_text.specs.Place.{Place, place}
use Rattle.cert_text.specs.Reading.{read_word, read_line_end}
use Rattle.number_tables.specs.declared.line.NumLine.{NumLine}
use Rattle.number_tables.specs.Due.{first_undue, AreFile, LeavesSmallFiles, SmallFileOrFault}
use Rattle.number_tables.specs.Leaving.{LeavesAfter, body_lines}
use Rattle.number_tables.specs.Reading.{begins_with_end, read_line}
use Rattle.number_tables.specs.Table.{AreLines, file_of, table_lines, table_text}
use Rattle.number_tables.proofs.Body.{HasRead, nothing_read, one_more_line, fewer_left, stops_at_line, stops_after_end, ends_well}
use Rattle.number_tables.proofs.FirstUndue.{first_undue_leaves}
use Rattle.number_tables.proofs.Whole.{first_stops, first_end_stops, took_first, lines_after_first, leaves_tables}

-- from a place on, lines whose file it is
abbrev HasLines : (List NumLine → List (List ℕ)) → Place → Type 0
HasLines lines_of p = (ls : List NumLine) × AreLines ls × (p.rest ≡ file_of (lines_of ls))

-- or the line at which it leaves all of these files
abbrev HasFault : (List NumLine → List (List ℕ)) → Place → Type 0
HasFault lines_of p = (k : ℕ) × (front : List (List ℕ)) × (k ≡ p.line + length front) × LeavesAfter AreLines lines_of p.rest front

-- one of the two, where it is known of what is left behind the next line
one_step : (start now : Place) (made : List NumLine) → HasRead start now made →
    ((l : NumLine) (q : Place) → read_line now ≡ Ok (l, q) → HasLines body_lines start ⊎ HasFault body_lines start) →
    HasLines body_lines start ⊎ HasFault body_lines start
one_step start now made read later = go (begins_with_end now.rest) refl
  where
    at_end : begins_with_end now.rest ≡ true → (r : Result Place ℕ) → read_closing now ≡ r → HasLines body_lines start ⊎ HasFault body_lines start
    at_end last (Ok q) e = let whole = ends_well start now q made read last e in inl (made, whole.0, whole.1)
    at_end last (Err k) e = let at = stops_after_end start now made k read last e in inr (k, at.0, at.1, at.2)

    at_line : begins_with_end now.rest ≡ false → (r : Result (NumLine × Place) ℕ) → read_line now ≡ r → HasLines body_lines start ⊎ HasFault body_lines start
    at_line no_last (Ok x) e = later x.0 x.1 e
    at_line no_last (Err k) e = let at = stops_at_line start now made k read no_last e in inr (k, at.0, at.1, at.2)

    go : (last : Bool) → begins_with_end now.rest ≡ last → HasLines body_lines start ⊎ HasFault body_lines start
    go true last = at_end last (read_closing now) refl
    go false no_last = at_line no_last (read_line now) refl

-- where no more than n bytes are left
lines_or_fault : (n : ℕ) (start now : Place) (made : List NumLine) → HasRead start now made → length now.rest ≤ n →
    HasLines body_lines start ⊎ HasFault body_lines start
lines_or_fault zero start now made read few =
    one_step start now made read (λ l q e. let fewer = fewer_left now l q e in absurd (omega (arith, fewer, few)))
lines_or_fault (suc n) start now made read few =
    one_step start now made read
    (λ l q e. let fewer = fewer_left now l q e in lines_or_fault n start q (made ++ l ∷ []) (one_more_line start now made l q read e) (omega (arith, fewer, few)))

-- the bytes are the text of a table
abbrev IsTable : List ℕ → List ℕ → Type 0
IsTable first bytes = (ls : List NumLine) × AreLines ls × (bytes ≡ table_text first ls)

table_or_fault : (first bytes : List ℕ) → line_ends first ≡ 0 → IsTable first bytes ⊎ ((k : ℕ) × LeavesAt AreLines (table_text first) bytes k)
table_or_fault first bytes one = at_word (read_word first (place 1 bytes)) refl
  where
    fault : HasFault (table_lines first) (place 1 bytes) → IsTable first bytes ⊎ ((k : ℕ) × LeavesAt AreLines (table_text first) bytes k)
    fault found = inr (found.0, leaves_tables first bytes found.0 one (found.1, found.2, found.3))

    behind : (mid q : Place) → read_word first (place 1 bytes) ≡ Ok mid → read_line_end mid ≡ Ok q → HasLines body_lines q ⊎ HasFault body_lines q →
        IsTable first bytes ⊎ ((k : ℕ) × LeavesAt AreLines (table_text first) bytes k)
    behind mid q w l (inl found) =
        let took = took_first first (place 1 bytes) mid q w l in
        inl (found.0, found.1, took.parts ∙ ap (λ (y : List ℕ). first ++ 10 ∷ y) found.2 ∙ sym (append_assoc first (10 ∷ []) (file_of (body_lines found.0))))
    behind mid q w l (inr found) =
        let at = lines_after_first (Unit {0}) first (place 1 bytes) mid q (Err (stops.Shape found.0)) w l (found.1, found.2, found.3) in
        fault (found.0, at.0, at.1, at.2)

    at_end : (mid : Place) → read_word first (place 1 bytes) ≡ Ok mid → (r : Result Place ℕ) → read_line_end mid ≡ r →
        IsTable first bytes ⊎ ((k : ℕ) × LeavesAt AreLines (table_text first) bytes k)
    at_end mid w (Ok q) e = behind mid q w e (lines_or_fault (length q.rest) q q [] (nothing_read q) (omega arith))
    at_end mid w (Err k) e = let at = first_end_stops (Unit {0}) first (place 1 bytes) mid (stops.Shape k) w e in fault (k, at.0, at.1, at.2)

    at_word : (r : Result Place ℕ) → read_word first (place 1 bytes) ≡ r → IsTable first bytes ⊎ ((k : ℕ) × LeavesAt AreLines (table_text first) bytes k)
    at_word (Ok mid) e = at_end mid e (read_line_end mid) refl
    at_word (Err k) e = let at = first_stops (Unit {0}) first (place 1 bytes) (stops.Shape k) e in fault (k, at.0, at.1, at.2)

pub small_file_or_fault : SmallFileOrFault
small_file_or_fault first one due can bytes = go (table_or_fault first bytes one)
  where
    of_table : (ls : List NumLine) → AreLines ls → bytes ≡ table_text first ls → (o : Option ℕ) → first_undue due ls ≡ o →
        ((ms : List NumLine) × AreFile due ms × (bytes ≡ table_text first ms)) ⊎ ((k : ℕ) × LeavesSmallFiles first due bytes k)
    of_table ls al same None none = inl (ls, (al, (first_undue_leaves first one due can ls al).0.0 none), same)
    of_table ls al same (Some j) undue =
        let leaves = (first_undue_leaves first one due can ls al).1 j undue in
        inr (j + 2, inr ((ls, al, same), subst (λ (b : List ℕ). LeavesAt (AreFile due) (table_text first) b (j + 2)) (sym same) leaves))

    go : IsTable first bytes ⊎ ((k : ℕ) × LeavesAt AreLines (table_text first) bytes k) →
        ((ms : List NumLine) × AreFile due ms × (bytes ≡ table_text first ms)) ⊎ ((k : ℕ) × LeavesSmallFiles first due bytes k)
    go (inl table) = of_table table.0 table.1 table.2 (first_undue due table.0) refl
    go (inr fault) = inr (fault.0, inl fault.1)
