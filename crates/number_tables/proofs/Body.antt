-- Reading the lines of a table to its end.
use Rattle.std.proofs.Common.{◌≡◌, ◌≢◌, ℕ, suc, ◌+◌, ◌<◌, true, false, List, [], ◌∷◌, ◌++◌, length, map, take, drop, Ok, Err, refl, sym, ap, ◌∙◌, eqb, arith, append_assoc, ◌⊎◌, inl, inr}
use Rattle.std.specs.Prelude.{codes}
use Rattle.std.proofs.lemmas.List.{append-nil, length-map, take-append-drop, length-append}
use Rattle.std.proofs.lemmas.List.Concat.{flat_map-append}
use Rattle.std.proofs.lemmas.Bool.Decides.{nat_tests}
use Rattle.std.proofs.lemmas.Slice.Eq.{bytes_eq-Decides}
use Rattle.cert_text.specs.declared.fault.Stop.{Stop}
use Rattle.cert_text.specs.declared.fault.Stop.TheVariants as stops
use Rattle.cert_text.specs.Grammar.{read_closing}
use Rattle.cert_text.specs.Place.{Place, place, Stops}
use Rattle.cert_text.proofs.Loop.{all_more}
use Rattle.number_tables.specs.declared.line.NumLine.{NumLine}
use Rattle.number_tables.specs.Leaving.{LeavesAfter, body_lines, ReadsLines}
use Rattle.number_tables.specs.Reading.{begins_with_end, read_line}
use Rattle.number_tables.specs.Table.{IsLine, AreLines, line_text, file_of}
use Rattle.number_tables.proofs.Faults.{not_ok}
use Rattle.number_tables.proofs.FilesOfLines.{first_same}
use Rattle.number_tables.proofs.Texts.{line_again, line_takes, next_line, line_fault, not_the_end}

-- ---- the lines of a table, and some of them

-- what stands after lines of a table is the last line, or a line
abbrev IsNext : List ℕ → Type 0
IsNext line = (line ≡ codes "end") ⊎ ((l : NumLine) × IsLine l × (line ≡ line_text l))

next_of : (ls made : List NumLine) (line : List ℕ) (more : List (List ℕ)) → AreLines ls → AreLines made → body_lines ls ≡ map line_text made ++ line ∷ more → IsNext line
next_of [] [] line more al am e = inl (sym (first_same (codes "end") line [] more e).0)
next_of [] (m ∷ ms) line more al am e = absurd (not_the_end m am.0 (sym (first_same (codes "end") (line_text m) [] (map line_text ms ++ line ∷ more) e).0))
next_of (l ∷ ls) [] line more al am e = inr (l, al.0, sym (first_same (line_text l) line (body_lines ls) more e).0)
next_of (l ∷ ls) (m ∷ ms) line more al am e =
    next_of ls ms line more al.1 am.1 (first_same (line_text l) (line_text m) (body_lines ls) (map line_text ms ++ line ∷ more) e).1

-- lines alone are no table
no_end : (ls made : List NumLine) → AreLines made → body_lines ls ≡ map line_text made → ⊥
no_end [] [] am e = cc
no_end [] (m ∷ ms) am e = not_the_end m am.0 (sym (first_same (codes "end") (line_text m) [] (map line_text ms) e).0)
no_end (l ∷ ls) [] am e = cc
no_end (l ∷ ls) (m ∷ ms) am e = no_end ls ms am.1 (first_same (line_text l) (line_text m) (body_lines ls) (map line_text ms) e).1

-- nothing stands after the last line
nothing_after : (ls made : List NumLine) (more : List (List ℕ)) → AreLines ls → AreLines made → body_lines ls ≡ map line_text made ++ codes "end" ∷ more → more ≡ []
nothing_after [] [] more al am e = sym (first_same (codes "end") (codes "end") [] more e).1
nothing_after [] (m ∷ ms) more al am e = absurd (not_the_end m am.0 (sym (first_same (codes "end") (line_text m) [] (map line_text ms ++ codes "end" ∷ more) e).0))
nothing_after (l ∷ ls) [] more al am e = absurd (not_the_end l al.0 (first_same (line_text l) (codes "end") (body_lines ls) more e).0)
nothing_after (l ∷ ls) (m ∷ ms) more al am e =
    nothing_after ls ms more al.1 am.1 (first_same (line_text l) (line_text m) (body_lines ls) (map line_text ms ++ codes "end" ∷ more) e).1

-- ---- what a reader has read

pub record HasRead (start now : Place) (made : List NumLine) : Type 0 where
  pub lines : AreLines made
  pub parts : start.rest ≡ file_of (map line_text made) ++ now.rest
  pub line : now.line ≡ start.line + length made

pub nothing_read : (start : Place) → HasRead start start []
nothing_read start = record { lines = tt; parts = refl; line = omega arith }

file_more : (made : List NumLine) (l : NumLine) (r : List ℕ) → file_of (map line_text made) ++ (line_text l ++ 10 ∷ r) ≡ file_of (map line_text (made ++ l ∷ [])) ++ r
file_more [] l r = sym (ap (λ (y : List ℕ). y ++ r) (append-nil (line_text l ++ 10 ∷ [])) ∙ append_assoc (line_text l) (10 ∷ []) r)
file_more (m ∷ ms) l r =
    append_assoc (line_text m ++ 10 ∷ []) (file_of (map line_text ms)) (line_text l ++ 10 ∷ r)
    ∙ ap (λ (y : List ℕ). (line_text m ++ 10 ∷ []) ++ y) (file_more ms l r)
    ∙ sym (append_assoc (line_text m ++ 10 ∷ []) (file_of (map line_text (ms ++ l ∷ []))) r)

pub one_more_line : (start now : Place) (made : List NumLine) (l : NumLine) (q : Place) → HasRead start now made → read_line now ≡ Ok (l, q) → HasRead start q (made ++ l ∷ [])
one_more_line start now made l q read e =
    let t = line_takes now l q e in
    let at = read.line in
    let up = next_line now l q e in
    record {
      lines = all_more IsLine made l read.lines t.good;
      parts = read.parts ∙ ap (λ (y : List ℕ). file_of (map line_text made) ++ y) t.parts ∙ file_more made l q.rest;
      line = let longer = length-append made (l ∷ []) in omega (arith, at, up, longer);
    }

-- a line is taken from what is left
pub fewer_left : (now : Place) (l : NumLine) (q : Place) → read_line now ≡ Ok (l, q) → length q.rest < length now.rest
fewer_left now l q e =
    let t = line_takes now l q e in
    let whole : length now.rest ≡ length (line_text l) + suc (length q.rest) = ap length t.parts ∙ length-append (line_text l) (10 ∷ q.rest) in
    omega (arith, whole)

-- ---- where it ends

pub after_end : (bytes : List ℕ) → begins_with_end bytes ≡ true → bytes ≡ codes "end\n" ++ drop 4 bytes
after_end bytes is =
    sym (take-append-drop 4 bytes) ∙ ap (λ (y : List ℕ). y ++ drop 4 bytes) ((bytes_eq-Decides (take 4 bytes) (codes "end\n")).0 is)

pub end_stands : (bytes left : List ℕ) → bytes ≡ codes "end" ++ 10 ∷ left → begins_with_end bytes ≡ true
end_stands bytes left e = ap begins_with_end e

-- a line that is none
pub stops_at_line : (start now : Place) (made : List NumLine) (k : ℕ) → HasRead start now made → begins_with_end now.rest ≡ false → read_line now ≡ Err k
    → (front : List (List ℕ)) × (k ≡ start.line + length front) × LeavesAfter AreLines body_lines start.rest front
stops_at_line start now made k read no_last e = (
  map line_text made,
  (let at = read.line in let on = line_fault now k e in let count = length-map made line_text in omega (arith, at, on, count)),
  record {
    rest = now.rest;
    parts = read.parts;
    begun = (made, read.lines, codes "end" ∷ [], refl);
    stuck = λ ls al line more left same rest. stuck line left (next_of ls made line more al read.lines same) rest;
    unended = λ ls al same none. no_end ls made read.lines same;
  },
)
  where
    stuck : (line left : List ℕ) → IsNext line → now.rest ≡ line ++ 10 ∷ left → ⊥
    stuck line left (inl last) rest =
        let stands = end_stands now.rest left (rest ∙ ap (λ (y : List ℕ). y ++ 10 ∷ left) last) in
        absurd cc
    stuck line left (inr next) rest =
        not_ok (next.0, place (now.line + 1) left) k (read_line now) e
        (ap (λ (y : List ℕ). read_line (place now.line y)) (rest ∙ ap (λ (y : List ℕ). y ++ 10 ∷ left) next.2) ∙ line_again next.0 now.line left next.1)

closing_stops : (n k : ℕ) (r : List ℕ) → read_closing (place n (codes "end\n" ++ r)) ≡ Err k → (k ≡ n + 1) × (r ≢ [])
unfolding read_closing
closing_stops n k [] e = absurd cc
closing_stops n k (b ∷ r) e = let some : eqb (length (b ∷ r)) 0 ≡ false = grind (arith, nat_tests) in let h : Err (n + 1) ≡ Err k = rw some at e in (cc, λ none. cc)

-- bytes after the end
pub stops_after_end : (start now : Place) (made : List NumLine) (k : ℕ) → HasRead start now made → begins_with_end now.rest ≡ true → read_closing now ≡ Err k
    → (front : List (List ℕ)) × (k ≡ start.line + length front) × LeavesAfter AreLines body_lines start.rest front
stops_after_end start now made k read last e =
    let after = after_end now.rest last in
    let stopped = closing_stops now.line k (drop 4 now.rest) (ap (λ (y : List ℕ). read_closing (place now.line y)) (sym after) ∙ e) in
    let front = body_lines made in (
      front,
      (let at = read.line in let on = stopped.0 in let count : length front ≡ length made + 1 = length-append (map line_text made) (codes "end" ∷ []) ∙ ap (λ (n : ℕ). n + 1) (length-map made line_text) in omega (arith, at, on, count)),
      record {
        rest = drop 4 now.rest;
        parts = read.parts ∙ ap (λ (y : List ℕ). file_of (map line_text made) ++ y) after ∙ with_end made (drop 4 now.rest);
        begun = (made, read.lines, [], sym (append-nil front));
        stuck = λ ls al line more left same rest. some_more line more (nothing_after ls made (line ∷ more) al read.lines (same ∙ append_assoc (map line_text made) (codes "end" ∷ []) (line ∷ more)));
        unended = λ ls al same none. stopped.1 none;
      },
    )
  where
    some_more : (line : List ℕ) (more : List (List ℕ)) → (line ∷ more) ≡ [] → ⊥
    some_more line more e = cc

    with_end : (made : List NumLine) (r : List ℕ) → file_of (map line_text made) ++ (codes "end\n" ++ r) ≡ file_of (body_lines made) ++ r
    with_end made r =
        sym (append_assoc (file_of (map line_text made)) (codes "end\n") r)
        ∙ ap (λ (y : List ℕ). y ++ r) (sym (flat_map-append (λ (l : List ℕ). l ++ 10 ∷ []) (map line_text made) (codes "end" ∷ [])))

closing_ends : (n : ℕ) (r : List ℕ) (q : Place) → read_closing (place n (codes "end\n" ++ r)) ≡ Ok q → r ≡ []
unfolding read_closing
closing_ends n [] q e = refl
closing_ends n (b ∷ r) q e = absurd (let some : eqb (length (b ∷ r)) 0 ≡ false = grind (arith, nat_tests) in let h : Err (n + 1) ≡ Ok q = rw some at e in cc)

-- the end, and no byte after it
pub ends_well : (start now q : Place) (made : List NumLine) → HasRead start now made → begins_with_end now.rest ≡ true → read_closing now ≡ Ok q → AreLines made × (start.rest ≡ file_of (body_lines made))
ends_well start now q made read last e =
    let after = after_end now.rest last in
    let none = closing_ends now.line (drop 4 now.rest) q (ap (λ (y : List ℕ). read_closing (place now.line y)) (sym after) ∙ e) in
    let all : now.rest ≡ codes "end\n" = after ∙ ap (λ (y : List ℕ). codes "end\n" ++ y) none in (
      read.lines,
      read.parts ∙ ap (λ (y : List ℕ). file_of (map line_text made) ++ y) all
          ∙ sym (flat_map-append (λ (l : List ℕ). l ++ 10 ∷ []) (map line_text made) (codes "end" ∷ [])),
    )

pub line_stops : (A : Type 0) (start now : Place) (made : List NumLine) (e : Stop) → HasRead start now made → begins_with_end now.rest ≡ false → Stops e (read_line now) → ReadsLines {A = A} body_lines (Err e) start
line_stops A start now made stops.Memory read no_last s = tt
line_stops A start now made (stops.Shape k) read no_last s = stops_at_line start now made k read no_last s

pub end_stops : (A : Type 0) (start now : Place) (made : List NumLine) (e : Stop) → HasRead start now made → begins_with_end now.rest ≡ true → Stops e (read_closing now) → ReadsLines {A = A} body_lines (Err e) start
end_stops A start now made stops.Memory read last s = tt
end_stops A start now made (stops.Shape k) read last s = stops_after_end start now made k read last s
