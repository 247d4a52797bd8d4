-- What the lines of a whole file spell, and where they leave the files of witnesses.
use Rattle.std.proofs.Common.{◌≡◌, ℕ, suc, ◌+◌, ◌^◌, true, ◌&&◌, List, [], ◌∷◌, ◌++◌, length, Some, Result, Ok, Err, refl, inl, ap, sym, ◌∙◌, subst, arith, append-nil, length-append, slice_index, ◌==◌}
use Rattle.std.specs.Prelude.{codes}
use Rattle.std.specs.List.{flat_map, list_all}
use Rattle.std.proofs.lemmas.Bool.{and_from, eq-eqb, eqb-true, lt-ltb}
use Rattle.te_model.specs.declared.route.PathShare.{PathShare}
use Rattle.te_model.specs.Shape.{are_words, is_row_of, is_word}
use Rattle.cert_text.specs.Fits.{AreWords}
use Rattle.number_tables.specs.declared.due.DueLines.{DueLines}
use Rattle.number_tables.specs.declared.fault.TableFault.{TableFault}
use Rattle.number_tables.specs.declared.fault.TableFault.TheVariants as tables
use Rattle.number_tables.specs.declared.line.NumLine.{NumLine}
use Rattle.number_tables.specs.Due.{first_undue, has_count, word_line, LeavesSmallFiles}
use Rattle.number_tables.specs.Table.{AreLines, table_text}
use Rattle.number_tables.specs.TakingDue.{BeginsWithEnd, BeginsWithLine, BeginsWithNumber, IsBefore, LeavesAtEnd, LeavesAtLine, TakesDue, next_line}
use Rattle.number_tables.proofs.TakingDue.{after_line, fails_as, fails_behind, leaves_files}
use Rattle.te_model.specs.Faults.{LeavesAt}
use Rattle.ratio_witness.specs.declared.witness.Witness.{Witness}
use Rattle.ratio_witness.specs.Reading.{BeginsWithRival, BeginsWithWitness, LeavesAtRival, LeavesAtWitness, SpellsWitness}
use Rattle.ratio_witness.specs.Text.{are_shaped_paths, demand_due, is_shaped_witness, keep_witness, pair_lines, pairs_due, scale_due, witness_due, witness_first, witness_lines}
use Rattle.ratio_witness.proofs.FirstUndue.{later, later_some, due_pairs}
use Rattle.ratio_witness.proofs.Ending.{witness_can}
use Rattle.cert_text.proofs.Shaped.{test_words}

-- a line with one number, and one with so many
abbrev pub TakesNumber : List ℕ → Result ℕ TableFault → DueLines → DueLines → List NumLine → Type 0
TakesNumber word result before after ls = TakesDue (BeginsWithNumber word) (LeavesAtLine word (has_count 1)) result before after ls

abbrev pub TakesNumbers : List ℕ → ℕ → Result (List ℕ) TableFault → DueLines → DueLines → List NumLine → Type 0
TakesNumbers word count result before after ls = TakesDue (BeginsWithLine word (has_count count)) (LeavesAtLine word (has_count count)) result before after ls

-- the first line
pub bound_fails : (n : ℕ) (fault : TableFault) (before after : DueLines) (ls : List NumLine) → TakesNumber (codes "bound") (Err fault) before after ls →
    TakesDue (BeginsWithWitness n) (LeavesAtWitness n) (Err fault) before after ls
bound_fails n fault before after ls t =
    fails_as (BeginsWithNumber (codes "bound")) (LeavesAtLine (codes "bound") (has_count 1)) (BeginsWithWitness n) (LeavesAtWitness n) fault before after after ls
    (λ j leaves. leaves (λ bound. scale_due n)) t

-- behind the bound
bound_later : (n bound j : ℕ) (ls more : List NumLine) → ls ≡ word_line (codes "bound") (bound ∷ []) ∷ more → first_undue (scale_due n) more ≡ Some j →
    first_undue (witness_due n) ls ≡ Some (1 + j)
bound_later n bound j ls more same undue =
    ap (first_undue (witness_due n)) same ∙ after_line (codes "bound") (has_count 1) (λ b. scale_due n) (bound ∷ []) more j refl undue ∙ ap Some (omega arith)

pub scale_fails : (n bound : ℕ) (fault : TableFault) (d0 d1 d2 : DueLines) (ls : List NumLine) → TakesNumber (codes "bound") (Ok bound) d0 d1 ls →
    ((more : List NumLine) → IsBefore d1 more → TakesNumbers (codes "scale") 2 (Err fault) d1 d2 more) →
    TakesDue (BeginsWithWitness n) (LeavesAtWitness n) (Err fault) d0 d2 ls
scale_fails n bound fault d0 d1 d2 ls t step =
    fails_behind (BeginsWithLine (codes "scale") (has_count 2)) (LeavesAtLine (codes "scale") (has_count 2)) (BeginsWithWitness n) (LeavesAtWitness n) fault d0 d1 d2
    ls t.0 1 t.3 (ap length t.1 ∙ omega arith) (λ j leaves. bound_later n bound j ls t.0 t.1 (leaves (λ s. demand_due n))) (step t.0 t.2)

-- the bound and the scale stand before what is left
pub record BehindScale (bound : ℕ) (scale : List ℕ) (before after : DueLines) (ls more : List NumLine) : Type 0 where
  pub lines : ls ≡ word_line (codes "bound") (bound ∷ []) ∷ word_line (codes "scale") scale ∷ more
  pub two : (length scale == 2) ≡ true
  pub is : IsBefore after more
  pub next : next_line after + length more ≡ next_line before + length ls

pub behind_scale : (bound : ℕ) (scale : List ℕ) (d0 d1 d2 : DueLines) (ls : List NumLine) → TakesNumber (codes "bound") (Ok bound) d0 d1 ls →
    ((more : List NumLine) → IsBefore d1 more → TakesNumbers (codes "scale") 2 (Ok scale) d1 d2 more) →
    (more : List NumLine) × BehindScale bound scale d0 d2 ls more
behind_scale bound scale d0 d1 d2 ls t step =
    let u = step t.0 t.2 in
    let first = t.3 in
    let second = u.3 in (
      u.0,
      record {
        lines = t.1 ∙ ap (λ (ys : List NumLine). word_line (codes "bound") (bound ∷ []) ∷ ys) u.1.1;
        two = u.1.0;
        is = u.2;
        next = omega (arith, first, second);
      },
    )

scale_later : (n bound j : ℕ) (scale : List ℕ) (ls more : List NumLine) → (length scale == 2) ≡ true →
    ls ≡ word_line (codes "bound") (bound ∷ []) ∷ word_line (codes "scale") scale ∷ more → first_undue (demand_due n) more ≡ Some j →
    first_undue (witness_due n) ls ≡ Some (2 + j)
scale_later n bound j scale ls more two same undue =
    bound_later n bound (suc j) ls (word_line (codes "scale") scale ∷ more) same
    (after_line (codes "scale") (has_count 2) (λ s. demand_due n) scale more j two undue)
    ∙ ap Some (omega arith)

pub demand_fails : (n bound : ℕ) (scale : List ℕ) (fault : TableFault) (d0 d2 d3 : DueLines) (ls more : List NumLine) → BehindScale bound scale d0 d2 ls more →
    TakesNumbers (codes "demand") n (Err fault) d2 d3 more → TakesDue (BeginsWithWitness n) (LeavesAtWitness n) (Err fault) d0 d3 ls
demand_fails n bound scale fault d0 d2 d3 ls more b t =
    fails_behind (BeginsWithLine (codes "demand") (has_count n)) (LeavesAtLine (codes "demand") (has_count n)) (BeginsWithWitness n) (LeavesAtWitness n) fault d0 d2 d3
    ls more 2 b.next (ap length b.lines ∙ omega arith)
    (λ j leaves. scale_later n bound j scale ls more b.two b.lines (leaves (λ demand. pairs_due n))) t

-- the demands stand before what is left, too
pub record BehindDemand (n bound : ℕ) (scale demand : List ℕ) (before after : DueLines) (ls more : List NumLine) : Type 0 where
  pub lines : ls ≡ word_line (codes "bound") (bound ∷ []) ∷ word_line (codes "scale") scale ∷ word_line (codes "demand") demand ∷ more
  pub two : (length scale == 2) ≡ true
  pub each : (length demand == n) ≡ true
  pub is : IsBefore after more
  pub next : next_line after + length more ≡ next_line before + length ls

pub behind_demand : (n bound : ℕ) (scale demand : List ℕ) (d0 d2 d3 : DueLines) (ls more : List NumLine) → BehindScale bound scale d0 d2 ls more →
    TakesNumbers (codes "demand") n (Ok demand) d2 d3 more → (rest : List NumLine) × BehindDemand n bound scale demand d0 d3 ls rest
behind_demand n bound scale demand d0 d2 d3 ls more b t =
    let first = b.next in
    let second = t.3 in (
      t.0,
      record {
        lines = b.lines ∙ ap (λ (ys : List NumLine). word_line (codes "bound") (bound ∷ []) ∷ word_line (codes "scale") scale ∷ ys) t.1.1;
        two = b.two;
        each = t.1.0;
        is = t.2;
        next = omega (arith, first, second);
      },
    )

demand_later : (n bound j : ℕ) (scale demand : List ℕ) (ls more : List NumLine) → (length scale == 2) ≡ true → (length demand == n) ≡ true →
    ls ≡ word_line (codes "bound") (bound ∷ []) ∷ word_line (codes "scale") scale ∷ word_line (codes "demand") demand ∷ more →
    first_undue (pairs_due n) more ≡ Some j → first_undue (witness_due n) ls ≡ Some (3 + j)
demand_later n bound j scale demand ls more two all same undue =
    scale_later n bound (suc j) scale ls (word_line (codes "demand") demand ∷ more) two same
    (after_line (codes "demand") (has_count n) (λ d. pairs_due n) demand more j all undue)
    ∙ ap Some (omega arith)

pub rival_fails : (n bound : ℕ) (scale demand : List ℕ) (fault : TableFault) (d0 d3 d4 : DueLines) (ls more : List NumLine) →
    BehindDemand n bound scale demand d0 d3 ls more → TakesDue (BeginsWithRival n) (LeavesAtRival n) (Err fault) d3 d4 more →
    TakesDue (BeginsWithWitness n) (LeavesAtWitness n) (Err fault) d0 d4 ls
rival_fails n bound scale demand fault d0 d3 d4 ls more b t =
    fails_behind (BeginsWithRival n) (LeavesAtRival n) (BeginsWithWitness n) (LeavesAtWitness n) fault d0 d3 d4
    ls more 3 b.next (ap length b.lines ∙ omega arith)
    (λ j leaves. demand_later n bound j scale demand ls more b.two b.each b.lines leaves) t

-- behind the paths of all pairs nothing is due
pub end_fails : (n bound : ℕ) (scale demand : List ℕ) (kept : List (List PathShare)) (fault : TableFault) (d0 d3 d4 d5 : DueLines) (ls more : List NumLine) →
    BehindDemand n bound scale demand d0 d3 ls more → TakesDue (BeginsWithRival n) (LeavesAtRival n) (Ok kept) d3 d4 more →
    ((rest : List NumLine) → IsBefore d4 rest → TakesDue BeginsWithEnd LeavesAtEnd (Err fault) d4 d5 rest) →
    TakesDue (BeginsWithWitness n) (LeavesAtWitness n) (Err fault) d0 d5 ls
end_fails n bound scale demand kept fault d0 d3 d4 d5 ls more b t step =
    let rival = t.1.0 in
    let lines = flat_map pair_lines rival in
    let first = b.next in
    let second = t.3 in
    let front = ap length b.lines in
    let middle = ap length t.1.4 ∙ length-append lines t.0 in
    fails_behind BeginsWithEnd LeavesAtEnd (BeginsWithWitness n) (LeavesAtWitness n) fault d0 d4 d5 ls t.0 (3 + length lines)
    (omega (arith, first, second)) (omega (arith, front, middle))
    (λ j leaves.
    let none : first_undue (pairs_due n) more ≡ Some (length lines + j) =
    ap (first_undue (pairs_due n)) t.1.4
    ∙ due_pairs rival 0 n t.0 (omega (arith, t.1.2)) t.1.3
    ∙ ap (later (length lines)) leaves
    ∙ later_some (length lines) j
    in
    demand_later n bound (length lines + j) scale demand ls more b.two b.each b.lines none ∙ ap Some (omega arith))
    (step t.0 t.2)

pub two_numbers : (ns : List ℕ) → length ns ≡ 2 → ns ≡ slice_index ns 0 ∷ slice_index ns 1 ∷ []
two_numbers [] e = absurd (omega (arith, e))
two_numbers (a ∷ []) e = absurd (omega (arith, e))
two_numbers (a ∷ b ∷ []) e = refl
two_numbers (a ∷ b ∷ c ∷ ns) e = absurd (omega (arith, e))

-- the first three lines of a table have numbers of 64 bits
three_words : (ls more : List NumLine) (bound x y : ℕ) (demand : List ℕ) → AreLines ls →
    ls ≡ word_line (codes "bound") (bound ∷ []) ∷ word_line (codes "scale") (x ∷ y ∷ []) ∷ word_line (codes "demand") demand ∷ more →
    AreWords (bound ∷ []) × AreWords (x ∷ y ∷ []) × AreWords demand
three_words ls more bound x y demand al same =
    let all = subst AreLines same al in (all.0.numbers, all.1.0.numbers, all.1.1.0.numbers)

-- what is spelled has its shape
pub shaped_all : (n : ℕ) (w : Witness) → AreWords (w.bound ∷ []) × AreWords (w.x ∷ w.y ∷ []) × AreWords w.demand.demand → (length w.demand.demand == n) ≡ true →
    length w.rival ≡ n → list_all are_shaped_paths w.rival ≡ true → is_shaped_witness n w ≡ true
shaped_all n w words count pairs rival =
    let a = lt-ltb w.bound (2 ^ 64) words.0.0 in
    let b = lt-ltb w.x (2 ^ 64) words.1.0 in
    let c = lt-ltb w.y (2 ^ 64) words.1.1.0 in
    let d = and_from (length w.demand.demand == n) (are_words w.demand.demand) count (test_words w.demand.demand words.2) in
    let ab = and_from (is_word w.bound) (is_word w.x) a b in
    let abc = and_from (is_word w.bound && is_word w.x) (is_word w.y) ab c in
    let abcd = and_from (is_word w.bound && is_word w.x && is_word w.y) (is_row_of n w.demand.demand) abc d in
    let e = eq-eqb (length w.rival) n pairs in
    and_from (is_word w.bound && is_word w.x && is_word w.y && is_row_of n w.demand.demand && length w.rival == n) (list_all are_shaped_paths w.rival)
    (and_from (is_word w.bound && is_word w.x && is_word w.y && is_row_of n w.demand.demand) (length w.rival == n) abcd e) rival

pub witness_read : (n bound x y : ℕ) (scale demand : List ℕ) (kept : List (List PathShare)) (d0 d3 d4 d5 : DueLines) (ls more : List NumLine) →
    x ≡ slice_index scale 0 → y ≡ slice_index scale 1 → IsBefore d0 ls → BehindDemand n bound scale demand d0 d3 ls more →
    TakesDue (BeginsWithRival n) (LeavesAtRival n) (Ok kept) d3 d4 more →
    ((rest : List NumLine) → IsBefore d4 rest → TakesDue BeginsWithEnd LeavesAtEnd (Ok tt) d4 d5 rest) →
    TakesDue (BeginsWithWitness n) (LeavesAtWitness n) (Ok (record { bound = bound; x = x; y = y; demand = record { demand = demand }; rival = kept })) d0 d5 ls
witness_read n bound x y scale demand kept d0 d3 d4 d5 ls more at_x at_y before b t step =
    let u = step t.0 t.2 in
    let rival = t.1.0 in
    let numbers : scale ≡ x ∷ y ∷ [] =
    two_numbers scale (eqb-true (length scale) 2 b.two) ∙ ap (λ k. k ∷ slice_index scale 1 ∷ []) (sym at_x) ∙ ap (λ k. x ∷ k ∷ []) (sym at_y)
    in
    let rest : more ≡ flat_map pair_lines rival = t.1.4 ∙ ap (λ (ys : List NumLine). flat_map pair_lines rival ++ ys) u.1.0 ∙ append-nil (flat_map pair_lines rival) in
    let three : ls ≡ word_line (codes "bound") (bound ∷ []) ∷ word_line (codes "scale") (x ∷ y ∷ []) ∷ word_line (codes "demand") demand ∷ more =
    b.lines ∙ ap (λ (ns : List ℕ). word_line (codes "bound") (bound ∷ []) ∷ word_line (codes "scale") ns ∷ word_line (codes "demand") demand ∷ more) numbers
    in
    let w : Witness = record { bound = bound; x = x; y = y; demand = record { demand = demand }; rival = rival } in
    let v : Witness = record { bound = bound; x = x; y = y; demand = record { demand = demand }; rival = kept } in
    let same : v ≡ keep_witness w =
    ap (λ (r : List (List PathShare)). record { bound = bound; x = x; y = y; demand = record { demand = demand }; rival = r }) t.1.1
    in
    let shaped = shaped_all n w (three_words ls more bound x y demand before.0 three) b.each t.1.2 t.1.3 in
    let lines : ls ≡ witness_lines w =
    three
    ∙ ap (λ (ys : List NumLine). word_line (codes "bound") (bound ∷ []) ∷ word_line (codes "scale") (x ∷ y ∷ []) ∷ word_line (codes "demand") demand ∷ ys) rest
    in
    let first = b.next in
    let second = t.3 in
    let third = u.3 in
    (u.0, (w, same, shaped, lines), u.2, omega (arith, first, second, third))

-- bytes that are no table
pub no_table : (n : ℕ) (bytes : List ℕ) (fault : TableFault) → ((k : ℕ) → fault ≡ tables.Shape k → LeavesAt AreLines (table_text witness_first) bytes k) →
    SpellsWitness n (Err fault) bytes
no_table n bytes (tables.Shape k) leaves = inl (leaves k refl)
no_table n bytes tables.Memory leaves = tt

-- what the lines of a table spell, its bytes do
pub bytes_spell : (n : ℕ) (bytes : List ℕ) (ls : List NumLine) (result : Result Witness TableFault) (before after : DueLines) → bytes ≡ table_text witness_first ls →
    AreLines ls → next_line before ≡ 2 → TakesDue (BeginsWithWitness n) (LeavesAtWitness n) result before after ls → SpellsWitness n result bytes
bytes_spell n bytes ls (Ok kept) before after same al next t =
    (t.1.0, t.1.1, t.1.2, same ∙ ap (table_text witness_first) t.1.3)
bytes_spell n bytes ls (Err (tables.Shape k)) before after same al next t =
    let place = t.1 in
    subst (λ j. LeavesSmallFiles witness_first (witness_due n) bytes j) (omega (arith, place, next))
    (leaves_files witness_first (witness_due n) bytes ls t.0 refl (witness_can n) al same t.2)
bytes_spell n bytes ls (Err tables.Memory) before after same al next t = tt
