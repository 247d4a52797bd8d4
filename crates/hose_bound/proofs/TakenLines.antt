-- Hoses and blocks that are read line by line.
use Rattle.std.proofs.Common.{◌≡◌, ◌∙◌, ℕ, zero, suc, ◌+◌, ◌<◌, ◌&&◌, true, List, [], ◌∷◌, ◌++◌, length, slice_index, nat_le, Some, Ok, Err, Result, arith, refl, ap, sym, subst, append_assoc, length-append, get_or, take}
use Rattle.std.specs.Prelude.{All, IsTrue, codes}
use Rattle.std.specs.List.{flat_map}
use Rattle.std.proofs.lemmas.Bool.{and_from, lt-ltb}
use Rattle.std.proofs.lemmas.List.{map-append, take_more}
use Rattle.std.proofs.lemmas.List.Concat.{flat_map-append}
use Rattle.std.proofs.lemmas.List.Elements.{All-head, All-nil, All-push, All-tail}
use Rattle.te_model.specs.declared.limits.TheConstants.{FORMAT_2}
use Rattle.te_model.specs.Shape.{is_row_of, is_word}
use Rattle.te_model.proofs.Tests.{and_true, and_three}
use Rattle.number_tables.specs.declared.due.DueLines.{DueLines}
use Rattle.number_tables.specs.declared.fault.TableFault.{TableFault}
use Rattle.number_tables.specs.declared.line.NumLine.{NumLine}
use Rattle.number_tables.specs.Due.{Due, line, first_undue, has_count, word_line}
use Rattle.number_tables.specs.TakingDue.{IsBefore, TakesDue, BeginsWithLine, BeginsWithNumber, BeginsWithWord, LeavesAtLine, LeavesAtWord, next_line}
use Rattle.number_tables.proofs.TakingDue.{fails_as, fails_behind}
use Rattle.hose_bound.specs.declared.hose.Hose.{Hose}
use Rattle.hose_bound.specs.declared.hose.HoseBlock.{HoseBlock}
use Rattle.hose_bound.specs.Files.{blocks_due, hose_block_lines, hose_lines, hose_then, is_block_count, is_shaped_hose, is_shaped_hose_block}
use Rattle.hose_bound.specs.Lines.{BeginsWithBlock, BeginsWithBlockCount, BeginsWithBlocks, BeginsWithHose, LeavesAtBlock, LeavesAtBlocks, LeavesAtHose}
use Rattle.hose_bound.specs.Reading.{keep_block}
use Rattle.hose_bound.proofs.Forms.{row_count, row_from, single}
use Rattle.hose_bound.proofs.Taking.{GoesOn, goes_line, goes_nowhere, line_words}

-- a fault behind lines that were taken
behind : {X Y : Type 0} (Begins : X → List NumLine → List NumLine → Type 0) (Leaves : List NumLine → ℕ → Type 0)
    (Begins' : Y → List NumLine → List NumLine → Type 0) (Leaves' : List NumLine → ℕ → Type 0)
    (e : TableFault) (before mid after : DueLines) (ls item more : List NumLine) → ls ≡ item ++ more →
    next_line mid + length more ≡ next_line before + length ls →
    ((j : ℕ) → Leaves more j → Leaves' (item ++ more) (length item + j)) →
    TakesDue Begins Leaves (Err e) mid after more → TakesDue Begins' Leaves' (Err e) before after ls
behind Begins Leaves Begins' Leaves' e before mid after ls item more parts count later fails =
    let whole : length ls ≡ length item + length more = ap (λ (m : List NumLine). length m) parts ∙ length-append item more in
    fails_behind Begins Leaves Begins' Leaves' e before mid after ls more (length item) count whole
    (λ j leaves. subst (λ (m : List NumLine). Leaves' m (length item + j)) (sym parts) (later j leaves)) fails

-- ---- a hose

abbrev pub TakesRow : List ℕ → ℕ → Result (List ℕ) TableFault → DueLines → DueLines → List NumLine → Type 0
TakesRow word nodes = TakesDue (BeginsWithLine word (has_count nodes)) (LeavesAtLine word (has_count nodes))

pub sent_fails : (nodes : ℕ) (e : TableFault) (before after : DueLines) (ls : List NumLine) → TakesRow (codes "sent") nodes (Err e) before after ls →
    TakesDue (BeginsWithHose nodes) (LeavesAtHose nodes) (Err e) before after ls
sent_fails nodes e before after ls fails =
    fails_as (BeginsWithLine (codes "sent") (has_count nodes)) (LeavesAtLine (codes "sent") (has_count nodes)) (BeginsWithHose nodes) (LeavesAtHose nodes) e before after after ls
    (λ j leaves next. leaves (λ _. line (codes "received") (has_count nodes) (λ _. next))) fails

pub received_fails : (nodes : ℕ) (sent : List ℕ) (e : TableFault) (before mid after : DueLines) (ls : List NumLine) →
    (t : TakesRow (codes "sent") nodes (Ok sent) before mid ls) → TakesRow (codes "received") nodes (Err e) mid after t.0 →
    TakesDue (BeginsWithHose nodes) (LeavesAtHose nodes) (Err e) before after ls
received_fails nodes sent e before mid after ls t fails =
    behind (BeginsWithLine (codes "received") (has_count nodes)) (LeavesAtLine (codes "received") (has_count nodes)) (BeginsWithHose nodes) (LeavesAtHose nodes) e before mid after
    ls (word_line (codes "sent") sent ∷ []) t.0 t.1.1 t.3
    (λ j leaves next.
    let rest = line (codes "received") (has_count nodes) (λ _. next) in
    goes_line (codes "sent") (has_count nodes) (λ _. rest) sent [] rest t.1.0 (goes_nowhere rest) t.0 j (leaves (λ _. next))) fails

pub hose_taken : (nodes : ℕ) (h : Hose) (before mid after : DueLines) (ls : List NumLine) → IsBefore before ls →
    (t : TakesRow (codes "sent") nodes (Ok h.sent) before mid ls) → TakesRow (codes "received") nodes (Ok h.received) mid after t.0 →
    TakesDue (BeginsWithHose nodes) (LeavesAtHose nodes) (Ok h) before after ls
hose_taken nodes h before mid after ls is t u =
    let sent = line_words (codes "sent") h.sent ls t.0 is.0 t.1.1 in
    let received = line_words (codes "received") h.received t.0 u.0 t.2.0 u.1.1 in
    let one = t.3 in
    let two = u.3 in (
      u.0,
      (
        and_from (is_row_of nodes h.sent) (is_row_of nodes h.received) (row_from nodes h.sent t.1.0 sent) (row_from nodes h.received u.1.0 received),
        t.1.1 ∙ ap (λ (m : List NumLine). word_line (codes "sent") h.sent ∷ m) u.1.1,
      ),
      u.2,
      omega (arith, one, two),
    )

pub hose_on : (nodes : ℕ) (h : Hose) (next : Due) → is_shaped_hose nodes h ≡ true → GoesOn (hose_then nodes next) (hose_lines h) next
hose_on nodes h next shaped =
    let both = and_true (is_row_of nodes h.sent) (is_row_of nodes h.received) shaped in
    let rest = line (codes "received") (has_count nodes) (λ _. next) in
    goes_line (codes "sent") (has_count nodes) (λ _. rest) h.sent (word_line (codes "received") h.received ∷ []) next (row_count nodes h.sent both.0)
    (goes_line (codes "received") (has_count nodes) (λ _. next) h.received [] next (row_count nodes h.received both.1) (goes_nowhere next))

-- ---- a block

abbrev tails_then : ℕ → Due → Due
tails_then nodes next = line (codes "tails") (has_count nodes) (λ _. line (codes "heads") (has_count nodes) (λ _. next))

more_one : (c : ℕ) → c + 1 ≡ suc c
more_one c = omega arith

pub link_fails : (nodes : ℕ) (e : TableFault) (before after : DueLines) (ls : List NumLine) →
    TakesDue (BeginsWithNumber (codes "link")) (LeavesAtLine (codes "link") (has_count 1)) (Err e) before after ls →
    TakesDue (BeginsWithBlock nodes) (LeavesAtBlock nodes) (Err e) before after ls
link_fails nodes e before after ls fails =
    fails_as (BeginsWithNumber (codes "link")) (LeavesAtLine (codes "link") (has_count 1)) (BeginsWithBlock nodes) (LeavesAtBlock nodes) e before after after ls
    (λ j leaves c. subst (λ n. first_undue (blocks_due nodes n) ls ≡ Some j) (sym (more_one c)) (leaves (λ _. tails_then nodes (blocks_due nodes c)))) fails

pub tails_fail : (nodes link : ℕ) (e : TableFault) (before mid after : DueLines) (ls : List NumLine) →
    (t : TakesDue (BeginsWithNumber (codes "link")) (LeavesAtLine (codes "link") (has_count 1)) (Ok link) before mid ls) →
    TakesRow (codes "tails") nodes (Err e) mid after t.0 → TakesDue (BeginsWithBlock nodes) (LeavesAtBlock nodes) (Err e) before after ls
tails_fail nodes link e before mid after ls t fails =
    behind (BeginsWithLine (codes "tails") (has_count nodes)) (LeavesAtLine (codes "tails") (has_count nodes)) (BeginsWithBlock nodes) (LeavesAtBlock nodes) e before mid after
    ls (word_line (codes "link") (link ∷ []) ∷ []) t.0 t.1 t.3
    (λ j leaves c.
    let rest = tails_then nodes (blocks_due nodes c) in
    subst (λ n. first_undue (blocks_due nodes n) (word_line (codes "link") (link ∷ []) ∷ t.0) ≡ Some (1 + j)) (sym (more_one c))
    (goes_line (codes "link") (has_count 1) (λ _. rest) (link ∷ []) [] rest refl (goes_nowhere rest) t.0 j (leaves (λ _. line (codes "heads") (has_count nodes) (λ _. blocks_due nodes c)))))
    fails

pub heads_fail : (nodes link : ℕ) (tails : List ℕ) (e : TableFault) (before one mid after : DueLines) (ls : List NumLine) →
    (t : TakesDue (BeginsWithNumber (codes "link")) (LeavesAtLine (codes "link") (has_count 1)) (Ok link) before one ls) →
    (u : TakesRow (codes "tails") nodes (Ok tails) one mid t.0) → TakesRow (codes "heads") nodes (Err e) mid after u.0 →
    TakesDue (BeginsWithBlock nodes) (LeavesAtBlock nodes) (Err e) before after ls
heads_fail nodes link tails e before one mid after ls t u fails =
    let first = t.3 in
    let second = u.3 in
    behind (BeginsWithLine (codes "heads") (has_count nodes)) (LeavesAtLine (codes "heads") (has_count nodes)) (BeginsWithBlock nodes) (LeavesAtBlock nodes) e before mid after
    ls (word_line (codes "link") (link ∷ []) ∷ word_line (codes "tails") tails ∷ []) u.0
    (t.1 ∙ ap (λ (m : List NumLine). word_line (codes "link") (link ∷ []) ∷ m) u.1.1) (omega (arith, first, second))
    (λ j leaves c.
    let due = blocks_due nodes c in
    let last = line (codes "heads") (has_count nodes) (λ _. due) in
    subst (λ n. first_undue (blocks_due nodes n) (word_line (codes "link") (link ∷ []) ∷ word_line (codes "tails") tails ∷ u.0) ≡ Some (2 + j)) (sym (more_one c))
    (goes_line (codes "link") (has_count 1) (λ _. tails_then nodes due) (link ∷ []) (word_line (codes "tails") tails ∷ []) last refl
    (goes_line (codes "tails") (has_count nodes) (λ _. last) tails [] last u.1.0 (goes_nowhere last)) u.0 j (leaves (λ _. due))))
    fails

pub block_taken : (nodes link : ℕ) (kept : HoseBlock) (before one mid after : DueLines) (ls : List NumLine) → IsBefore before ls →
    kept ≡ keep_block (record { link = link; tails = kept.tails; heads = kept.heads }) →
    (t : TakesDue (BeginsWithNumber (codes "link")) (LeavesAtLine (codes "link") (has_count 1)) (Ok link) before one ls) →
    (u : TakesRow (codes "tails") nodes (Ok kept.tails) one mid t.0) → TakesRow (codes "heads") nodes (Ok kept.heads) mid after u.0 →
    TakesDue (BeginsWithBlock nodes) (LeavesAtBlock nodes) (Ok kept) before after ls
block_taken nodes link kept before one mid after ls is same t u v =
    let b : HoseBlock = record { link = link; tails = kept.tails; heads = kept.heads } in
    let number = line_words (codes "link") (link ∷ []) ls t.0 is.0 t.1 in
    let tails = line_words (codes "tails") kept.tails t.0 u.0 t.2.0 u.1.1 in
    let heads = line_words (codes "heads") kept.heads u.0 v.0 u.2.0 v.1.1 in
    let first = t.3 in
    let second = u.3 in
    let third = v.3 in (
      v.0,
      (
        b,
        and_from (is_word link && is_row_of nodes kept.tails) (is_row_of nodes kept.heads)
            (and_from (is_word link) (is_row_of nodes kept.tails) (lt-ltb _ _ number.0) (row_from nodes kept.tails u.1.0 tails)) (row_from nodes kept.heads v.1.0 heads),
        same,
        t.1 ∙ ap (λ (m : List NumLine). word_line (codes "link") (link ∷ []) ∷ m) (u.1.1 ∙ ap (λ (m : List NumLine). word_line (codes "tails") kept.tails ∷ m) v.1.1),
      ),
      v.2,
      omega (arith, first, second, third),
    )

-- ---- the number of blocks

pub count_read : (numbers : List ℕ) (count : ℕ) (before after : DueLines) (ls : List NumLine) → is_block_count numbers ≡ true → count ≡ slice_index numbers 0 →
    TakesDue (BeginsWithWord (codes "blocks")) (LeavesAtWord (codes "blocks")) (Ok numbers) before after ls →
    TakesDue BeginsWithBlockCount (LeavesAtLine (codes "blocks") is_block_count) (Ok count) before after ls
count_read numbers count before after ls is at t =
    let both = and_true (has_count 1 numbers) (nat_le (slice_index numbers 0) FORMAT_2.links) is in
    let one : numbers ≡ count ∷ [] = single numbers both.0 ∙ ap (λ n. n ∷ []) (sym at) in
    (t.0, (subst (λ (ns : List ℕ). is_block_count ns ≡ true) one is, t.1 ∙ ap (λ (ns : List ℕ). word_line (codes "blocks") ns ∷ t.0) one), t.2, t.3)

-- ---- some blocks

abbrev IsShapedBlock : ℕ → HoseBlock → Type 0
IsShapedBlock nodes b = IsTrue (is_shaped_hose_block nodes b)

pub no_blocks : (nodes : ℕ) (before : DueLines) (ls : List NumLine) → IsBefore before ls →
    TakesDue (BeginsWithBlocks nodes 0) (LeavesAtBlocks nodes 0) (Ok []) before before ls
no_blocks nodes before ls is = (ls, ([], refl, All-nil (IsShapedBlock nodes), refl, refl), is, refl)

pub one_block_more : (nodes i : ℕ) (kept : List HoseBlock) (block : HoseBlock) (before mid after : DueLines) (ls : List NumLine) →
    TakesDue (BeginsWithBlocks nodes i) (LeavesAtBlocks nodes i) (Ok kept) before mid ls →
    ((more : List NumLine) → IsBefore mid more → TakesDue (BeginsWithBlock nodes) (LeavesAtBlock nodes) (Ok block) mid after more) →
    TakesDue (BeginsWithBlocks nodes (i + 1)) (LeavesAtBlocks nodes (i + 1)) (Ok (kept ++ block ∷ [])) before after ls
one_block_more nodes i kept block before mid after ls t step =
    let (more, (bs, count, shaped, same, parts), left, at) = t in
    let (rest, (b, is, one, front), after_it, on) = step more left in
    let both = length-append bs (b ∷ []) in
    let lines = flat_map hose_block_lines bs in (
      rest,
      (
        bs ++ b ∷ [],
        omega (arith, count, both),
        All-push (IsShapedBlock nodes) bs b shaped is,
        (λ i. same i ++ one i ∷ []) ∙ sym (map-append keep_block bs (b ∷ [])),
        parts
            ∙ ap (λ (m : List NumLine). lines ++ m) front
            ∙ sym (append_assoc lines (hose_block_lines b) rest)
            ∙ ap (λ (m : List NumLine). m ++ rest) (sym (flat_map-append hose_block_lines bs (b ∷ []))),
      ),
      after_it,
      omega (arith, at, on),
    )

-- behind some of the blocks the others are due
pub blocks_on : (nodes : ℕ) (bs : List HoseBlock) (n m : ℕ) → n ≡ length bs + m → All (λ b. IsTrue (is_shaped_hose_block nodes b)) bs →
    GoesOn (blocks_due nodes n) (flat_map hose_block_lines bs) (blocks_due nodes m)
blocks_on nodes [] n m same shaped =
    let is : m ≡ n = omega (arith, same) in subst (λ k. GoesOn (blocks_due nodes k) [] (blocks_due nodes m)) is (goes_nowhere (blocks_due nodes m))
blocks_on nodes (b ∷ bs) zero m same shaped = absurd (omega (arith, same))
blocks_on nodes (b ∷ bs) (suc n) m same shaped =
    let three = and_three (is_word b.link) (is_row_of nodes b.tails) (is_row_of nodes b.heads) (All-head (IsShapedBlock nodes) b bs shaped) in
    let due = blocks_due nodes n in
    let last = line (codes "heads") (has_count nodes) (λ _. due) in
    let rest = flat_map hose_block_lines bs in
    goes_line (codes "link") (has_count 1) (λ _. tails_then nodes due) (b.link ∷ []) (word_line (codes "tails") b.tails ∷ word_line (codes "heads") b.heads ∷ rest) (blocks_due nodes m) refl
    (goes_line (codes "tails") (has_count nodes) (λ _. last) b.tails (word_line (codes "heads") b.heads ∷ rest) (blocks_due nodes m) (row_count nodes b.tails three.1)
    (goes_line (codes "heads") (has_count nodes) (λ _. due) b.heads rest (blocks_due nodes m) (row_count nodes b.heads three.2)
    (blocks_on nodes bs n m (omega (arith, same)) (All-tail (IsShapedBlock nodes) b bs shaped))))

pub block_fails : (nodes n i : ℕ) (kept : List HoseBlock) (fault : TableFault) (before mid after : DueLines) (ls : List NumLine) → i < n →
    TakesDue (BeginsWithBlocks nodes i) (LeavesAtBlocks nodes i) (Ok kept) before mid ls →
    ((more : List NumLine) → IsBefore mid more → TakesDue (BeginsWithBlock nodes) (LeavesAtBlock nodes) (Err fault) mid after more) →
    TakesDue (BeginsWithBlocks nodes n) (LeavesAtBlocks nodes n) (Err fault) before after ls
block_fails nodes n i kept fault before mid after ls below t step =
    let (more, (bs, count, shaped, same, parts), left, at) = t in
    let m = rest_of i n below in
    behind (BeginsWithBlock nodes) (LeavesAtBlock nodes) (BeginsWithBlocks nodes n) (LeavesAtBlocks nodes n) fault before mid after ls (flat_map hose_block_lines bs) more parts at
    (λ j leaves. blocks_on nodes bs n (m.0 + 1) (let r = m.1 in omega (arith, r, count)) shaped more j (leaves m.0)) (step more left)
  where
    rest_of : (i n : ℕ) → i < n → (m : ℕ) × (n ≡ i + (m + 1))
    rest_of i zero less = absurd (omega (arith, less))
    rest_of zero (suc n) less = (n, omega arith)
    rest_of (suc i) (suc n) less = let r = rest_of i n (omega (arith, less)) in (r.0, let e = r.1 in omega (arith, e))

-- ---- the lines that are written

pub one_block_written : (old now new : List NumLine) (bs : List HoseBlock) (k : ℕ) (b : HoseBlock) → k < length bs → b ≡ get_or bs k b →
    now ≡ old ++ flat_map hose_block_lines (take k bs) → new ≡ now ++ hose_block_lines b → new ≡ old ++ flat_map hose_block_lines (take (k + 1) bs)
one_block_written old now new bs k b below is before put =
    let front = flat_map hose_block_lines (take k bs) in
    let parts : flat_map hose_block_lines (take (k + 1) bs) ≡ front ++ hose_block_lines b =
    ap (flat_map hose_block_lines) (take_more bs k b below ∙ ap (λ (x : HoseBlock). take k bs ++ x ∷ []) (sym is))
    ∙ flat_map-append hose_block_lines (take k bs) (b ∷ [])
    in
    put ∙ ap (λ (m : List NumLine). m ++ hose_block_lines b) before ∙ append_assoc old front (hose_block_lines b) ∙ ap (λ (m : List NumLine). old ++ m) (sym parts)
