-- What reading a file of a hose, or of a hose certificate, answers.
use Rattle.std.proofs.Common.{◌≡◌, ◌∙◌, ℕ, ◌^◌, ◌<◌, List, [], ◌∷◌, ◌++◌, length, map, nat_le, slice_index, Some, None, Result, Ok, Err, arith, refl, ap, sym, subst, inl, inr, append-nil}
use Rattle.std.specs.Prelude.{All, IsTrue, codes}
use Rattle.std.specs.List.{flat_map}
use Rattle.std.proofs.lemmas.Bool.{lt-ltb, leb-true}
use Rattle.te_model.specs.declared.certificate.RuleFault.{RuleFault}
use Rattle.te_model.specs.declared.limits.TheConstants.{FORMAT_2}
use Rattle.te_model.specs.declared.network.Network.{Network}
use Rattle.te_model.specs.Network.{node_count, link_count}
use Rattle.te_model.proofs.Tests.{and_true}
use Rattle.number_tables.specs.declared.due.DueLines.{DueLines}
use Rattle.number_tables.specs.declared.fault.TableFault.{TableFault}
use Rattle.number_tables.specs.declared.fault.TableFault.TheVariants as tables
use Rattle.number_tables.specs.declared.line.NumLine.{NumLine}
use Rattle.number_tables.specs.Due.{Due, line, first_undue, has_count, word_line}
use Rattle.number_tables.specs.Table.{AreLines, table_text}
use Rattle.number_tables.specs.TakingDue.{IsBefore, TakesDue, next_line, BeginsWithEnd, BeginsWithNumber, LeavesAtEnd, LeavesAtLine}
use Rattle.hose_bound.specs.declared.fault.HoseFault.TheVariants as faults
use Rattle.hose_bound.specs.declared.hose.Hose.{Hose}
use Rattle.hose_bound.specs.declared.hose.HoseBlock.{HoseBlock}
use Rattle.hose_bound.specs.declared.hose.HoseCert.{HoseCert}
use Rattle.hose_bound.specs.Files.{blocks_due, bound_then_blocks, bounds_due, hose_block_lines, hose_cert_due, hose_cert_lines, hose_lines, is_block_count, is_shaped_hose, is_shaped_hose_block}
use Rattle.hose_bound.specs.Lines.{BeginsWithBlockCount, BeginsWithBlocks, BeginsWithHose, LeavesAtBlocks, LeavesAtHose}
use Rattle.hose_bound.specs.Reading.{GivesHose, GivesHoseCert, SpellsHoseOrFault, SpellsKeptCert, fault_of, hose_spelled, hose_misshaped, cert_spelled, cert_misshaped, keep_block, keep_cert, read_unless}
use Rattle.hose_bound.specs.Rules.{IsValidHose, IsValidHoseCert, hose_fault, hose_cert_fault}
use Rattle.hose_bound.proofs.Forms.{files_have_forms}
use Rattle.hose_bound.proofs.Kept.{cert_whole, kept_has_same_fault}
use Rattle.hose_bound.proofs.Taking.{StandsBehind, goes_line, goes_nowhere, stands_first, stands_on, stops}
use Rattle.hose_bound.proofs.TakenLines.{blocks_on, hose_on}

-- ---- a hose

abbrev pub hose_first : List ℕ
hose_first = codes "yates-bounds 1"

module _ (nodes : ℕ) (bytes : List ℕ) where
  abbrev pub InBounds : Due → List NumLine → DueLines → List NumLine → Type 0
  InBounds rest taken now more = StandsBehind hose_first (bounds_due nodes) bytes rest taken now more

  pub no_hose : (now after : DueLines) (ls : List NumLine) (e : TableFault) → InBounds (bounds_due nodes) [] now ls →
      TakesDue (BeginsWithHose nodes) (LeavesAtHose nodes) (Err e) now after ls → SpellsHoseOrFault nodes bytes (Err e)
  no_hose now after ls e at fails =
      stops (BeginsWithHose nodes) (LeavesAtHose nodes) hose_first (bounds_due nodes) bytes (bounds_due nodes) [] now after ls e refl (files_have_forms.hoses_end nodes) at
      (λ j leaves. leaves Due.done) fails

  pub behind_hose : (now after : DueLines) (h : Hose) (ls : List NumLine) → InBounds (bounds_due nodes) [] now ls →
      (t : TakesDue (BeginsWithHose nodes) (LeavesAtHose nodes) (Ok h) now after ls) → InBounds Due.done (hose_lines h) after t.0
  behind_hose now after h ls at t =
      stands_on hose_first (bounds_due nodes) bytes (bounds_due nodes) Due.done [] (hose_lines h) now after ls t.0 at t.1.1 t.2 t.3 (hose_on nodes h Due.done t.1.0)

  pub no_end : (now after : DueLines) (taken more : List NumLine) (e : TableFault) → InBounds Due.done taken now more →
      TakesDue BeginsWithEnd LeavesAtEnd (Err e) now after more → SpellsHoseOrFault nodes bytes (Err e)
  no_end now after taken more e at fails =
      stops BeginsWithEnd LeavesAtEnd hose_first (bounds_due nodes) bytes Due.done taken now after more e refl (files_have_forms.hoses_end nodes) at (λ j leaves. leaves) fails

  pub hose_spells : (now after : DueLines) (h : Hose) (more : List NumLine) → IsTrue (is_shaped_hose nodes h) → InBounds Due.done (hose_lines h) now more →
      TakesDue BeginsWithEnd LeavesAtEnd (Ok tt) now after more → SpellsHoseOrFault nodes bytes (Ok h)
  hose_spells now after h more shaped at ended =
      (shaped, at.file ∙ ap (λ (m : List NumLine). table_text hose_first (hose_lines h ++ m)) ended.1.0 ∙ ap (table_text hose_first) (append-nil (hose_lines h)))

-- ---- a hose certificate

abbrev pub cert_first : List ℕ
cert_first = codes "yates-hose 1"

abbrev count_due : ℕ → Due
count_due nodes = line (codes "blocks") is_block_count (λ numbers. blocks_due nodes (slice_index numbers 0))

abbrev bound_line : ℕ → NumLine
bound_line bound = word_line (codes "bound") (bound ∷ [])

abbrev count_line : ℕ → NumLine
count_line count = word_line (codes "blocks") (count ∷ [])

module _ (nodes : ℕ) (bytes : List ℕ) where
  -- the lines that are left of the file, behind these
  pub record Left (rest : Due) (taken : List NumLine) (now : DueLines) : Type 0 where
    pub more : List NumLine
    pub at : StandsBehind cert_first (hose_cert_due nodes) bytes rest taken now more

  -- what was taken so far, and that lines are left behind it
  pub record BehindHose (h : Hose) (now : DueLines) : Type 0 where
    pub shaped : IsTrue (is_shaped_hose nodes h)
    pub left : Left (bound_then_blocks nodes) (hose_lines h) now

  pub record BehindBound (h : Hose) (bound : ℕ) (now : DueLines) : Type 0 where
    pub shaped : IsTrue (is_shaped_hose nodes h)
    pub left : Left (count_due nodes) (hose_lines h ++ bound_line bound ∷ []) now

  pub record BehindCount (h : Hose) (bound count : ℕ) (now : DueLines) : Type 0 where
    pub shaped : IsTrue (is_shaped_hose nodes h)
    pub few : IsTrue (is_block_count (count ∷ []))
    pub left : Left (blocks_due nodes count) ((hose_lines h ++ bound_line bound ∷ []) ++ count_line count ∷ []) now

  pub record BehindBlocks (h : Hose) (bound count : ℕ) (kept : List HoseBlock) (now : DueLines) : Type 0 where
    pub shaped : IsTrue (is_shaped_hose nodes h)
    pub few : IsTrue (is_block_count (count ∷ []))
    pub blocks : List HoseBlock
    pub many : length blocks ≡ count
    pub each : All (λ b. IsTrue (is_shaped_hose_block nodes b)) blocks
    pub same : kept ≡ map keep_block blocks
    pub left : Left Due.done (((hose_lines h ++ bound_line bound ∷ []) ++ count_line count ∷ []) ++ flat_map hose_block_lines blocks) now

  -- what is taken of the lines that are left
  abbrev pub Takes : {X : Type 0} → (X → List NumLine → List NumLine → Type 0) → (List NumLine → ℕ → Type 0) → Result X TableFault → DueLines → DueLines → Type 0
  Takes Begins Leaves result now after = (ls : List NumLine) → IsBefore now ls → TakesDue Begins Leaves result now after ls

  -- a line that is not due
  cert_stops : {X : Type 0} (Begins : X → List NumLine → List NumLine → Type 0) (Leaves : List NumLine → ℕ → Type 0) (rest : Due) (taken : List NumLine) (now after : DueLines)
      (e : TableFault) (l : Left rest taken now) → ((j : ℕ) → Leaves l.more j → first_undue rest l.more ≡ Some j) → Takes Begins Leaves (Err e) now after → SpellsKeptCert nodes bytes (Err e)
  cert_stops Begins Leaves rest taken now after e l leaves fails =
      stops Begins Leaves cert_first (hose_cert_due nodes) bytes rest taken now after l.more e refl (files_have_forms.certs_end nodes) l.at leaves (fails l.more l.at.before)

  pub cert_begins : (now : DueLines) → (ls : List NumLine) × (bytes ≡ table_text cert_first ls) × IsBefore now ls → next_line now ≡ 2 → Left (hose_cert_due nodes) [] now
  cert_begins now table second =
      record { more = table.0; at = stands_first cert_first (hose_cert_due nodes) bytes now table.0 table.1 table.2 second }

  pub no_hose_in_cert : (now after : DueLines) (e : TableFault) → Left (hose_cert_due nodes) [] now →
      Takes (BeginsWithHose nodes) (LeavesAtHose nodes) (Err e) now after → SpellsKeptCert nodes bytes (Err e)
  no_hose_in_cert now after e l fails =
      cert_stops (BeginsWithHose nodes) (LeavesAtHose nodes) (hose_cert_due nodes) [] now after e l (λ j leaves. leaves (bound_then_blocks nodes)) fails

  pub behind_hose_in_cert : (now after : DueLines) (h : Hose) → Left (hose_cert_due nodes) [] now →
      Takes (BeginsWithHose nodes) (LeavesAtHose nodes) (Ok h) now after → BehindHose h after
  behind_hose_in_cert now after h l takes =
      let t = takes l.more l.at.before in
      record {
        shaped = t.1.0;
        left = record {
          more = t.0;
          at = stands_on cert_first (hose_cert_due nodes) bytes (hose_cert_due nodes) (bound_then_blocks nodes) [] (hose_lines h) now after l.more t.0 l.at t.1.1 t.2 t.3
              (hose_on nodes h (bound_then_blocks nodes) t.1.0);
        };
      }

  pub no_bound : (now after : DueLines) (h : Hose) (e : TableFault) → BehindHose h now →
      Takes (BeginsWithNumber (codes "bound")) (LeavesAtLine (codes "bound") (has_count 1)) (Err e) now after → SpellsKeptCert nodes bytes (Err e)
  no_bound now after h e was fails =
      cert_stops (BeginsWithNumber (codes "bound")) (LeavesAtLine (codes "bound") (has_count 1)) (bound_then_blocks nodes) (hose_lines h) now after e was.left
      (λ j leaves. leaves (λ _. count_due nodes)) fails

  pub behind_bound : (now after : DueLines) (h : Hose) (bound : ℕ) → BehindHose h now →
      Takes (BeginsWithNumber (codes "bound")) (LeavesAtLine (codes "bound") (has_count 1)) (Ok bound) now after → BehindBound h bound after
  behind_bound now after h bound was takes =
      let l = was.left in
      let t = takes l.more l.at.before in
      record {
        shaped = was.shaped;
        left = record {
          more = t.0;
          at = stands_on cert_first (hose_cert_due nodes) bytes (bound_then_blocks nodes) (count_due nodes) (hose_lines h) (bound_line bound ∷ []) now after l.more t.0 l.at t.1 t.2 t.3
              (goes_line (codes "bound") (has_count 1) (λ _. count_due nodes) (bound ∷ []) [] (count_due nodes) refl (goes_nowhere (count_due nodes)));
        };
      }

  pub no_count : (now after : DueLines) (h : Hose) (bound : ℕ) (e : TableFault) → BehindBound h bound now →
      Takes BeginsWithBlockCount (LeavesAtLine (codes "blocks") is_block_count) (Err e) now after → SpellsKeptCert nodes bytes (Err e)
  no_count now after h bound e was fails =
      cert_stops BeginsWithBlockCount (LeavesAtLine (codes "blocks") is_block_count) (count_due nodes) (hose_lines h ++ bound_line bound ∷ []) now after e was.left
      (λ j leaves. leaves (λ numbers. blocks_due nodes (slice_index numbers 0))) fails

  pub behind_count : (now after : DueLines) (h : Hose) (bound count : ℕ) → BehindBound h bound now →
      Takes BeginsWithBlockCount (LeavesAtLine (codes "blocks") is_block_count) (Ok count) now after → BehindCount h bound count after
  behind_count now after h bound count was takes =
      let l = was.left in
      let t = takes l.more l.at.before in
      record {
        shaped = was.shaped;
        few = t.1.0;
        left = record {
          more = t.0;
          at = stands_on cert_first (hose_cert_due nodes) bytes (count_due nodes) (blocks_due nodes count) (hose_lines h ++ bound_line bound ∷ []) (count_line count ∷ []) now after
              l.more t.0 l.at t.1.1 t.2 t.3
              (goes_line (codes "blocks") is_block_count (λ numbers. blocks_due nodes (slice_index numbers 0)) (count ∷ []) [] (blocks_due nodes count) t.1.0
              (goes_nowhere (blocks_due nodes count)));
        };
      }

  pub no_blocks_there : (now after : DueLines) (h : Hose) (bound count : ℕ) (e : TableFault) → BehindCount h bound count now →
      Takes (BeginsWithBlocks nodes count) (LeavesAtBlocks nodes count) (Err e) now after → SpellsKeptCert nodes bytes (Err e)
  no_blocks_there now after h bound count e was fails =
      cert_stops (BeginsWithBlocks nodes count) (LeavesAtBlocks nodes count) (blocks_due nodes count) ((hose_lines h ++ bound_line bound ∷ []) ++ count_line count ∷ []) now after e
      was.left (λ j leaves. leaves) fails

  pub behind_blocks : (now after : DueLines) (h : Hose) (bound count : ℕ) (kept : List HoseBlock) → BehindCount h bound count now →
      Takes (BeginsWithBlocks nodes count) (LeavesAtBlocks nodes count) (Ok kept) now after → BehindBlocks h bound count kept after
  behind_blocks now after h bound count kept was takes =
      let l = was.left in
      let t = takes l.more l.at.before in
      let taken : List NumLine = (hose_lines h ++ bound_line bound ∷ []) ++ count_line count ∷ [] in
      record {
        shaped = was.shaped;
        few = was.few;
        blocks = t.1.0;
        many = t.1.1;
        each = t.1.2;
        same = t.1.3;
        left = record {
          more = t.0;
          at = stands_on cert_first (hose_cert_due nodes) bytes (blocks_due nodes count) Due.done taken (flat_map hose_block_lines t.1.0) now after l.more t.0 l.at t.1.4 t.2 t.3
              (blocks_on nodes t.1.0 count 0 (let e = t.1.1 in omega (arith, e)) t.1.2);
        };
      }

  pub no_end_of_cert : (now after : DueLines) (h : Hose) (bound count : ℕ) (kept : List HoseBlock) (e : TableFault) → BehindBlocks h bound count kept now →
      Takes BeginsWithEnd LeavesAtEnd (Err e) now after → SpellsKeptCert nodes bytes (Err e)
  no_end_of_cert now after h bound count kept e was fails =
      cert_stops BeginsWithEnd LeavesAtEnd Due.done (((hose_lines h ++ bound_line bound ∷ []) ++ count_line count ∷ []) ++ flat_map hose_block_lines was.blocks) now after e was.left
      (λ j leaves. leaves) fails

  pub cert_spells : (now after : DueLines) (h : Hose) (bound count : ℕ) (kept : List HoseBlock) → BehindBlocks h bound count kept now →
      Takes BeginsWithEnd LeavesAtEnd (Ok tt) now after → SpellsKeptCert nodes bytes (Ok (record { hose = h; bound = bound; blocks = kept }))
  cert_spells now after h bound count kept was ends =
      let blocks = was.blocks in
      let at = was.left.at in
      let more = was.left.more in
      let many = was.many in
      let ended = ends more at.before in
      let c : HoseCert = record { hose = h; bound = bound; blocks = blocks } in
      let end : (((hose_lines h ++ bound_line bound ∷ []) ++ count_line count ∷ []) ++ flat_map hose_block_lines blocks) ++ more ≡ hose_cert_lines c =
      ap (λ (m : List NumLine). (((hose_lines h ++ bound_line bound ∷ []) ++ count_line count ∷ []) ++ flat_map hose_block_lines blocks) ++ m) ended.1.0
      ∙ append-nil (((hose_lines h ++ bound_line bound ∷ []) ++ count_line count ∷ []) ++ flat_map hose_block_lines blocks)
      ∙ ap (λ (n : ℕ). hose_lines h ++ bound_line bound ∷ count_line n ∷ flat_map hose_block_lines blocks) (sym many) in
      let words = subst AreLines end at.lines in
      let number = words.1.1.0.numbers.0 in
      let limit = (and_true (has_count 1 (count ∷ [])) (nat_le count FORMAT_2.links) was.few).1 in
      let most = leb-true _ _ limit in (
        c,
        (
          record { hose = was.shaped; bound = lt-ltb _ _ number; count = omega (arith, many, most); blocks = was.each },
          at.file ∙ ap (table_text cert_first) end,
        ),
        λ i. record { hose = h; bound = bound; blocks = was.same i },
      )

-- ---- the answer

pub hose_read : (net : Network) (bytes : List ℕ) (h : Hose) → SpellsHoseOrFault (node_count net) bytes (Ok h) → hose_fault (node_count net) h ≡ None → GivesHose net bytes (Ok h)
hose_read net bytes h spells none = inl (hose_spelled h spells (ap (λ o. read_unless o h) (sym none)))

pub hose_rule_read : (net : Network) (bytes : List ℕ) (h : Hose) (f : RuleFault) → SpellsHoseOrFault (node_count net) bytes (Ok h) → hose_fault (node_count net) h ≡ Some f →
    GivesHose net bytes (Err (faults.Rule f))
hose_rule_read net bytes h f spells some = inl (hose_spelled h spells (ap (λ o. read_unless o h) (sym some)))

pub hose_fault_read : (net : Network) (bytes : List ℕ) (e : TableFault) → SpellsHoseOrFault (node_count net) bytes (Err e) → GivesHose net bytes (Err (fault_of e))
hose_fault_read net bytes tables.Memory spells = inr refl
hose_fault_read net bytes (tables.Shape k) spells = inl (hose_misshaped k spells refl)

pub cert_read : (net : Network) (bytes : List ℕ) (kept : HoseCert) → link_count net < 2 ^ 32 → SpellsKeptCert (node_count net) bytes (Ok kept) → hose_cert_fault net kept ≡ None →
    GivesHoseCert net bytes (Ok kept)
cert_read net bytes kept few spells none =
    let all = spells.0 in
    let same : kept ≡ keep_cert all = spells.2 in
    let none_kept : hose_cert_fault net (keep_cert all) ≡ None = ap (hose_cert_fault net) (sym same) ∙ none in
    let none_all : hose_cert_fault net all ≡ None = sym (kept_has_same_fault net all few) ∙ none_kept in
    let whole = cert_whole net all few none_kept in
    inl (cert_spelled all spells.1 (ap (λ (c : HoseCert). Ok c) (same ∙ whole) ∙ ap (λ o. read_unless o all) (sym none_all)))

pub cert_rule_read : (net : Network) (bytes : List ℕ) (kept : HoseCert) (f : RuleFault) → link_count net < 2 ^ 32 → SpellsKeptCert (node_count net) bytes (Ok kept) →
    hose_cert_fault net kept ≡ Some f → GivesHoseCert net bytes (Err (faults.Rule f))
cert_rule_read net bytes kept f few spells some =
    let all = spells.0 in
    let of_all : hose_cert_fault net all ≡ Some f = sym (kept_has_same_fault net all few) ∙ ap (hose_cert_fault net) (sym spells.2) ∙ some in
    inl (cert_spelled all spells.1 (ap (λ o. read_unless o all) (sym of_all)))

pub cert_fault_read : (net : Network) (bytes : List ℕ) (e : TableFault) → SpellsKeptCert (node_count net) bytes (Err e) → GivesHoseCert net bytes (Err (fault_of e))
cert_fault_read net bytes tables.Memory spells = inr refl
cert_fault_read net bytes (tables.Shape k) spells = inl (cert_misshaped k spells refl)

-- what was read keeps its rules
pub valid_hose : (net : Network) (bytes : List ℕ) (h : Hose) → SpellsHoseOrFault (node_count net) bytes (Ok h) → hose_fault (node_count net) h ≡ None → IsValidHose (node_count net) h
valid_hose net bytes h spells none = record { shaped = spells.0; no_fault = none }

pub valid_cert : (net : Network) (bytes : List ℕ) (kept : HoseCert) → link_count net < 2 ^ 32 → SpellsKeptCert (node_count net) bytes (Ok kept) → hose_cert_fault net kept ≡ None →
    IsValidHoseCert net kept
valid_cert net bytes kept few spells none =
    let all = spells.0 in
    let whole = cert_whole net all few (ap (hose_cert_fault net) (sym spells.2) ∙ none) in
    subst (IsValidHoseCert net) (sym (spells.2 ∙ whole)) (record { shaped = spells.1.0; no_fault = ap (hose_cert_fault net) (sym (spells.2 ∙ whole)) ∙ none })
