-- The files that are due are those of hoses and hose certificates.
use Rattle.std.proofs.Common.{◌≡◌, ℕ, zero, suc, ◌<◌, ◌≤◌, ◌==◌, ◌&&◌, true, List, [], ◌∷◌, length, refl, ap, sym, ◌∙◌, arith, replicate}
use Rattle.std.specs.Prelude.{All, IsTrue, codes, slice_index, nat_le}
use Rattle.std.specs.List.{flat_map}
use Rattle.std.proofs.lemmas.Bool.{ltb-true, lt-ltb, leb-true, le-leb, eqb-true, eq-eqb, and_from}
use Rattle.std.proofs.lemmas.List.{length-replicate}
use Rattle.std.proofs.lemmas.List.Elements.{All-nil, All-cons, All-head, All-tail}
use Rattle.cert_text.specs.Fits.{AreWords}
use Rattle.te_model.specs.declared.limits.TheConstants.{FORMAT_2}
use Rattle.te_model.specs.Shape.{is_row_of, is_word, are_words}
use Rattle.te_model.proofs.Tests.{and_true, and_three}
use Rattle.number_tables.specs.declared.line.NumLine.{NumLine}
use Rattle.number_tables.specs.Due.{Due, AreDue, AreFile, CanEnd}
use Rattle.number_tables.specs.Table.{AreLines}
use Rattle.cert_text.proofs.Shaped.{test_words, words_of}
use Rattle.ratio_witness.proofs.Ending.{zero_words}
use Rattle.hose_bound.specs.declared.hose.Hose.{Hose}
use Rattle.hose_bound.specs.declared.hose.HoseBlock.{HoseBlock}
use Rattle.hose_bound.specs.declared.hose.HoseCert.{HoseCert}
use Rattle.number_tables.specs.Due.{has_count, word_line}
use Rattle.hose_bound.specs.Files.{hose_lines, hose_block_lines, hose_cert_lines, is_shaped_hose, is_shaped_hose_block, IsShapedCert, hose_then, bounds_due, blocks_due, bound_then_blocks, hose_cert_due, FilesHaveForms}

-- ---- numbers of 64 bits, by test and as a fact

pub row_count : (n : ℕ) (ns : List ℕ) → is_row_of n ns ≡ true → has_count n ns ≡ true
row_count n ns is = (and_true (length ns == n) (are_words ns) is).0

pub row_words : (n : ℕ) (ns : List ℕ) → is_row_of n ns ≡ true → AreWords ns
row_words n ns is = words_of ns (and_true (length ns == n) (are_words ns) is).1

pub row_from : (n : ℕ) (ns : List ℕ) → has_count n ns ≡ true → AreWords ns → is_row_of n ns ≡ true
row_from n ns count all = and_from (length ns == n) (are_words ns) count (test_words ns all)

-- a line of one number
pub single : (ns : List ℕ) → has_count 1 ns ≡ true → ns ≡ slice_index ns 0 ∷ []
single [] count = let is = eqb-true 0 1 count in absurd (omega (arith, is))
single (n ∷ []) count = refl
single (n ∷ m ∷ ns) count = let is = eqb-true (length (n ∷ m ∷ ns)) 1 count in absurd (omega (arith, is))

word_of_single : (ns : List ℕ) → has_count 1 ns ≡ true → AreWords ns → is_word (slice_index ns 0) ≡ true
word_of_single [] count all = let is = eqb-true 0 1 count in absurd (omega (arith, is))
word_of_single (n ∷ ns) count all = lt-ltb _ _ all.0

line_is : (l : NumLine) (word : List ℕ) (ns : List ℕ) → l.word ≡ word → l.numbers ≡ ns → l ≡ word_line word ns
line_is l word ns same numbers = λ i. record { word = same i; numbers = numbers i }

-- ---- what is spelled has the lines that are due

pub hoses_are : (nodes : ℕ) (h : Hose) → is_shaped_hose nodes h ≡ true → AreFile (bounds_due nodes) (hose_lines h)
hoses_are nodes h shaped =
    let both = and_true (is_row_of nodes h.sent) (is_row_of nodes h.received) shaped in (
      (record { begun = refl; numbers = row_words nodes h.sent both.0 }, (record { begun = refl; numbers = row_words nodes h.received both.1 }, tt)),
      (refl, row_count nodes h.sent both.0, (refl, row_count nodes h.received both.1, tt)),
    )

blocks_are : (nodes : ℕ) (bs : List HoseBlock) → All (λ b. IsTrue (is_shaped_hose_block nodes b)) bs →
    AreLines (flat_map hose_block_lines bs) × AreDue (blocks_due nodes (length bs)) (flat_map hose_block_lines bs)
blocks_are nodes [] all = (tt, tt)
blocks_are nodes (b ∷ bs) all =
    let shaped = and_three (is_word b.link) (is_row_of nodes b.tails) (is_row_of nodes b.heads) (All-head (λ b. IsTrue (is_shaped_hose_block nodes b)) b bs all) in
    let rest = blocks_are nodes bs (All-tail (λ b. IsTrue (is_shaped_hose_block nodes b)) b bs all) in (
      (
        record { begun = refl; numbers = (ltb-true _ _ shaped.0, tt) },
        (
          record { begun = refl; numbers = row_words nodes b.tails shaped.1 },
          (record { begun = refl; numbers = row_words nodes b.heads shaped.2 }, rest.0),
        ),
      ),
      (refl, refl, (refl, row_count nodes b.tails shaped.1, (refl, row_count nodes b.heads shaped.2, rest.1))),
    )

pub few_are_words : (n : ℕ) → n ≤ FORMAT_2.links → n < 18446744073709551616
few_are_words n few = omega (arith, few)

pub certs_are : (nodes : ℕ) (c : HoseCert) → IsShapedCert nodes c → AreFile (hose_cert_due nodes) (hose_cert_lines c)
certs_are nodes c shaped =
    let both = and_true (is_row_of nodes c.hose.sent) (is_row_of nodes c.hose.received) shaped.hose in
    let rest = blocks_are nodes c.blocks shaped.blocks in (
      (
        record { begun = refl; numbers = row_words nodes c.hose.sent both.0 },
        (
          record { begun = refl; numbers = row_words nodes c.hose.received both.1 },
          (
            record { begun = refl; numbers = (ltb-true _ _ shaped.bound, tt) },
            (record { begun = refl; numbers = (few_are_words (length c.blocks) shaped.count, tt) }, rest.0),
          ),
        ),
      ),
      (
        refl,
        row_count nodes c.hose.sent both.0,
        (refl, row_count nodes c.hose.received both.1, (refl, refl, (refl, le-leb _ _ shaped.count, rest.1))),
      ),
    )

-- ---- and the lines that are due spell one

of_hose_lines : (nodes : ℕ) (ls : List NumLine) → AreLines ls → AreDue (bounds_due nodes) ls → (h : Hose) × IsTrue (is_shaped_hose nodes h) × (ls ≡ hose_lines h)
of_hose_lines nodes [] al is = absurd is
of_hose_lines nodes (l ∷ []) al is = absurd is.2
of_hose_lines nodes (l ∷ m ∷ n ∷ ls) al is = absurd is.2.2
of_hose_lines nodes (l ∷ m ∷ []) al is = (
  record { sent = l.numbers; received = m.numbers },
  and_from (is_row_of nodes l.numbers) (is_row_of nodes m.numbers) (row_from nodes l.numbers is.1 al.0.numbers) (row_from nodes m.numbers is.2.1 al.1.0.numbers),
  λ i. line_is l (codes "sent") l.numbers is.0 refl i ∷ line_is m (codes "received") m.numbers is.2.0 refl i ∷ [],
)

of_block_lines : (nodes c : ℕ) (ls : List NumLine) → AreLines ls → AreDue (blocks_due nodes c) ls →
    (bs : List HoseBlock) × (length bs ≡ c) × All (λ b. IsTrue (is_shaped_hose_block nodes b)) bs × (ls ≡ flat_map hose_block_lines bs)
of_block_lines nodes zero [] al is = ([], refl, All-nil (λ b. IsTrue (is_shaped_hose_block nodes b)), refl)
of_block_lines nodes zero (l ∷ ls) al is = absurd is
of_block_lines nodes (suc c) [] al is = absurd is
of_block_lines nodes (suc c) (l ∷ []) al is = absurd is.2
of_block_lines nodes (suc c) (l ∷ t ∷ []) al is = absurd is.2.2
of_block_lines nodes (suc c) (l ∷ t ∷ h ∷ ls) al is =
    let rest = of_block_lines nodes c ls al.1.1.1 is.2.2.2 in
    let b : HoseBlock = record { link = slice_index l.numbers 0; tails = t.numbers; heads = h.numbers } in
    let shaped : is_shaped_hose_block nodes b ≡ true =
    and_from (is_word b.link && is_row_of nodes t.numbers) (is_row_of nodes h.numbers)
    (and_from (is_word b.link) (is_row_of nodes t.numbers) (word_of_single l.numbers is.1 al.0.numbers) (row_from nodes t.numbers is.2.1 al.1.0.numbers))
    (row_from nodes h.numbers is.2.2.1 al.1.1.0.numbers) in (
      b ∷ rest.0,
      ap suc rest.1,
      All-cons (λ b. IsTrue (is_shaped_hose_block nodes b)) b rest.0 shaped rest.2,
      λ i. line_is l (codes "link") (b.link ∷ []) is.0 (single l.numbers is.1) i ∷ line_is t (codes "tails") t.numbers is.2.0 refl i
          ∷ line_is h (codes "heads") h.numbers is.2.2.0 refl i ∷ rest.3 i,
    )

of_cert_lines : (nodes : ℕ) (ls : List NumLine) → AreLines ls → AreDue (hose_cert_due nodes) ls → (c : HoseCert) × IsShapedCert nodes c × (ls ≡ hose_cert_lines c)
of_cert_lines nodes [] al is = absurd is
of_cert_lines nodes (s ∷ []) al is = absurd is.2
of_cert_lines nodes (s ∷ r ∷ []) al is = absurd is.2.2
of_cert_lines nodes (s ∷ r ∷ u ∷ []) al is = absurd is.2.2.2
of_cert_lines nodes (s ∷ r ∷ u ∷ k ∷ ls) al is =
    let count = is.2.2.2.1 in
    let parts = and_true (has_count 1 k.numbers) (nat_le (slice_index k.numbers 0) FORMAT_2.links) count in
    let rest = of_block_lines nodes (slice_index k.numbers 0) ls al.1.1.1.1 is.2.2.2.2 in
    let c : HoseCert = record { hose = record { sent = s.numbers; received = r.numbers }; bound = slice_index u.numbers 0; blocks = rest.0 } in (
      c,
      record {
        hose = and_from (is_row_of nodes s.numbers) (is_row_of nodes r.numbers) (row_from nodes s.numbers is.1 al.0.numbers) (row_from nodes r.numbers is.2.1 al.1.0.numbers);
        bound = word_of_single u.numbers is.2.2.1 al.1.1.0.numbers;
        count = let few = leb-true _ _ parts.1 in let same = rest.1 in omega (arith, few, same);
        blocks = rest.2;
      },
      λ i. line_is s (codes "sent") s.numbers is.0 refl i ∷ line_is r (codes "received") r.numbers is.2.0 refl i
          ∷ line_is u (codes "bound") (c.bound ∷ []) is.2.2.0 (single u.numbers is.2.2.1) i
          ∷ line_is k (codes "blocks") (length rest.0 ∷ []) is.2.2.2.0 (single k.numbers parts.0 ∙ ap (λ n. n ∷ []) (sym rest.1)) i ∷ rest.3 i,
    )

-- ---- each that was begun can be ended

zeros_count : (n : ℕ) → has_count n (replicate n 0) ≡ true
zeros_count n = eq-eqb _ _ (length-replicate n 0)

hose_can : (nodes : ℕ) (next : Due) → CanEnd next → CanEnd (hose_then nodes next)
hose_can nodes next can = (
  (replicate nodes 0, record { begun = refl; numbers = zero_words nodes }, zeros_count nodes),
  λ ns is. ((replicate nodes 0, record { begun = refl; numbers = zero_words nodes }, zeros_count nodes), λ ms it. can),
)

blocks_can : (nodes c : ℕ) → CanEnd (blocks_due nodes c)
blocks_can nodes zero = tt
blocks_can nodes (suc c) = (
  (0 ∷ [], record { begun = refl; numbers = zero_words 1 }, refl),
  λ ns is. (
    (replicate nodes 0, record { begun = refl; numbers = zero_words nodes }, zeros_count nodes),
    λ ts it. ((replicate nodes 0, record { begun = refl; numbers = zero_words nodes }, zeros_count nodes), λ hs ih. blocks_can nodes c),
  ),
)

bound_can : (nodes : ℕ) → CanEnd (bound_then_blocks nodes)
bound_can nodes = (
  (0 ∷ [], record { begun = refl; numbers = zero_words 1 }, refl),
  λ ns is. ((0 ∷ [], record { begun = refl; numbers = zero_words 1 }, refl), λ ms im. blocks_can nodes (slice_index ms 0)),
)

pub files_have_forms : FilesHaveForms
files_have_forms = record {
  hoses = hoses_are;
  certs = certs_are;
  of_hoses = λ nodes ls file. of_hose_lines nodes ls file.0 file.1;
  of_certs = λ nodes ls file. of_cert_lines nodes ls file.0 file.1;
  hoses_end = λ nodes. hose_can nodes Due.done tt;
  certs_end = λ nodes. hose_can nodes (bound_then_blocks nodes) (bound_can nodes);
}
