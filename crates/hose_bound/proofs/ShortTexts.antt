-- The text of a valid hose certificate is short.
use Rattle.std.proofs.Common.{◌≡◌, ℕ, ◌*◌, ◌^◌, ◌<◌, ◌≤◌, List, [], ◌∷◌, length, map, nat_lt, arith, refl}
use Rattle.std.specs.Prelude.{All, IsTrue, codes, slice_index}
use Rattle.std.specs.List.{flat_map}
use Rattle.std.proofs.lemmas.Bool.{ltb-true}
use Rattle.std.proofs.lemmas.List.Elements.{All-cons, All-from_get_or, All-get_or, All-head, All-nil, All-tail}
use Rattle.te_model.specs.Network.{node_count, link_count}
use Rattle.te_model.specs.Shape.{is_row_of, is_word}
use Rattle.te_model.specs.Validity.{follows}
use Rattle.te_model.proofs.Tests.{and_three, and_true}
use Rattle.te_model.proofs.WellFormed.{few_links, few_nodes}
use Rattle.text_size.proofs.Widths.{digit_count, length-lines, length-words, size, size-append, widest, widest_of_amount, widths, widths-le}
use Rattle.number_tables.specs.Table.{line_text, table_lines}
use Rattle.hose_bound.specs.declared.hose.HoseBlock.{HoseBlock}
use Rattle.hose_bound.specs.Answers.{HoseTextsAreShort}
use Rattle.hose_bound.specs.Files.{hose_block_lines, hose_cert_lines, is_shaped_hose_block}
use Rattle.hose_bound.specs.Judging.{IsSmallBlock}
use Rattle.hose_bound.specs.Rules.{hose_block_at, link_before_block, zero_hose_block}
use Rattle.hose_bound.proofs.Valid.{rules_hold, small_blocks, valid_amounts}
use Rattle.te_model.proofs.ValidHeads.{row_length}

-- the bytes of a number with what stands beside it
eight : widest 1000000 ≡ 8
unfolding digit_count
eight = refl

five : widest 1024 ≡ 5
unfolding digit_count
five = refl

twenty : widest 9999999999999999999 ≡ 20
unfolding digit_count
twenty = refl

-- a row of so many numbers, and one number
row_short : (n most : ℕ) (numbers : List ℕ) → length numbers ≤ n → most < 2 ^ 64 → ((i : ℕ) → slice_index numbers i ≤ most) → widths numbers ≤ n * widest most
row_short n most numbers few small each = widths-le n most numbers few small (All-from_get_or (λ x. x ≤ most) numbers 0 (λ i below. each i))

one_short : (most x : ℕ) → most < 2 ^ 64 → x ≤ most → widths (x ∷ []) ≤ widest most
one_short most x small le =
    let one = widths-le 1 most (x ∷ []) (omega arith) small (All-cons (λ y. y ≤ most) x [] le (All-nil (λ y. y ≤ most))) in
    omega (arith, one)

block_short : (b : HoseBlock) → b.link ≤ 1024 → length b.tails ≤ 128 → length b.heads ≤ 128 → IsSmallBlock b → size (map line_text (hose_block_lines b)) ≤ 2100
block_short b link tails heads small =
    let one = length-words (codes "link") (b.link ∷ []) in
    let two = length-words (codes "tails") b.tails in
    let three = length-words (codes "heads") b.heads in
    let first = one_short 1024 b.link (omega arith) link in
    let second = row_short 128 1000000 b.tails tails (omega arith) (λ i. small.tails i) in
    let third = row_short 128 1000000 b.heads heads (omega arith) (λ i. small.heads i) in
    let e = eight in
    let f = five in
    omega (arith, one, two, three, first, second, third, e, f)

blocks_short : (bs : List HoseBlock) → All (λ b. size (map line_text (hose_block_lines b)) ≤ 2100) bs → size (map line_text (flat_map hose_block_lines bs)) ≤ length bs * 2100
blocks_short [] each = omega arith
blocks_short (b ∷ bs) each =
    let here = All-head (λ b. size (map line_text (hose_block_lines b)) ≤ 2100) b bs each in
    let rest = blocks_short bs (All-tail (λ b. size (map line_text (hose_block_lines b)) ≤ 2100) b bs each) in
    omega (arith, here, rest)

pub hose_texts_are_short : HoseTextsAreShort
hose_texts_are_short net c formed valid =
    let nodes = few_nodes net formed in
    let links = few_links net formed in
    let rules = rules_hold net c valid.no_fault in
    let amounts = valid_amounts net c valid in
    let both = and_true (is_row_of (node_count net) c.hose.sent) (is_row_of (node_count net) c.hose.received) valid.shaped.hose in
    let sent_count = row_length (node_count net) c.hose.sent both.0 in
    let received_count = row_length (node_count net) c.hose.received both.1 in
    let sent = row_short 128 (2 ^ 32) c.hose.sent (omega (arith, nodes, sent_count)) (omega arith) (λ i. amounts.sent i) in
    let received = row_short 128 (2 ^ 32) c.hose.received (omega (arith, nodes, received_count)) (omega arith) (λ i. amounts.received i) in
    let limit = ltb-true _ _ rules.bound in
    let bound = one_short 9999999999999999999 c.bound (omega arith) (omega (arith, limit)) in
    let few = valid.shaped.count in
    let count = one_short 1024 (length c.blocks) (omega arith) (omega (arith, few)) in
    let small = small_blocks net c valid in
    let blocks = blocks_short c.blocks (All-from_get_or (λ b. size (map line_text (hose_block_lines b)) ≤ 2100) c.blocks (zero_hose_block 0) (λ k below.
    let at = and_true (nat_lt (hose_block_at c.blocks k).link (link_count net)) (follows (link_before_block c.blocks k) (hose_block_at c.blocks k).link) (rules.links k below) in
    let link = ltb-true _ _ at.0 in
    let shaped = All-get_or (λ b. IsTrue (is_shaped_hose_block (node_count net) b)) c.blocks k (zero_hose_block 0) below valid.shaped.blocks in
    let b = hose_block_at c.blocks k in
    let three = and_three (is_word b.link) (is_row_of (node_count net) b.tails) (is_row_of (node_count net) b.heads) shaped in
    let tails = row_length (node_count net) b.tails three.1 in
    let heads = row_length (node_count net) b.heads three.2 in
    block_short b (omega (arith, link, links)) (omega (arith, tails, nodes)) (omega (arith, heads, nodes)) (All-get_or IsSmallBlock c.blocks k (zero_hose_block 0) below small))) in
    let whole = length-lines (table_lines (codes "yates-hose 1") (hose_cert_lines c)) in
    let lines = size-append (map line_text (hose_cert_lines c)) (codes "end" ∷ []) in
    let s = length-words (codes "sent") c.hose.sent in
    let r = length-words (codes "received") c.hose.received in
    let u = length-words (codes "bound") (c.bound ∷ []) in
    let n = length-words (codes "blocks") (length c.blocks ∷ []) in
    let e = widest_of_amount in
    let f = five in
    let t = twenty in
    omega (arith, few, sent, received, bound, count, blocks, whole, lines, s, r, u, n, e, f, t)
