-- A valid certificate with one block more.
use Rattle.std.proofs.Common.{◌≡◌, ℕ, zero, suc, ◌+◌, ◌<◌, ◌≤◌, true, List, [], ◌∷◌, ◌++◌, length, length-append, arith, refl, ap, ◌∙◌, inl, inr, nat_lt}
use Rattle.std.specs.Prelude.{All}
use Rattle.std.proofs.Math.Seq.{get_or-append_seam}
use Rattle.std.proofs.lemmas.Bool.{cases_lt, lt-ltb}
use Rattle.std.proofs.lemmas.Bool.Decides.{nat_tests}
use Rattle.std.proofs.lemmas.List.{get_or_append_left}
use Rattle.std.proofs.lemmas.List.Elements.{All-append, All-cons, All-nil}
use Rattle.te_model.specs.declared.certificate.Block.{Block}
use Rattle.te_model.specs.declared.certificate.Head.{Head}
use Rattle.te_model.specs.Certificate.{empty_block}
use Rattle.te_model.specs.Formats.{limits_of}
use Rattle.te_model.specs.Network.{link_count}
use Rattle.te_model.specs.Shape.{is_shaped_head}
use Rattle.te_model.specs.Validity.{AscendByLink, IsValid, IsValidBlock, block_at}
use Rattle.te_model.proofs.ValidParts.{valid_parts}

ascend_more : (blocks : List Block) (b : Block) (next : ℕ) → AscendByLink blocks → All (λ x. x.link < next) blocks → next ≤ b.link →
    AscendByLink (blocks ++ b ∷ [])
ascend_more blocks b next ascend before above zero below = refl
ascend_more blocks b next ascend before above (suc k) below =
    elim (cases_lt (suc k) (length blocks)) [
      | inl lt ↦
          let here = get_or_append_left blocks (b ∷ []) (empty_block 0) (suc k) lt in
          let last = get_or_append_left blocks (b ∷ []) (empty_block 0) k (omega (arith, lt)) in
          ap (λ x. nat_lt x.link (block_at (blocks ++ b ∷ []) (suc k)).link) last
          ∙ ap (λ x. nat_lt (block_at blocks k).link x.link) here
          ∙ ascend (suc k) lt
      | inr ge ↦
          let whole = length-append blocks (b ∷ []) in
          let end : suc k ≡ length blocks = omega (arith, below, ge, whole) in
          let here = ap (block_at (blocks ++ b ∷ [])) end ∙ get_or-append_seam blocks b [] (empty_block 0) in
          let last = get_or_append_left blocks (b ∷ []) (empty_block 0) k (omega (arith, end)) in
          let lower = before k (empty_block 0) (omega (arith, end)) in
          ap (λ x. nat_lt x.link (block_at (blocks ++ b ∷ []) (suc k)).link) last
          ∙ ap (λ x. nat_lt (block_at blocks k).link x.link) here
          ∙ lt-ltb (block_at blocks k).link b.link (omega (arith, lower, above))
    ]

pub link_is_there : (head : Head) (b : Block) → IsValidBlock head b → b.link < link_count head.network
link_is_there head b valid = let numbers = valid.numbers in grind (arith, nat_tests)

links_within : (head : Head) → is_shaped_head (limits_of head.format) head ≡ true → link_count head.network ≤ (limits_of head.format).links
links_within head shaped = grind (arith, nat_tests)

pub count_more : (blocks : List Block) (b : Block) (next : ℕ) → length blocks ≤ next → next ≤ b.link → length (blocks ++ b ∷ []) ≤ b.link + 1
count_more blocks b next few above = omega (arith, length-append blocks (b ∷ []), few, above)

pub before_more : (blocks : List Block) (b : Block) (next : ℕ) → All (λ x. x.link < next) blocks → next ≤ b.link →
    All (λ x. x.link < b.link + 1) (blocks ++ b ∷ [])
before_more blocks b next before above =
    All-append (λ x. x.link < b.link + 1) blocks (b ∷ []) (λ k d within. let lower = before k d within in omega (arith, lower, above))
    (All-cons (λ x. x.link < b.link + 1) b [] (omega arith) (All-nil (λ x. x.link < b.link + 1)))

pub valid_more : (head : Head) (blocks : List Block) (b : Block) (next : ℕ) → IsValid (record { head = head; blocks = blocks }) →
    IsValidBlock head b → All (λ x. x.link < next) blocks → length blocks ≤ next → next ≤ b.link →
    IsValid (record { head = head; blocks = blocks ++ b ∷ [] })
valid_more head blocks b next valid sound before few above =
    let parts = (valid_parts (record { head = head; blocks = blocks })).0 valid in
    (valid_parts (record { head = head; blocks = blocks ++ b ∷ [] })).1 (record {
      head = parts.head;
      count = omega (arith, count_more blocks b next few above, link_is_there head b sound, links_within head parts.head.shaped);
      blocks = All-append (IsValidBlock head) blocks (b ∷ []) parts.blocks (All-cons (IsValidBlock head) b [] sound (All-nil (IsValidBlock head)));
      ascending = ascend_more blocks b next parts.ascending before above;
    })
