use Rattle.std.proofs.Common.{◌≡◌, ℕ, List, [], ◌∷◌, ◌++◌, length, ap, ◌∙◌, append_assoc}
use Rattle.std.specs.Prelude.{codes}
use Rattle.std.specs.List.{flat_map}
use Rattle.te_model.specs.declared.certificate.Block.{Block}
use Rattle.cert_text.specs.Grammar.{has_bounds}
use Rattle.cert_text.specs.Pieces.{format_text, head_text, counted_text, block_text}
use Rattle.cert_text.proofs.printing.whole.Goals as goal

group : (old t h n b e : List ℕ) → ((((old ++ t) ++ h) ++ n) ++ b) ++ e ≡ old ++ ((t ++ (h ++ n)) ++ (b ++ e))
group old t h n b e = simp append_assoc

pub returns : goal.returns
returns c =
    let cert = c.args.cert.now in
    let old = c.args.out.now.items in
    let head = head_text cert.head in
    let count = counted_text (codes "blocks ") (length cert.blocks) in
    let blocks = flat_map (block_text (has_bounds cert.head.set)) cert.blocks in
    let bounded : flat_map (block_text c.is_bounded-bounded.result) cert.blocks ≡ blocks = ap (λ m. flat_map (block_text m) cert.blocks) c.is_bounded-bounded.ensures in
    c.in_ok-extend_from_slice.ensures.items
    ∙ ap (λ (o : List ℕ). o ++ (codes "end" ++ 10 ∷ []))
    (c.in_ok-all_blocks.ensures ∙ ap (λ (bs : List Block). c.counted.new.out.items ++ flat_map (block_text c.is_bounded-bounded.result) bs) c.as_slice-2.ensures ∙ ap (λ (b : List ℕ). c.counted.new.out.items ++ b) bounded
    ∙ ap (λ (o : List ℕ). o ++ blocks)
    (c.in_ok-counted.ensures ∙ ap (λ (bs : List Block). c.head_lines.new.out.items ++ counted_text (codes "blocks ") (length bs)) c.as_slice.ensures ∙ ap (λ (o : List ℕ). o ++ count)
    (c.in_ok-head_lines.ensures ∙ ap (λ (o : List ℕ). o ++ head) c.in_ok-first_line.ensures)))
    ∙ group old (format_text cert.head.format) head count blocks (codes "end" ++ 10 ∷ [])
