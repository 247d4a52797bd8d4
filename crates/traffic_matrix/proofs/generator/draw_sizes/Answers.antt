use Rattle.std.proofs.Common.{ℕ, ◌≡◌, ◌≤◌, ◌+◌, ◌%◌, ◌∙◌, sym, ap, [], arith}
use Rattle.std.proofs.lemmas.List.Elements.{All-append, All-cons}
use Rattle.std.proofs.lemmas.List.FromFn.{map-range_with_len_more}
use Rattle.random_words.proofs.Moving.{moved_once, word_moved}
use Rattle.traffic_matrix.specs.Gravity.{size_at}
use Rattle.traffic_matrix.proofs.generator.draw_sizes.Goals as goal

pub loop-node-preserved : goal.loop-node-preserved
loop-node-preserved c =
    let i = c.loop-node.invariant in
    let from = c.args.rng.now in
    let k = c.loop-node._node in
    let drawn : 1 + c.from.result ≡ size_at from k =
    ap (λ (x : ℕ). 1 + x) (c.from.ensures ∙ ap (λ (x : ℕ). x % 100) (c.draw.ensures.word ∙ word_moved from c.loop-node.rng k i.rng)) in
    let low : 1 + c.from.result ≤ 100 = omega (arith, c.from.ensures) in
    record {
      rng = c.draw.ensures.state ∙ moved_once from c.loop-node.rng k i.rng;
      sizes = c.in_ok-push.ensures.items ∙ rw (i.sizes, drawn) (sym (map-range_with_len_more (size_at from) 0 k k (omega arith)));
      small = rw c.in_ok-push.ensures.items (All-append (λ (s : ℕ). s ≤ 100) _ _ i.small (All-cons (λ (s : ℕ). s ≤ 100) (1 + c.from.result) [] low (λ j d l. absurd (omega arith))));
    }
