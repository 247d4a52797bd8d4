use Rattle.std.proofs.Common.{ℕ, ◌≡◌, ◌∙◌, sym, ap, arith}
use Rattle.std.proofs.lemmas.List.FromFn.{map-range_with_len_more}
use Rattle.racke_mix.specs.declared.drawing.DrawnNode.{DrawnNode}
use Rattle.racke_mix.specs.Draws.{drawn_node}
use Rattle.rand_chacha.specs.ChaCha.{word_at}
use Rattle.random_words.specs.Words.{word_on}
use Rattle.random_words.proofs.Moving.{moved_once, word_moved}
use Rattle.racke_mix.proofs.drawing.draw_nodes.Goals as goal

pub loop-node-preserved : goal.loop-node-preserved
loop-node-preserved c =
    let i = c.loop-node.invariant in
    let from = c.args.rng.now in
    let k = c.loop-node.node in
    let at = c.loop-node.rng in
    let next : word_on at 0 ≡ word_on from k = ap (λ (p : ℕ). word_at 4 at.key at.stream p) (omega arith) ∙ word_moved from at k i.rng in
    let drawn = c.draw_node.ensures.drawn ∙ ap (λ (w : ℕ). let d : DrawnNode = record { word = w; node = k } in d) next in
    record {
      rng = c.draw_node.ensures.state ∙ moved_once from at k i.rng;
      drawn = c.in_ok-push.ensures.items ∙ rw (i.drawn, drawn) (sym (map-range_with_len_more (drawn_node from) 0 k k (omega arith)));
    }
