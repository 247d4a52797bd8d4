use Rattle.std.proofs.Common.{◌+◌, ◌*◌, ◌∙◌, refl, ap, arith}
use Rattle.rand_chacha.specs.ChaCha.{ChaCha}
use Rattle.random_network.specs.Drawn.{chord_links}
use Rattle.random_network.proofs.Drawing.{chord_of, chords_are, links_more, moved, next_word}
use Rattle.random_network.proofs.links.add_chords.Goals as goal

pub loop-i-preserved : goal.loop-i-preserved
loop-i-preserved c =
    let i = c.loop-i.invariant in
    let n = c.args.nodes in
    let k = c.loop-i.i in
    let first = 2 * n + 3 * k in
    let added = c.in_ok-add_both_ways.ensures in
    let drawn = c.draw.ensures in
    record {
      place = ap (λ (r : ChaCha). r.word_pos) added.state ∙ (ap (λ (r : ChaCha). r.word_pos + 2) drawn.state ∙ omega (arith, i.place));
      rng = λ seed from.
          let at = moved seed first 1 (first + 1) c.loop-i.rng c.draw.new.rng (i.rng seed from) drawn.state refl in
          moved seed (first + 1) 2 (2 * n + 3 * (k + 1)) c.draw.new.rng c.add_both_ways.new.rng at added.state (omega arith);
      links = λ seed from.
          let at = moved seed first 1 (first + 1) c.loop-i.rng c.draw.new.rng (i.rng seed from) drawn.state refl in
          links_more (chord_links n seed) c.args.links.now.items c.loop-i.links.items c.add_both_ways.new.links.items _ k (i.links seed from) added.links
          (chord_of n seed k c.draw.result _ c.draw.new.rng (drawn.word ∙ next_word seed first c.loop-i.rng (i.rng seed from)) refl at);
    }

pub returns : goal.returns
returns c seed from =
    chords_are c.args.nodes seed c.loop-i.i c.args.links.now.items c.loop-i.links.items
    (let four = c.if-nodes-lt4.false in omega arith)
    (let past = c.loop-i-test.false in omega (arith, c.loop-i.auto.i-end))
    (c.loop-i.invariant.links seed from)
