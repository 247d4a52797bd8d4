use Rattle.std.proofs.Common.{ℕ, ◌+◌, ◌*◌, ◌∙◌, ap, ◌++◌, arith}
use Rattle.std.specs.List.{flat_map, range_with_len}
use Rattle.rand_chacha.specs.ChaCha.{ChaCha}
use Rattle.random_network.specs.Drawn.{ring_links}
use Rattle.random_network.proofs.Drawing.{drawn_links, links_more, moved}
use Rattle.random_network.proofs.links.add_ring.Goals as goal

pub loop-i-preserved : goal.loop-i-preserved
loop-i-preserved c =
    let i = c.loop-i.invariant in
    let n = c.args.nodes in
    let k = c.loop-i.i in
    let added = c.in_ok-add_both_ways.ensures in
    record {
      place = ap (λ (r : ChaCha). r.word_pos) added.state ∙ omega (arith, i.place);
      rng = λ seed from. moved seed (2 * k) 2 (2 * (k + 1)) c.loop-i.rng c.add_both_ways.new.rng (i.rng seed from) added.state (omega arith);
      links = λ seed from.
          links_more (ring_links n seed) c.args.links.now.items c.loop-i.links.items c.add_both_ways.new.links.items _ k (i.links seed from) added.links
          (drawn_links seed (2 * k) k _ c.loop-i.rng (i.rng seed from));
    }

pub returns-clause-ring : goal.returns-clause-ring
returns-clause-ring c seed from =
    let n = c.args.nodes in
    c.loop-i.invariant.links seed from
    ∙ ap (λ (m : ℕ). c.args.links.now.items ++ flat_map (ring_links n seed) (range_with_len 0 m)) (let past = c.loop-i-test.false in omega (arith, c.loop-i.auto.i-end))
