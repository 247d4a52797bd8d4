use Rattle.random_network.proofs.Drawing.{both_added}
use Rattle.random_network.proofs.links.add_both_ways.Goals as goal

pub returns-clause-links : goal.returns-clause-links
returns-clause-links c =
    both_added c.args.i c.args.j c.draw.result c.draw-2.result c.from.result c.args.rng.now c.draw.new.rng c.args.links.now.items _ _ c.link.result c.link-2.result
    c.draw.ensures.word c.draw-2.ensures.word c.draw.ensures.state c.from.ensures c.link.ensures c.link-2.ensures c.in_ok-push.ensures.items
    c.in_ok-push-2.ensures.items
