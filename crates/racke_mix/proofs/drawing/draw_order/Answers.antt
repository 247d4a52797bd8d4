use Rattle.std.proofs.Common.{map, ap, ◌∙◌}
use Rattle.racke_mix.specs.declared.drawing.DrawnNode.{DrawnNode}
use Rattle.random_words.specs.Words.{word_on}
use Rattle.racke_mix.proofs.Ordering.{order_of_drawn}
use Rattle.racke_mix.proofs.drawing.draw_order.Goals as goal

pub returns-clause-order : goal.returns-clause-order
returns-clause-order c =
    order_of_drawn (word_on c.args.rng.now) c.args.nodes c.in_ok-drawn.drawn.items c.sort.new.self.items c.in_ok-order.order.items
    c.in_ok-drawn.ensures.drawn c.sort.ensures.permutation c.in_ok-sort.ensures.sorted
    (c.in_ok-order.ensures ∙ ap (map (λ (d : DrawnNode). d.node)) c.deref.ensures.value)
