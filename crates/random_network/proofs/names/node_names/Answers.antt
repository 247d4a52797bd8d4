use Rattle.std.proofs.Common.{ℕ, ◌∙◌, ◌++◌, sym, arith}
use Rattle.std.specs.Prelude.{codes, decimal}
use Rattle.std.proofs.lemmas.List.FromFn.{map-range_with_len_more}
use Rattle.random_network.proofs.names.node_names.Goals as goal

pub loop-node-preserved : goal.loop-node-preserved
loop-node-preserved c =
    let k = c.loop-node.node-counter in
    c.in_ok-push.ensures.items
    ∙ rw (c.new.ensures, c.in_ok-format.ensures.ok, c.loop-node.invariant) (sym (map-range_with_len_more (λ (i : ℕ). codes "n" ++ decimal i) 0 k k (omega arith)))
