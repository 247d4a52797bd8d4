use Rattle.std.proofs.Common.{◌≡◌, suc, ◌+◌, max, get_or, List, arith, ap, ◌∙◌, subst, sym}
use Rattle.te_model.specs.declared.network.Link.{Link}
use Rattle.te_model.specs.Network.{capacity_of, no_link}
use Rattle.te_model.specs.Counting.{greatest_below}
use Rattle.multiplicative_lengths.proofs.lengths.greatest_capacity.Goals as goal

pub loop-h-preserved : goal.loop-h-preserved
loop-h-preserved c =
    let net = c.args.net.now in
    let h = c.loop-h.h in
    let read : (get_or c.as_slice-links.result.now h no_link).capacity ≡ capacity_of net h =
    ap (λ (ls : List Link). (get_or ls h no_link).capacity) c.as_slice-links.ensures
    in
    let most : c.max-most.result ≡ max c.loop-h.most (get_or c.as_slice-links.result.now h no_link).capacity = grind (arith, c.max-most.ensures) in
    let next : h + 1 ≡ suc h = omega arith in
    subst (λ n. c.max-most.result ≡ greatest_below n (capacity_of net)) (sym next)
    (most ∙ (ap (λ x. max x (get_or c.as_slice-links.result.now h no_link).capacity) c.loop-h.invariant ∙ ap (λ x. max (greatest_below h (capacity_of net)) x) read))
