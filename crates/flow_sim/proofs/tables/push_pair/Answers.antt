use Rattle.std.proofs.Common.{ℕ, List, [], ◌∷◌, ◌++◌, replicate, append_assoc, ap, ◌∙◌}
use Rattle.std.proofs.lemmas.List.{replicate_more}
use Rattle.flow_sim.proofs.tables.push_pair.Goals as goal

pub loop-i-preserved : goal.loop-i-preserved
loop-i-preserved c =
    let before = c.args.pairs.now.items in
    let pair = c.args.pair in
    let i = c.loop-i._i in
    c.in_ok-push.ensures.items
    ∙ (ap (λ (l : List ℕ). l ++ pair ∷ []) c.loop-i.invariant
    ∙ (append_assoc before (replicate i pair) (pair ∷ []) ∙ ap (λ (l : List ℕ). before ++ l) (replicate_more i pair)))
