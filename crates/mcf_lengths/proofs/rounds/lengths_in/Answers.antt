use Rattle.std.proofs.Common.{ℕ, List, [], ◌∷◌, ◌++◌, ap, sym, ◌∙◌}
use Rattle.std.proofs.lemmas.List.{map_push}
use Rattle.mcf_lengths.specs.declared.round.FlowRound.{FlowRound}
use Rattle.mcf_lengths.proofs.rounds.lengths_in.Goals as goal

pub loop-round-preserved : goal.loop-round-preserved
loop-round-preserved c =
    c.in_ok-push.ensures.items
    ∙ (ap (λ (l : List (List ℕ)). l ++ c.in-Some.round.lengths ∷ []) c.loop-round.invariant
    ∙ sym (map_push (λ (r : FlowRound). r.lengths) c.loop-round.yielded c.in-Some.round))
