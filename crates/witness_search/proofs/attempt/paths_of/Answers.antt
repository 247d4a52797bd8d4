use Rattle.std.proofs.Common.{List, [], ◌∷◌, ◌++◌, ap, sym, ◌∙◌}
use Rattle.std.proofs.lemmas.List.{map_push}
use Rattle.te_model.specs.declared.route.PairRoutes.{PairRoutes}
use Rattle.te_model.specs.declared.route.PathShare.{PathShare}
use Rattle.witness_search.proofs.attempt.paths_of.Goals as goal

pub loop-route-preserved : goal.loop-route-preserved
loop-route-preserved c =
    c.in_ok-push.ensures.items
    ∙ (ap (λ (l : List (List PathShare)). l ++ c.in-Some.route.paths ∷ []) c.loop-route.invariant
    ∙ sym (map_push (λ (r : PairRoutes). r.paths) c.loop-route.yielded c.in-Some.route))
