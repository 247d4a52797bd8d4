use Rattle.std.proofs.Common.{ℕ, ◌∙◌, ap, sym, ◌++◌, ◌∷◌, [], List, map}
use Rattle.std.proofs.lemmas.List.{map_push}
use Rattle.te_model.specs.declared.route.Path.{Path}
use Rattle.te_model.specs.declared.route.PathShare.{PathShare}
use Rattle.routing.specs.Even.{of_weight_one}
use Rattle.routing.proofs.even.of_weight_one.Goals as goal

pub loop-path-preserved : goal.loop-path-preserved
loop-path-preserved c =
    let paths = c.loop-path.yielded in
    let path = c.in-Some.path in
    c.in_ok-push.ensures.items
    ∙ (ap (λ (l : List PathShare). l ++ (record { links = path.links; weight = 1 }) ∷ []) c.loop-path.invariant
    ∙ sym (ap of_weight_one (map_push (λ (p : Path). p.links) paths path)
    ∙ map_push (λ (links : List ℕ). record { links = links; weight = 1 }) (map (λ (p : Path). p.links) paths) path.links))
