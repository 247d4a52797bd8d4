use Rattle.std.proofs.Common.{rules, filter, sym, subst, ◌≡◌, List, ◌∙◌, ap}
use Rattle.std.specs.Prelude.{IsTrue}
use Rattle.std.proofs.lemmas.Fn.{filter_same}
use Rattle.te_model.specs.declared.route.PairRoutes.{PairRoutes}
use Rattle.routing.specs.Split.{are_splits}
use Rattle.series_simulation.specs.StandingPaths.{has_some_path}
use Rattle.series_simulation.proofs.standing_paths.standing_routing.Goals as goal

pub invariant_of-result : goal.invariant_of-result
invariant_of-result c =
    let same : c.new.result ≡ filter has_some_path c.args.left =
    c.new.ensures ∙ (filter_same _ _ _ (λ x b f' k. search rules) _ _ c.retain.ensures.filtered ∙ ap (filter has_some_path) c.into_vec-routes.ensures)
    in
    record { splits = subst (λ (rs : List PairRoutes). IsTrue (are_splits rs)) (sym same) c.requires }

pub returns : goal.returns
returns c = c.new.ensures ∙ (filter_same _ _ _ (λ x b f' k. search rules) _ _ c.retain.ensures.filtered ∙ ap (filter has_some_path) c.into_vec-routes.ensures)
