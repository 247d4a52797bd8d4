use Rattle.std.proofs.Common.{◌≡◌, List, length, map, arith, ap, ◌∙◌}
use Rattle.std.proofs.lemmas.List.{take_all}
use Rattle.te_model.specs.declared.route.Pair.{Pair}
use Rattle.te_model.specs.declared.route.PairRoutes.{PairRoutes}
use Rattle.te_model.specs.declared.route.PathShare.{PathShare}
use Rattle.series_simulation.specs.OriginalLinks.{original_path}
use Rattle.te_model.proofs.Choices.{mapped_more}
use Rattle.series_simulation.proofs.original_links.original_pair.Goals as goal

pub loop-path-preserved : goal.loop-path-preserved
loop-path-preserved c =
    let f = original_path c.args.origin.now in
    mapped_more f c.args.routes.now.paths c.as_slice-path-items.result.now c.loop-path.path-index c.path-item.result _ c.loop-path.paths.items _
    c.as_slice-path-items.ensures c.loop-path-test.true c.loop-path.invariant c.in_ok-push.ensures.items
    (c.in_ok-original_path.ensures ∙ ap f c.path-item.is)

abbrev routes_of : Pair → List PathShare → PairRoutes
routes_of pair paths = record { pair = pair; paths = paths }

pub returns : goal.returns
returns c =
    let routes = c.args.routes.now in
    let f = original_path c.args.origin.now in
    let whole : c.new.result ≡ map f routes.paths =
    c.new.ensures ∙ (c.loop-path.invariant ∙ ap (map f) (take_all c.loop-path.path-index routes.paths
    (omega (arith, c.loop-path-test.false, ap (λ (ps : List PathShare). length ps) c.as_slice-path-items.ensures))))
    in
    ap (routes_of routes.pair) whole
