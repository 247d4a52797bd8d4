use Rattle.std.proofs.Common.{List, ◌≡◌, ◌<◌, ◌++◌, length, arith, ap, sym, subst, ◌∙◌}
use Rattle.std.specs.List.{flat_map}
use Rattle.std.proofs.lemmas.List.{get_or_read}
use Rattle.te_model.specs.declared.route.PairRoutes.{PairRoutes}
use Rattle.te_model.specs.Network.{node_count}
use Rattle.te_model.specs.Pairs.{IsNodePair}
use Rattle.te_model.specs.Path.{no_routes, routes_at}
use Rattle.cert_text.proofs.PrintLemmas.{one_more}
use Rattle.te_model.proofs.Lists.{all_put}
use Rattle.step_detail.specs.Paths.{path_lines_of}
use Rattle.step_detail.proofs.Pairs.{pair_of_nodes}
use Rattle.step_detail.proofs.weighted_path.print_paths.Goals as goal

pub print_pair_paths-requires : goal.print_pair_paths-requires
print_pair_paths-requires c =
    let rates = c.args.step.now.rates.routes in
    let p = c.loop-routes.routes-index in
    let inside : p < length rates = omega (arith, c.loop-routes-test.true, ap (λ (l : List PairRoutes). length l) c.as_slice-routes-items.ensures) in
    let routes : c.routes-item.result ≡ routes_at rates p =
    get_or_read c.as_slice-routes-items.result.now p c.routes-item.result c.loop-routes-test.true c.routes-item.is no_routes
    ∙ ap (λ (rs : List PairRoutes). routes_at rs p) c.as_slice-routes-items.ensures
    in
    subst (λ (r : PairRoutes). IsNodePair (node_count c.args.net.now) r.pair) (sym routes) (pair_of_nodes c.args.net.now rates p c.requires.rates inside)

pub loop-routes-preserved : goal.loop-routes-preserved
loop-routes-preserved c =
    one_more (path_lines_of c.args.net.now c.args.word.now) c.args.text.now.items c.loop-routes.text.items c.print_pair_paths.new.text.items
    c.as_slice-routes-items.result.now c.loop-routes.routes-index c.routes-item.result c.loop-routes-test.true c.routes-item.is c.loop-routes.invariant
    c.in_ok-print_pair_paths.ensures

pub returns : goal.returns
returns c =
    let f = path_lines_of c.args.net.now c.args.word.now in
    all_put f c.args.text.now.items c.loop-routes.text.items c.as_slice-routes-items.result.now c.loop-routes.routes-index c.loop-routes-test.false c.loop-routes.invariant
    ∙ ap (λ (rs : List PairRoutes). c.args.text.now.items ++ flat_map f rs) c.as_slice-routes-items.ensures
