use Rattle.std.proofs.Common.{◌≡◌, ◌<◌, List, ◌∷◌, [], ◌++◌, length, map, arith, ap, sym, ◌∙◌, subst, rules}
use Rattle.std.proofs.lemmas.List.{get_or_default, length-map, length_push}
use Rattle.std.proofs.lemmas.List.Elements.{All-get_or}
use Rattle.te_model.specs.declared.route.PairRoutes.{PairRoutes}
use Rattle.te_model.specs.declared.route.Path.{Path}
use Rattle.te_model.specs.declared.route.PathShare.{PathShare}
use Rattle.te_model.specs.Network.{link_count}
use Rattle.te_model.specs.Path.{no_routes, routes_at}
use Rattle.te_model.specs.PathRouting.{IsPathSplit}
use Rattle.te_model.proofs.LentRoutes.{lent_paths}
use Rattle.routing.specs.Merge.{HasLinks, links_at, no_path}
use Rattle.rate_sweeps.specs.Choices.{IsLeastAmong}
use Rattle.rate_sweeps.specs.Sweeps.{HaveLinks, links_in}
use Rattle.rate_sweeps.proofs.Among.{each_more, ways_among}
use Rattle.rate_sweeps.proofs.PathLinks.{lent_links, lent_some}
use Rattle.rate_sweeps.proofs.paths.cheapest_paths.Goals as goal

pub cheapest-place-requires-clause-links : goal.cheapest-place-requires-clause-links
cheapest-place-requires-clause-links c =
    let routing = c.args.routing.now.routes in
    lent_links c.args.net.now routing c.as_slice-routes.result.now c.loop-p.p _ c.index-routes-p.result c.as_slice-paths.result.now c.requires.routing c.requires.lengths
    c.as_slice-routes.ensures c.loop-p-test.true c.as_slice-paths.ensures

pub loop-p-preserved : goal.loop-p-preserved
loop-p-preserved c =
    let routes = c.args.routing.now.routes in
    let lengths = c.args.lengths.now in
    let p = c.loop-p.p in
    let paths = c.as_slice-paths.result.now in
    let place = c.cheapest-place.result in
    let own : paths ≡ (routes_at routes p).paths =
    lent_paths routes c.as_slice-routes.result.now p c.index-routes-p.result c.as_slice-paths.result.now c.as_slice-routes.ensures c.loop-p-test.true c.as_slice-paths.ensures
    in
    let links : links_at paths place ≡ c.new.result =
    sym (c.new.ensures
    ∙ (c.in_ok-links.ensures.items
    ∙ (c.as_slice.ensures ∙ ap (λ (s : PathShare). s.links) (get_or_default paths place c.index-paths-place.result no_path c.cheapest-place.ensures.inside))))
    in
    let has : HasLinks (routes_at routes p).paths c.new.result = subst (λ (l : List PathShare). HasLinks l c.new.result) own (place, c.cheapest-place.ensures.inside, links) in
    let path : Path = record { links = c.new.result } in
    let list = c.loop-p.list.items in
    let pushed : c.push.new.self.items ≡ list ++ path ∷ [] = search rules in
    let least : IsLeastAmong lengths (routes_at routes p).paths c.new.result =
    subst (λ (l : List PathShare). IsLeastAmong lengths l c.new.result) own
    (subst (IsLeastAmong lengths paths) links (λ k below. c.cheapest-place.ensures.least.least k below))
    in
    rw pushed (
      omega (arith, length_push list path, c.loop-p.invariant.0),
      each_more (λ q links. HasLinks (routes_at routes q).paths links) list path p c.loop-p.invariant.0 c.loop-p.invariant.1 has,
      each_more (λ q links. IsLeastAmong lengths (routes_at routes q).paths links) list path p c.loop-p.invariant.0 c.loop-p.invariant.2 least,
    )

pub returns-clause-ways : goal.returns-clause-ways
returns-clause-ways c =
    let routes = c.args.routing.now.routes in
    let list = c.loop-p.list.items in
    let every : c.loop-p.p ≡ length routes =
    omega (arith, c.loop-p-test.false, c.loop-p.auto.p-end, ap (λ (l : List PairRoutes). length l) c.as_slice-routes.ensures)
    in
    ways_among c.args.net.now routes (map links_in list) c.requires.routing (length-map list links_in ∙ c.loop-p.invariant.0 ∙ every)
    (λ p below. c.loop-p.invariant.1 p (omega (arith, below, every)))

pub cheapest-place-requires-clause-some : goal.cheapest-place-requires-clause-some
cheapest-place-requires-clause-some c =
    let some =
    lent_some c.args.net.now c.args.routing.now.routes c.as_slice-routes.result.now c.loop-p.p c.index-routes-p.result c.as_slice-paths.result.now c.requires.routing
    c.as_slice-routes.ensures c.loop-p-test.true c.as_slice-paths.ensures
    in
    omega (arith, some)

pub returns-clause-among : goal.returns-clause-among
returns-clause-among c =
    let every : c.loop-p.p ≡ length c.args.routing.now.routes =
    omega (arith, c.loop-p-test.false, c.loop-p.auto.p-end, ap (λ (l : List PairRoutes). length l) c.as_slice-routes.ensures)
    in
    λ p below. c.loop-p.invariant.1 p (omega (arith, below, every))

pub returns-clause-cheapest : goal.returns-clause-cheapest
returns-clause-cheapest c =
    let every : c.loop-p.p ≡ length c.args.routing.now.routes =
    omega (arith, c.loop-p-test.false, c.loop-p.auto.p-end, ap (λ (l : List PairRoutes). length l) c.as_slice-routes.ensures)
    in
    λ p below. c.loop-p.invariant.2 p (omega (arith, below, every))
