use Rattle.std.proofs.Common.{◌≡◌, ◌<◌, List, length, map, min, get_or, ◌+◌, ◌*◌, ◌^◌, arith, ap, sym, ◌∙◌, subst, All, rules}
use Rattle.std.proofs.lemmas.List.{get_or_default, length-map}
use Rattle.std.proofs.lemmas.List.Elements.{All-get_or}
use Rattle.te_model.specs.declared.route.PairRoutes.{PairRoutes}
use Rattle.te_model.specs.declared.route.PathShare.{PathShare}
use Rattle.te_model.specs.Network.{link_count}
use Rattle.te_model.specs.Path.{no_routes, routes_at}
use Rattle.te_model.specs.PathRouting.{IsPathSplit}
use Rattle.te_model.proofs.LentRoutes.{lent_paths}
use Rattle.routing.specs.Merge.{HasLinks, links_at, no_path}
use Rattle.rate_sweeps.specs.Choices.{IsLeastAmong}
use Rattle.centred_steps.specs.Loads.{times_on}
use Rattle.rate_sweeps.specs.Sweeps.{AreAmong, HaveLinks, links_in}
use Rattle.rate_sweeps.proofs.Among.{ways_among}
use Rattle.rate_sweeps.proofs.CheapestLoads.{cheapest_more}
use Rattle.rate_sweeps.proofs.PathLinks.{lent_links, lent_some, split_on_links}
use Rattle.rate_sweeps.proofs.SweepLoads.{all_pairs}
use Rattle.rate_sweeps.proofs.paths.load_cheapest.Goals as goal

pub cheapest-place-requires-clause-some : goal.cheapest-place-requires-clause-some
cheapest-place-requires-clause-some c =
    let some =
    lent_some c.args.net.now c.args.routing.now.routes c.as_slice-routes.result.now c.loop-p.p c.index-routes-p.result c.as_slice-paths.result.now c.requires.routing
    c.as_slice-routes.ensures c.loop-p-test.true c.as_slice-paths.ensures
    in
    omega (arith, some)

pub cheapest-place-requires-clause-links : goal.cheapest-place-requires-clause-links
cheapest-place-requires-clause-links c =
    let routing = c.args.routing.now.routes in
    lent_links c.args.net.now routing c.as_slice-routes.result.now c.loop-p.p _ c.index-routes-p.result c.as_slice-paths.result.now c.requires.routing c.requires.lengths
    c.as_slice-routes.ensures c.loop-p-test.true c.as_slice-paths.ensures

pub add_on-requires-clause-links : goal.add_on-requires-clause-links
add_on-requires-clause-links c =
    let net = c.args.net.now in
    let routes = c.args.routing.now.routes in
    let p = c.loop-p.p in
    let paths = c.as_slice-paths.result.now in
    let place = c.cheapest-place.result in
    let below : p < length routes = omega (arith, c.loop-p-test.true, ap (λ (l : List PairRoutes). length l) c.as_slice-routes.ensures) in
    let own : paths ≡ (routes_at routes p).paths =
    lent_paths routes c.as_slice-routes.result.now p c.index-routes-p.result c.as_slice-paths.result.now c.as_slice-routes.ensures c.loop-p-test.true c.as_slice-paths.ensures
    in
    let links : links_at paths place ≡ c.as_slice.result.now =
    sym (c.as_slice.ensures ∙ ap (λ (s : PathShare). s.links) (get_or_default paths place c.index-paths-place.result no_path c.cheapest-place.ensures.inside))
    in
    let count : link_count net ≡ length c.loop-p.loads = omega (arith, c.loop-p.auto.loads, c.requires.count) in
    let split = All-get_or (IsPathSplit net) routes p no_routes below c.requires.routing in
    let all : HaveLinks (link_count net) paths = subst (HaveLinks (link_count net)) (sym own) (split_on_links net (routes_at routes p) split) in
    subst (λ m. All (λ h. h < m) c.as_slice.result.now) count
    (subst (All (λ h. h < link_count net)) links (All-get_or (λ (s : PathShare). All (λ h. h < link_count net) s.links) paths place no_path c.cheapest-place.ensures.inside all))

pub loop-p-preserved : goal.loop-p-preserved
loop-p-preserved c =
    let routes = c.args.routing.now.routes in
    let lengths = c.args.lengths.now in
    let demand = c.args.matrix.now.demand in
    let p = c.loop-p.p in
    let paths = c.as_slice-paths.result.now in
    let place = c.cheapest-place.result in
    let taken = c.as_slice.result.now in
    let own : paths ≡ (routes_at routes p).paths =
    lent_paths routes c.as_slice-routes.result.now p c.index-routes-p.result c.as_slice-paths.result.now c.as_slice-routes.ensures c.loop-p-test.true c.as_slice-paths.ensures
    in
    let links : links_at paths place ≡ taken =
    sym (c.as_slice.ensures ∙ ap (λ (s : PathShare). s.links) (get_or_default paths place c.index-paths-place.result no_path c.cheapest-place.ensures.inside))
    in
    let has : HasLinks (routes_at routes p).paths taken = subst (λ (l : List PathShare). HasLinks l taken) own (place, c.cheapest-place.ensures.inside, links) in
    let amount : c.from.result ≡ get_or demand p 0 = search rules in
    let least : IsLeastAmong lengths (routes_at routes p).paths taken =
    subst (λ (l : List PathShare). IsLeastAmong lengths l taken) own (subst (IsLeastAmong lengths paths) links (λ k below. c.cheapest-place.ensures.least.least k below))
    in (
      c.add_on.ensures.small,
      cheapest_more routes lengths demand p (length c.args.loads.now) c.loop-p.loads c.add_on.new.loads taken c.loop-p.invariant.1 has least
          (λ e below. c.add_on.ensures.added e (omega (arith, below, c.loop-p.auto.loads)) ∙ ap (λ x. min (2 ^ 66) (get_or c.loop-p.loads e 0 + x * times_on taken e)) amount),
    )

pub returns-clause-loads : goal.returns-clause-loads
returns-clause-loads c =
    let net = c.args.net.now in
    let routes = c.args.routing.now.routes in
    let so = c.loop-p.invariant.1 in
    let every : c.loop-p.p ≡ length routes = omega (arith, c.loop-p-test.false, c.loop-p.auto.p-end, ap (λ (l : List PairRoutes). length l) c.as_slice-routes.ensures) in
    let paths = map links_in so.list in
    let count : length paths ≡ length routes = omega (arith, length-map so.list links_in, so.count, every) in
    let among : AreAmong routes paths = λ p below. so.has p (omega (arith, below, every)) in (
      paths,
      ways_among net routes paths c.requires.routing count among,
      among,
      λ p below. so.least p (omega (arith, below, every)),
      all_pairs net c.args.matrix.now.demand paths c.loop-p.p c.loop-p.loads (omega (arith, c.loop-p.auto.loads, c.requires.count)) (omega (arith, every, count))
          (λ e below. so.sums e (omega (arith, below, c.loop-p.auto.loads))),
    )
