use Rattle.std.proofs.Common.{◌≡◌, ℕ, ◌<◌, List, [], ◌∷◌, ◌++◌, true, length, map, get_or, arith, ap, sym, ◌∙◌, subst, All, ◌≤◌}
use Rattle.std.proofs.lemmas.List.{get_or-map, get_or_default, length-map}
use Rattle.std.proofs.lemmas.List.Elements.{All-weaker}
use Rattle.te_model.specs.declared.route.Pair.{Pair}
use Rattle.te_model.specs.declared.route.PairRoutes.{PairRoutes}
use Rattle.te_model.specs.declared.route.PathShare.{PathShare}
use Rattle.te_model.specs.Path.{is_path, no_routes, routes_at}
use Rattle.routing.specs.Merge.{HasLinks, IsMerge}
use Rattle.routing.specs.Normal.{with_whole_weight}
use Rattle.routing.specs.Split.{total_weight}
use Rattle.routing.proofs.Splits.{splits_of}
use Rattle.scheme.specs.Fixed.{IsRoutingBy}
use Rattle.scheme.proofs.Plans.{routes_done, routes_more}
use Rattle.rate_sweeps.specs.declared.mix.Sweep.{Sweep}
use Rattle.rate_sweeps.specs.Sweeps.{ArePathsOfPairs, IsWeight, links_in, paths_in, paths_of_pair}
use Rattle.rate_sweeps.proofs.Mixing.{few_count, mixed_few, mixed_links, mixed_split, part_is, parts_count, pushed_only, way_is}
use Rattle.rate_sweeps.proofs.mix.routing_by.Goals as goal
use Rattle.rate_sweeps.proofs.mix.routing_by.Goals.{After-new-2}

pub normalize-requires-clause-whole : goal.normalize-requires-clause-whole
normalize-requires-clause-whole c =
    let parts = c.in_ok-parts.parts.items in
    let count = parts_count c.args.sweeps.now c.loop-p.p parts c.in_ok-parts.ensures.paths in
    omega (arith, ap total_weight c.deref.ensures.value, few_count parts (omega (arith, count, c.requires.few)) c.in_ok-parts.ensures.weights)

pub loop-p-preserved : goal.loop-p-preserved
loop-p-preserved c =
    let net = c.args.net.now in
    let sweeps = c.args.sweeps.now in
    let like = c.args.like.now.routes in
    let pairs = map (λ (r : PairRoutes). r.pair) like in
    let p = c.loop-p.p in
    let parts = c.in_ok-parts.parts.items in
    let merged = c.in_ok-merged.merged.items in
    let pair = (get_or c.as_slice-list.result.now p c.index-list-p.result).pair in
    let route : PairRoutes = record { pair = pair; paths = c.new.result } in
    let below : p < length like = omega (arith, c.loop-p-test.true, ap (λ (l : List PairRoutes). length l) c.as_slice-list.ensures) in
    let inside : p < length pairs = omega (arith, below, length-map like (λ (r : PairRoutes). r.pair)) in
    let own : pair ≡ (routes_at like p).pair =
    ap (λ (r : PairRoutes). r.pair) (get_or_default c.as_slice-list.result.now p c.index-list-p.result no_routes c.loop-p-test.true)
    ∙ ap (λ (l : List PairRoutes). (routes_at l p).pair) c.as_slice-list.ensures
    in
    let at : pair ≡ get_or pairs p no_routes.pair = own ∙ sym (get_or-map (λ (r : PairRoutes). r.pair) like p no_routes no_routes.pair below) in
    let so : IsMerge (with_whole_weight parts) merged =
    subst (λ (l : List PathShare). IsMerge l merged) (c.in_ok-shares.ensures.parts ∙ ap with_whole_weight c.deref.ensures.value) c.in_ok-merged.ensures
    in
    let count : length parts ≡ length sweeps = parts_count sweeps p parts c.in_ok-parts.ensures.paths in
    let split = mixed_split net pair parts merged (omega (arith, count, c.requires.some)) (omega (arith, count, c.requires.few)) c.in_ok-parts.ensures.weights
    (λ links has. subst (λ (q : Pair). is_path net q.src q.dst links ≡ true) (sym own)
    (way_is net like sweeps p links below c.requires.paths (part_is sweeps p parts links c.in_ok-parts.ensures.paths has))) so
    in
    let routes = c.loop-p.routes.items in
    let pushed : c.push.new.self.items ≡ routes ++ route ∷ [] = c.in_ok-push.ensures.items in
    rw pushed (
      routes_more (λ net pair paths. Unit {0}) (length sweeps) net pairs p routes route c.loop-p.invariant.0 inside at
          (record { split = rw c.new.ensures split; few = rw c.new.ensures (omega (arith, mixed_few parts merged so, count)); by_rule = tt }),
      pushed_only (λ q links. (j : ℕ) × (j < length sweeps) × (get_or (paths_of_pair sweeps q) j [] ≡ links)) routes route p c.loop-p.invariant.0.count c.loop-p.invariant.1
          (λ links has. part_is sweeps p parts links c.in_ok-parts.ensures.paths (mixed_links parts merged links so (rw c.new.ensures at has))),
    )

every : (c : After-new-2) → c.loop-p.p ≡ length (map (λ (r : PairRoutes). r.pair) c.args.like.now.routes)
every c =
    omega (arith, c.loop-p-test.false, c.loop-p.auto.p-end, ap (λ (l : List PairRoutes). length l) c.as_slice-list.ensures, length-map c.args.like.now.routes (λ (r : PairRoutes). r.pair))

made : (c : After-new-2) → IsRoutingBy (λ net pair paths. Unit {0}) (length c.args.sweeps.now) c.args.net.now (map (λ (r : PairRoutes). r.pair) c.args.like.now.routes) c.new-2.result
made c =
    rw c.new-2.ensures (routes_done (λ net pair paths. Unit {0}) (length c.args.sweeps.now) c.args.net.now (map (λ (r : PairRoutes). r.pair) c.args.like.now.routes) c.loop-p.p
    c.loop-p.routes.items c.loop-p.invariant.0 (every c))

pub invariant_of-result : goal.invariant_of-result
invariant_of-result c = record { splits = splits_of c.args.net.now c.new-2.result (made c).routing.splits }

pub returns-clause-routing : goal.returns-clause-routing
returns-clause-routing c = λ pairs of.
    let is = made (goal.at.returns-clause-routing c).After-new-2 in
    record { in_order = is.routing.in_order ∙ of.in_order; splits = is.routing.splits }

pub returns-clause-few : goal.returns-clause-few
returns-clause-few c = (made (goal.at.returns-clause-few c).After-new-2).few

pub returns-clause-only : goal.returns-clause-only
returns-clause-only c = λ p links below has.
    c.loop-p.invariant.1 p links (omega (arith, below, ap (λ (l : List PairRoutes). length l) c.new-2.ensures, c.loop-p.invariant.0.count))
    (subst (λ (l : List PairRoutes). HasLinks (routes_at l p).paths links) c.new-2.ensures has)

pub parts_of_pair-requires-clause-paths : goal.parts_of_pair-requires-clause-paths
parts_of_pair-requires-clause-paths c =
    let like = c.args.like.now.routes in
    let p = c.loop-p.p in
    let below : p < length like = omega (arith, c.loop-p-test.true, ap (λ (l : List PairRoutes). length l) c.as_slice-list.ensures) in
    All-weaker (λ (s : Sweep). ArePathsOfPairs c.args.net.now like (paths_in s)) (λ (s : Sweep). p < length s.paths)
    (λ s of. omega (arith, of.count, length-map s.paths links_in, below)) c.args.sweeps.now c.requires.paths

pub normalize-requires-clause-some : goal.normalize-requires-clause-some
normalize-requires-clause-some c =
    let count = parts_count c.args.sweeps.now c.loop-p.p c.in_ok-parts.parts.items c.in_ok-parts.ensures.paths in
    omega (arith, ap (λ (l : List PathShare). length l) c.deref.ensures.value, count, c.requires.some)

pub normalize-requires-clause-count : goal.normalize-requires-clause-count
normalize-requires-clause-count c =
    let count = parts_count c.args.sweeps.now c.loop-p.p c.in_ok-parts.parts.items c.in_ok-parts.ensures.paths in
    omega (arith, ap (λ (l : List PathShare). length l) c.deref.ensures.value, count, c.requires.few)

pub normalize-requires-clause-weights : goal.normalize-requires-clause-weights
normalize-requires-clause-weights c =
    subst (All (λ (s : PathShare). 1 ≤ s.weight)) (sym c.deref.ensures.value)
    (All-weaker (λ (s : PathShare). IsWeight s.weight) (λ (s : PathShare). 1 ≤ s.weight) (λ s is. is.0) c.in_ok-parts.parts.items c.in_ok-parts.ensures.weights)
