use Rattle.std.proofs.Common.{◌≡◌, true, List, length, map, arith, ap, sym, ◌∙◌, subst}
use Rattle.te_model.specs.declared.network.Network.{Network}
use Rattle.te_model.specs.declared.route.PairRoutes.{PairRoutes}
use Rattle.te_model.proofs.Lists.{written_whole}
use Rattle.te_model.specs.declared.route.Pair.{Pair}
use Rattle.te_model.specs.Network.{link_count}
use Rattle.te_model.specs.PathRouting.{IsPathRouting}
use Rattle.routing.specs.Routes.{AreDemands, AreLoads, IsRoutingOf}
use Rattle.routing.specs.Split.{are_splits}
use Rattle.routing.proofs.InOrder.{same_count}
use Rattle.routing.proofs.Splits.{splits_of}
use Rattle.local_search.specs.Moves.{IsStable}
use Rattle.local_search.specs.Pairs.{ArePairsOnLinks}
use Rattle.local_search.specs.Settling.{SettledSoFar}
use Rattle.local_search.proofs.Settled.{settled_back, settled_few}
use Rattle.local_search.proofs.settling.local_optimum.Goals as goal

-- routings of the same pairs
same_pairs : (net : Network) (pairs : List Pair) (routes others own theirs : List PairRoutes) → own ≡ routes → theirs ≡ others →
    IsRoutingOf net pairs routes → IsRoutingOf net pairs others → map (λ r. r.pair) theirs ≡ map (λ r. r.pair) own
same_pairs net pairs routes others own theirs one two first second =
    ap (λ (l : List PairRoutes). map (λ r. r.pair) l) two ∙ (second.in_order ∙ sym first.in_order) ∙ ap (λ (l : List PairRoutes). map (λ r. r.pair) l) (sym one)

pub new-requires-clause-routes : goal.new-requires-clause-routes
new-requires-clause-routes c = subst (IsPathRouting c.args.net.now) (sym c.as_slice.ensures) c.requires.routings.1.splits

pub new-requires-clause-others : goal.new-requires-clause-others
new-requires-clause-others c = subst (IsPathRouting c.args.net.now) (sym c.as_slice-others.ensures) c.requires.routings.2.splits

pub new-requires-clause-pairs : goal.new-requires-clause-pairs
new-requires-clause-pairs c =
    same_count c.as_slice-others.result.now c.as_slice.result.now
    (same_pairs c.args.net.now c.requires.routings.0 c.args.routing.routes c.args.candidates.now.routes c.as_slice.result.now c.as_slice-others.result.now
    c.as_slice.ensures c.as_slice-others.ensures c.requires.routings.1 c.requires.routings.2)

pub new-requires-clause-few : goal.new-requires-clause-few
new-requires-clause-few c = omega (arith, ap (λ (l : List PairRoutes). length l) c.as_slice.ensures, c.requires.few)

pub make_moves-requires-clause-network : goal.make_moves-requires-clause-network
make_moves-requires-clause-network c = c.requires.network

-- the moves start from the routes of the routing
first : (c : goal.After-deref_mut-2) → c.deref_mut.result.now ≡ c.args.routing.routes
first c = c.deref_mut.ensures.value ∙ c.into_vec-routes.ensures

pub make_moves-requires-clause-few : goal.make_moves-requires-clause-few
make_moves-requires-clause-few c = omega (arith, ap (λ (l : List PairRoutes). length l) (first c), c.requires.few)

pub make_moves-requires-clause-demands : goal.make_moves-requires-clause-demands
make_moves-requires-clause-demands c =
    subst (λ (l : List PairRoutes). AreDemands (length l) c.args.matrix.now.demand) (sym (first c)) c.requires.demands

pub make_moves-requires-clause-routing : goal.make_moves-requires-clause-routing
make_moves-requires-clause-routing c = subst (IsPathRouting c.args.net.now) (sym (first c)) c.requires.routings.1.splits

pub make_moves-requires-clause-others : goal.make_moves-requires-clause-others
make_moves-requires-clause-others c = subst (IsPathRouting c.args.net.now) (sym c.as_slice-others.ensures) c.requires.routings.2.splits

pub make_moves-requires-clause-pairs : goal.make_moves-requires-clause-pairs
make_moves-requires-clause-pairs c =
    same_pairs c.args.net.now c.requires.routings.0 c.args.routing.routes c.args.candidates.now.routes c.deref_mut.result.now c.as_slice-others.result.now
    (first c) c.as_slice-others.ensures c.requires.routings.1 c.requires.routings.2

pub make_moves-requires-clause-holders : goal.make_moves-requires-clause-holders
make_moves-requires-clause-holders c =
    subst (λ (l : List PairRoutes). ArePairsOnLinks (link_count c.args.net.now) l c.as_slice-others.result.now c.in_ok-holders.holders)
    (c.as_slice.ensures ∙ sym (first c)) c.in_ok-holders.ensures

pub make_moves-requires-clause-loads : goal.make_moves-requires-clause-loads
make_moves-requires-clause-loads c =
    subst (λ (l : List PairRoutes). AreLoads c.args.net.now c.args.matrix.now.demand l c.deref_mut-2.result.now) (sym (first c))
    (subst (AreLoads c.args.net.now c.args.matrix.now.demand c.args.routing.routes) (sym c.deref_mut-2.ensures.value) c.in_ok-loads.ensures.loads)

pub invariant_of-result : goal.invariant_of-result
invariant_of-result c =
    let routes = c.into_vec-routes.result in
    let new = c.make_moves.new.routes in
    let back = c.new-2.ensures ∙ written_whole routes.len new routes.items (c.make_moves.auto.routes ∙ ap length c.deref_mut.ensures.value) routes.ok.0 in
    record {
      splits = subst (λ (l : List PairRoutes). are_splits l ≡ true) (sym back)
          (splits_of c.args.net.now new c.in_ok-make_moves.ensures.settled.routing);
    }

-- the routes that come back are those that the moves left
back : (c : goal.After-drop-loads-2) → c.new-2.result ≡ c.make_moves.new.routes
back c =
    let routes = c.into_vec-routes.result in
    c.new-2.ensures ∙ written_whole routes.len c.make_moves.new.routes routes.items (c.make_moves.auto.routes ∙ ap length c.deref_mut.ensures.value) routes.ok.0

settled : (c : goal.After-drop-loads-2) → SettledSoFar c.args.net.now c.args.matrix.now.demand c.args.routing.routes c.args.candidates.now.routes c.new-2.result c.make_moves.new.loads
settled c =
    settled_back c.args.net.now c.args.matrix.now.demand c.args.routing.routes c.deref_mut.result.now c.args.candidates.now.routes c.as_slice-others.result.now
    c.new-2.result c.make_moves.new.routes c.make_moves.new.loads
    (c.deref_mut.ensures.value ∙ c.into_vec-routes.ensures) c.as_slice-others.ensures (back c) c.in_ok-make_moves.ensures.settled

pub returns-clause-routing : goal.returns-clause-routing
returns-clause-routing c = λ pairs own.
    let so = settled c in
    record { in_order = so.pairs ∙ own.in_order; splits = so.routing }

pub returns-clause-stable : goal.returns-clause-stable
returns-clause-stable c =
    subst (IsStable c.args.net.now c.args.matrix.now.demand c.args.candidates.now.routes) (sym (back c))
    (subst (λ (l : List PairRoutes). IsStable c.args.net.now c.args.matrix.now.demand l c.make_moves.new.routes) c.as_slice-others.ensures
    c.in_ok-make_moves.ensures.stable)

pub returns-clause-parts : goal.returns-clause-parts
returns-clause-parts c = (settled c).lower

pub returns-clause-only : goal.returns-clause-only
returns-clause-only c = (settled c).only

pub returns-clause-few : goal.returns-clause-few
returns-clause-few c = λ limit together.
    let so = settled c in
    settled_few c.args.net.now c.args.routing.routes c.args.candidates.now.routes c.new-2.result limit together so.routing so.pairs so.only
