use Rattle.std.proofs.Common.{◌≡◌, ℕ, ◌≤◌, ◌^◌, List, All, length, arith, sym, subst}
use Rattle.te_model.specs.Network.{link_count}
use Rattle.routing.specs.Routes.{AreDemands, IsRoutingOf}
use Rattle.routing.proofs.InOrder.{routes_count}
use Rattle.mcf_lengths.proofs.Balancing.{few_together, pairs_join_nodes}
use Rattle.mcf_lengths.proofs.flow.McfScheme.route.Goals as goal

pub bracket-requires-clause-routing : goal.bracket-requires-clause-routing
bracket-requires-clause-routing c =
    let (pairs, is, demands) = c.requires.plan in
    let settled : IsRoutingOf c.args.net.now pairs c.in_ok-routing.routing.routes =
    c.in_ok-routing.ensures.routing pairs (c.in_ok-start.ensures.routing pairs is)
    in
    settled.splits

pub bracket-requires-clause-nodes : goal.bracket-requires-clause-nodes
bracket-requires-clause-nodes c =
    let (pairs, is, demands) = c.requires.plan in
    let start = c.in_ok-start.ensures.routing pairs is in
    pairs_join_nodes c.args.net.now pairs c.in_ok-routing.routing.routes is.ends (c.in_ok-routing.ensures.routing pairs start)

pub bracket-requires-clause-pairs : goal.bracket-requires-clause-pairs
bracket-requires-clause-pairs c =
    let (pairs, is, demands) = c.requires.plan in
    let start = c.in_ok-start.ensures.routing pairs is in
    let settled = c.in_ok-routing.ensures.routing pairs start in
    omega (arith, routes_count pairs c.in_ok-routing.routing.routes settled.in_order, is.ends.few)

pub bracket-requires-clause-demands : goal.bracket-requires-clause-demands
bracket-requires-clause-demands c =
    let (pairs, is, demands) = c.requires.plan in
    let start = c.in_ok-start.ensures.routing pairs is in
    let count = routes_count pairs c.in_ok-routing.routing.routes (c.in_ok-routing.ensures.routing pairs start).in_order in
    subst (λ n. AreDemands n c.args.matrix.now.demand) (sym count) demands

pub bracket-requires-clause-lengths : goal.bracket-requires-clause-lengths
bracket-requires-clause-lengths c =
    subst (All (λ (l : List ℕ). length l ≡ link_count c.args.net.now)) (sym {A = List (List ℕ)} c.deref.ensures.value) c.in_ok-start.ensures.count

pub bracket-requires-clause-limit : goal.bracket-requires-clause-limit
bracket-requires-clause-limit c =
    subst (All (λ (l : List ℕ). All (λ (x : ℕ). x ≤ 2 ^ 28) l)) (sym {A = List (List ℕ)} c.deref.ensures.value) c.in_ok-start.ensures.limit

pub returns-clause-routing : goal.returns-clause-routing
returns-clause-routing c = λ pairs is. c.in_ok-routing.ensures.routing pairs
    (c.in_ok-start.ensures.routing pairs is)

pub returns-clause-few : goal.returns-clause-few
returns-clause-few c =
    let (pairs, is, demands) = c.requires.plan in
    let start = c.in_ok-start.ensures.routing pairs is in
    c.in_ok-routing.ensures.few 32
    (few_together c.args.net.now pairs 28 4 c.in_ok-start.start.routes c.args.plan.now.candidates.routes start c.in_ok-start.ensures.few is.candidates)

pub returns-clause-related : goal.returns-clause-related
returns-clause-related c = λ pairs is.
    let (rounds, are, no_greater) = c.in_ok-start.ensures.no_greater pairs is in
    record {
      stable = c.in_ok-routing.ensures.stable;
      start = rounds;
      start_is = are;
      no_greater = omega (arith, c.in_ok-routing.ensures.parts, no_greater);
      bracket = c.in_ok-note.ensures.sound;
      lower = c.in_ok-note.ensures.lower;
    }
