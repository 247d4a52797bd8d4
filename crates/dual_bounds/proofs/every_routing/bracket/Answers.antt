use Rattle.std.proofs.Common.{◌≡◌, ℕ, ◌≤◌, ◌^◌, List, [], ◌∷◌, All, length, take, arith, ap, sym, ◌∙◌, subst}
use Rattle.std.proofs.lemmas.List.{get_or_read}
use Rattle.std.proofs.lemmas.List.Elements.{All-get_or}
use Rattle.te_model.specs.declared.route.PairRoutes.{PairRoutes}
use Rattle.te_model.specs.Network.{link_count}
use Rattle.routing.specs.Utilisation.{parts}
use Rattle.dual_bounds.specs.Dual.{unit_lengths, IsBoundOf}
use Rattle.dual_bounds.specs.Rows.{sources_of, AreDistancesUnder}
use Rattle.dual_bounds.proofs.Choosing.{choice_first, choice_more, choice_best}
use Rattle.dual_bounds.proofs.RoutingBounds.{keeps_rows, pairs_unique, is_bracket, is_lower}
use Rattle.dual_bounds.proofs.every_routing.bracket.Goals as goal

pub by_lengths-requires-clause-sources : goal.by_lengths-requires-clause-sources
by_lengths-requires-clause-sources c =
    c.deref.ensures.value ∙ (c.in_ok-sources.ensures ∙ ap (λ (r : List PairRoutes). sources_of c.args.net.now r) c.as_slice.ensures)

pub by_lengths-requires-clause-lengths : goal.by_lengths-requires-clause-lengths
by_lengths-requires-clause-lengths c = ap (λ (l : List ℕ). length l) c.deref-2.ensures.value ∙ c.in_ok-unit.ensures.count

pub by_lengths-requires-clause-limit : goal.by_lengths-requires-clause-limit
by_lengths-requires-clause-limit c = subst (All (λ (x : ℕ). x ≤ 2 ^ 28)) (sym c.deref-2.ensures.value) c.in_ok-unit.ensures.limit

pub by_lengths-requires-in-loop-offered-clause-lengths : goal.by_lengths-requires-in-loop-offered-clause-lengths
by_lengths-requires-in-loop-offered-clause-lengths c =
    let offered = c.args.lengths.now in
    let i = c.loop-offered.offered-index in
    let is = c.as_slice-lengths.ensures ∙ get_or_read offered i c.offered-item.result c.loop-offered-test.true c.offered-item.is [] in
    ap (λ (l : List ℕ). length l) is
    ∙ All-get_or (λ (l : List ℕ). length l ≡ link_count c.args.net.now) offered i [] c.loop-offered-test.true c.requires.lengths

pub by_lengths-requires-in-loop-offered-clause-limit : goal.by_lengths-requires-in-loop-offered-clause-limit
by_lengths-requires-in-loop-offered-clause-limit c =
    let offered = c.args.lengths.now in
    let i = c.loop-offered.offered-index in
    let is = c.as_slice-lengths.ensures ∙ get_or_read offered i c.offered-item.result c.loop-offered-test.true c.offered-item.is [] in
    subst (All (λ (x : ℕ). x ≤ 2 ^ 28)) (sym is)
    (All-get_or (λ (l : List ℕ). All (λ (x : ℕ). x ≤ 2 ^ 28) l) offered i [] c.loop-offered-test.true c.requires.limit)

pub loop-offered-init : goal.loop-offered-init
loop-offered-init c =
    let net = c.args.net.now in
    let routes = c.args.routing.now.routes in
    let demand = c.args.matrix.now.demand in
    let b = c.in_ok-best.best in
    let unit : b.lengths ≡ unit_lengths net = c.in_ok-best.ensures.lengths ∙ (c.deref-2.ensures.value ∙ c.in_ok-unit.ensures.lengths) in
    choice_first net (length routes) demand (parts net routes demand) (AreDistancesUnder net routes) (keeps_rows net routes) b (pairs_unique net routes) unit
    (subst (λ most. IsBoundOf net (length routes) demand most (AreDistancesUnder net routes) b) c.in_ok-most.ensures c.in_ok-best.ensures.bound)
    c.in_ok-best.ensures.rows c.in_ok-best.ensures.low

pub loop-offered-preserved : goal.loop-offered-preserved
loop-offered-preserved c =
    let net = c.args.net.now in
    let routes = c.args.routing.now.routes in
    let demand = c.args.matrix.now.demand in
    let offered = c.args.lengths.now in
    let i = c.loop-offered.offered-index in
    let other = c.in_ok-other.other in
    let same =
    c.in_ok-other.ensures.lengths ∙ c.as_slice-lengths.ensures ∙ get_or_read offered i c.offered-item.result c.loop-offered-test.true c.offered-item.is []
    in
    choice_more net (length routes) demand (parts net routes demand) (AreDistancesUnder net routes) (keeps_rows net routes) offered i c.loop-offered.best other
    c.better-best.result (pairs_unique net routes) c.loop-offered-test.true same c.loop-offered.invariant
    (subst (λ most. IsBoundOf net (length routes) demand most (AreDistancesUnder net routes) other) c.in_ok-most.ensures c.in_ok-other.ensures.bound)
    c.in_ok-other.ensures.rows c.in_ok-other.ensures.low c.better-best.ensures

pub returns-clause-sound : goal.returns-clause-sound
returns-clause-sound c =
    is_bracket c.args.net.now c.args.routing.now.routes c.args.matrix.now.demand
    (unit_lengths c.args.net.now ∷ take c.loop-offered.offered-index c.args.lengths.now) c.loop-offered.best c.requires.network c.requires.routing
    c.requires.nodes c.loop-offered.invariant

pub returns-clause-lower : goal.returns-clause-lower
returns-clause-lower c =
    let net = c.args.net.now in
    let routes = c.args.routing.now.routes in
    let demand = c.args.matrix.now.demand in
    let choice = c.loop-offered.invariant in
    is_lower net routes demand (parts net routes demand) c.loop-offered.best c.requires.network c.requires.routing c.requires.nodes choice.rows_are
    choice.bound

pub returns-clause-best : goal.returns-clause-best
returns-clause-best c =
    let net = c.args.net.now in
    let routes = c.args.routing.now.routes in
    let demand = c.args.matrix.now.demand in
    choice_best net (length routes) demand (parts net routes demand) (AreDistancesUnder net routes) (keeps_rows net routes) c.args.lengths.now
    c.loop-offered.offered-index c.loop-offered.best (omega arith) c.loop-offered.invariant
