use Rattle.std.proofs.Common.{◌≡◌, true, length, replicate, arith, ap, sym, ◌∙◌, subst, ◌<◌}
use Rattle.std.proofs.lemmas.List.{length-map}
use Rattle.shortest_path.specs.declared.rows.Direction.TheVariants.{Forward}
use Rattle.shortest_path.specs.Graph.{AreSettledDistances}
use Rattle.shortest_path.specs.Links.{every_link}
use Rattle.shortest_path.specs.Passes.{IsRoom}
use Rattle.shortest_path.specs.Rows.{IsSearchGraph, arcs_of, graph_of, AreArcRows}
use Rattle.shortest_path.proofs.Building.{graph_of_rows}
use Rattle.shortest_path.proofs.Orders.{orders_set}
use Rattle.shortest_path.proofs.LeastSums.{all_open, distances_of_settled}
use Rattle.shortest_path.proofs.Walks.{AllOpen}
use Rattle.te_model.specs.Network.{link_count}
use Rattle.shortest_path.proofs.searches.Searches.distances.Goals as goal

pub returns-clause-distances : goal.returns-clause-distances
returns-clause-distances c =
    let net = c.args.net.now in
    let lengths = c.args.lengths.now in
    let marks = c.as_slice-open.result.now in
    let arcs = c.self.inside.arcs in
    let rows = arcs.rows.items in
    let distances = c.search.new.distances in
    let is : IsSearchGraph net Forward (record { direction = arcs.direction; rows = rows; links = length c.self.inside.every.items }) =
    subst (IsSearchGraph net Forward) (sym c.self.view_is) c.requires.along
    in
    let every : marks ≡ every_link net = c.as_slice-open.ensures.value ∙ (c.self.invariant.0 ∙ ap (λ n. replicate n true) is.links) in
    let open_all : AllOpen net marks = subst (AllOpen net) (sym every) (all_open net) in
    let settled : AreSettledDistances (graph_of net lengths marks Forward rows) c.args.src distances =
    subst (λ d. AreSettledDistances (graph_of net lengths marks d rows) c.args.src distances) is.direction c.search.ensures.distances
    in
    let size = length-map rows (arcs_of net lengths marks Forward) in
    distances_of_settled net lengths marks (graph_of net lengths marks Forward rows) c.args.src distances open_all
    (graph_of_rows net lengths marks Forward rows is.rows) settled (omega (arith, size, is.rows.count, c.requires.room))

pub search-requires-clause-rows : goal.search-requires-clause-rows
search-requires-clause-rows c =
    let net = c.args.net.now in
    let arcs = c.self.inside.arcs in
    let is : IsSearchGraph net Forward (record { direction = arcs.direction; rows = arcs.rows.items; links = length c.self.inside.every.items }) =
    subst (IsSearchGraph net Forward) (sym c.self.view_is) c.requires.along
    in
    subst (λ d. AreArcRows net d (link_count net) arcs.rows.items) (sym is.direction) is.rows

pub search-requires-clause-order : goal.search-requires-clause-order
search-requires-clause-order c =
    let is = subst (IsSearchGraph c.args.net.now Forward) (sym c.self.view_is) c.requires.along in
    let orders = c.self.inside.orders in
    let order = c.index_mut-order.result.now in
    let inside : c.min-place.result < length orders.items = omega (arith, c.min-place.ensures, c.len.ensures, orders.ok.0, c.self.invariant.1) in
    c.index_mut-order.ensures.value ∙ (c.self.invariant.2 c.min-place.result order inside ∙ is.rows.count)

pub search-requires-clause-room : goal.search-requires-clause-room
search-requires-clause-room c =
    let is = subst (IsSearchGraph c.args.net.now Forward) (sym c.self.view_is) c.requires.along in
    subst (λ n. IsRoom n c.self.inside.room) is.rows.count c.self.invariant.3

pub invariant_of-self : goal.invariant_of-self
invariant_of-self c =
    let is = subst (IsSearchGraph c.args.net.now Forward) (sym c.self.view_is) c.requires.along in
    let inside : c.min-place.result < length c.self.inside.orders.items = omega (arith, c.min-place.ensures, c.len.ensures, c.self.inside.orders.ok.0, c.self.invariant.1) in
    let same = c.search.ensures.order ∙ (c.index_mut-order.ensures.value ∙ c.self.invariant.2 c.min-place.result c.index_mut-order.result.now inside) in
    let (some, each) = orders_set c.self.inside.orders.items c.min-place.result c.search.new.order _ c.self.invariant.1 c.self.invariant.2 inside same in
    (c.self.invariant.0, some, each, subst (λ n. IsRoom n c.search.new.room) (sym is.rows.count) c.search.ensures.room)
