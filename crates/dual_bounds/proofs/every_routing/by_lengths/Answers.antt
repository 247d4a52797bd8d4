use Rattle.std.proofs.Common.{ℕ, ◌<◌, List, length, slice_index, sym, ◌∙◌, subst}
use Rattle.std.specs.Prelude.{All}
use Rattle.te_model.specs.declared.certificate.Row.{Row}
use Rattle.te_model.specs.declared.route.PairRoutes.{PairRoutes}
use Rattle.te_model.specs.Network.{node_count}
use Rattle.shortest_path.specs.Pairs.{AreValues}
use Rattle.dual_bounds.specs.Dual.{IsBoundBy}
use Rattle.dual_bounds.specs.Rows.{distance_by, sources_of, AreSourceRows}
use Rattle.dual_bounds.proofs.SourceRows.{sources_inside}
use Rattle.dual_bounds.proofs.RoutingBounds.{keeps_rows, bound_of, has_low}
use Rattle.dual_bounds.proofs.every_routing.by_lengths.Goals as goal

pub rows_of-requires-clause-nodes : goal.rows_of-requires-clause-nodes
rows_of-requires-clause-nodes c =
    let net = c.args.net.now in
    subst (λ (nodes : List ℕ). All (λ i. i < node_count net) nodes) (sym c.requires.sources) (sources_inside net c.args.routing.now.routes)

pub returns-clause-lengths : goal.returns-clause-lengths
returns-clause-lengths c = c.bracket_by.ensures.lengths ∙ c.in_ok-lengths.ensures.items

pub returns-clause-rows : goal.returns-clause-rows
returns-clause-rows c =
    let net = c.args.net.now in
    let sources = sources_of net c.args.routing.now.routes in
    let kept = subst (λ (nodes : List ℕ). AreSourceRows net c.args.lengths.now nodes c.in_ok-rows.rows.items) c.requires.sources c.in_ok-rows.ensures in
    subst (λ (l : List ℕ). AreSourceRows net l sources c.bracket_by.result.rows) (sym (c.bracket_by.ensures.lengths ∙ c.in_ok-lengths.ensures.items))
    (subst (λ (rs : List Row). AreSourceRows net c.args.lengths.now sources rs) (sym c.bracket_by.ensures.rows) kept)

pub returns-clause-bound : goal.returns-clause-bound
returns-clause-bound c =
    let net = c.args.net.now in
    let routes = c.args.routing.now.routes in
    let lengths = c.args.lengths.now in
    let rows = c.in_ok-rows.rows.items in
    let distances = c.in_ok-distances.distances.items in
    let b = c.bracket_by.result in
    let kept = subst (λ (nodes : List ℕ). AreSourceRows net lengths nodes rows) c.requires.sources c.in_ok-rows.ensures in
    let values =
    subst (λ (rs : List Row). AreValues (length routes) (distance_by rs routes) distances) c.deref.ensures.value
    (subst (λ (r : List PairRoutes). AreValues (length r) (distance_by c.deref.result.now r) distances) c.as_slice-routes.ensures c.in_ok-distances.ensures)
    in
    let bound =
    subst (λ (d : List ℕ). IsBoundBy net (length distances) d c.args.most (slice_index distances) b) c.as_slice-demand.ensures
    (subst (λ (d : List ℕ). IsBoundBy net (length d) c.as_slice-demand.result.now c.args.most (slice_index d) b) c.deref-2.ensures.value c.bracket_by.ensures.bound)
    in
    bound_of net routes c.args.matrix.now.demand distances lengths rows c.args.most b c.requires.routing c.requires.nodes kept values
    (c.bracket_by.ensures.lengths ∙ c.in_ok-lengths.ensures.items) bound

pub returns-clause-low : goal.returns-clause-low
returns-clause-low c =
    let net = c.args.net.now in
    let routes = c.args.routing.now.routes in
    let rows = c.in_ok-rows.rows.items in
    let b = c.bracket_by.result in
    let same = c.bracket_by.ensures.lengths ∙ c.in_ok-lengths.ensures.items in
    let kept = subst (λ (nodes : List ℕ). AreSourceRows net c.args.lengths.now nodes rows) c.requires.sources c.in_ok-rows.ensures in
    let kept_by =
    subst (λ (l : List ℕ). keeps_rows net routes l b.rows) (sym same)
    (subst (λ (rs : List Row). keeps_rows net routes c.args.lengths.now rs) (sym c.bracket_by.ensures.rows) kept)
    in
    has_low net routes c.args.matrix.now.demand c.args.most b c.requires.network c.requires.routing c.requires.nodes c.requires.pairs c.requires.demands
    kept_by (returns-clause-bound c)
