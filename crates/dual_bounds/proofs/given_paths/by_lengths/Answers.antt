use Rattle.std.proofs.Common.{ℕ, List, length, slice_index, ◌∙◌, ap, subst}
use Rattle.te_model.specs.declared.route.PairRoutes.{PairRoutes}
use Rattle.dual_bounds.specs.Dual.{IsBoundBy}
use Rattle.dual_bounds.specs.GivenPaths.{AreShortest}
use Rattle.dual_bounds.proofs.PathBounds.{bound_of, has_low}
use Rattle.dual_bounds.proofs.given_paths.by_lengths.Goals as goal

pub returns-clause-lengths : goal.returns-clause-lengths
returns-clause-lengths c = c.bracket_by.ensures.lengths ∙ c.in_ok-lengths.ensures.items

pub returns-clause-bound : goal.returns-clause-bound
returns-clause-bound c =
    let net = c.args.net.now in
    let lengths = c.args.lengths.now in
    let distances = c.in_ok-distances.distances.items in
    let b = c.bracket_by.result in
    let count = c.in_ok-distances.ensures.count ∙ ap (λ (r : List PairRoutes). length r) c.as_slice.ensures in
    let are = subst (λ (r : List PairRoutes). AreShortest r lengths (slice_index distances)) c.as_slice.ensures c.in_ok-distances.ensures.distances in
    let bound =
    subst (λ (d : List ℕ). IsBoundBy net (length distances) d c.args.most (slice_index distances) b) c.as_slice-demand.ensures
    (subst (λ (d : List ℕ). IsBoundBy net (length d) c.as_slice-demand.result.now c.args.most (slice_index d) b) c.deref.ensures.value c.bracket_by.ensures.bound)
    in
    bound_of net c.args.fixed.now.routes c.args.matrix.now.demand distances lengths c.args.most b count are
    (c.bracket_by.ensures.lengths ∙ c.in_ok-lengths.ensures.items) bound

pub returns-clause-low : goal.returns-clause-low
returns-clause-low c =
    has_low c.args.net.now c.args.fixed.now.routes c.args.matrix.now.demand c.args.most c.bracket_by.result c.requires.network c.requires.fixed
    c.requires.pairs c.requires.demands (returns-clause-bound c)
