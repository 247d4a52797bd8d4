use Rattle.std.proofs.Common.{◌≡◌, ℕ, ◌+◌, ◌<◌, List, length, slice_index, ap, sym, ◌∙◌, subst}
use Rattle.std.specs.Prelude.{All}
use Rattle.std.proofs.lemmas.List.{get_or_default}
use Rattle.std.proofs.lemmas.List.Elements.{All-get_or}
use Rattle.te_model.specs.declared.route.PathShare.{PathShare}
use Rattle.te_model.specs.declared.route.PairRoutes.{PairRoutes}
use Rattle.te_model.specs.Path.{routes_at, no_routes}
use Rattle.te_model.specs.PathRouting.{IsPathSplit}
use Rattle.te_model.proofs.Choices.{pushed_count, pushed_each}
use Rattle.dual_bounds.specs.GivenPaths.{AreFewLinks, IsShortest}
use Rattle.dual_bounds.proofs.PathBounds.{split_few}
use Rattle.dual_bounds.proofs.given_paths.distances_along.Goals as goal

pub shortest-requires-clause-links : goal.shortest-requires-clause-links
shortest-requires-clause-links c =
    let net = c.args.net.now in
    let routes = c.args.routes.now in
    let p = c.loop-p.p in
    let below : p < length routes = c.loop-p-test.true in
    let paths = (routes_at routes p).paths in
    let few = split_few net (routes_at routes p) c.requires.network (All-get_or (IsPathSplit net) routes p no_routes below c.requires.routes) in
    let is = c.as_slice.ensures ∙ ap (λ (r : PairRoutes). r.paths) (get_or_default routes p c.index-routes-p.result no_routes below) in
    subst (λ (ps : List PathShare). All (λ s. AreFewLinks (length c.args.lengths.now) s.links) ps) (sym is)
    (subst (λ m. All (λ s. AreFewLinks m s.links) paths) (sym c.requires.lengths) few)

pub loop-p-preserved : goal.loop-p-preserved
loop-p-preserved c =
    let routes = c.args.routes.now in
    let lengths = c.args.lengths.now in
    let p = c.loop-p.p in
    let before = c.loop-p.distances.items in
    let is = c.as_slice.ensures ∙ ap (λ (r : PairRoutes). r.paths) (get_or_default routes p c.index-routes-p.result no_routes c.loop-p-test.true) in
    let last = subst (λ (ps : List PathShare). IsShortest lengths ps c.shortest.result) is c.shortest.ensures in
    subst (λ (ds : List ℕ). (length ds ≡ p + 1) × ((k : ℕ) → k < p + 1 → IsShortest lengths (routes_at routes k).paths (slice_index ds k)))
    (sym c.in_ok-push.ensures.items) (
      pushed_count before c.shortest.result p c.loop-p.invariant.0,
      pushed_each (λ k x. IsShortest lengths (routes_at routes k).paths x) before c.shortest.result 0 p c.loop-p.invariant.0 c.loop-p.invariant.1 last,
    )
