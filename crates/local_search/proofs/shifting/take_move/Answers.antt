use Rattle.std.proofs.Common.{◌≡◌, ℕ, ◌<◌, ◌≤◌, List, length, get_or, arith, ap, sym, ◌∙◌, subst, min, All}
use Rattle.std.proofs.lemmas.List.{get_or_default}
use Rattle.te_model.specs.declared.route.PathShare.{PathShare}
use Rattle.te_model.specs.declared.route.PairRoutes.{PairRoutes}
use Rattle.te_model.specs.Path.{no_routes, routes_at}
use Rattle.routing.specs.Merge.{links_at, no_path, path_at}
use Rattle.local_search.specs.Moves.{IsShift}
use Rattle.routing.specs.Split.{total_weight}
use Rattle.routing.proofs.Splits.{positive_weights, whole_weight}
use Rattle.local_search.proofs.Taking.{moved_by_set}
use Rattle.local_search.proofs.shifting.take_move.Goals as goal

pub paths_after-requires-clause-positive : goal.paths_after-requires-clause-positive
paths_after-requires-clause-positive c =
    let routes = c.args.routes.now in
    let p = c.args.step.pair in
    let items : c.into_vec.result.items ≡ (routes_at routes p).paths =
    c.into_vec.ensures
    ∙ ap (λ (r : PairRoutes). r.paths) (c.replace-old.ensures.value ∙ get_or_default routes p c.index-routes-step-2.result no_routes c.requires.pair)
    in
    subst (All (λ (s : PathShare). 1 ≤ s.weight)) (sym items) (positive_weights routes p c.requires.splits c.requires.pair)

pub paths_after-requires-clause-whole : goal.paths_after-requires-clause-whole
paths_after-requires-clause-whole c =
    let routes = c.args.routes.now in
    let p = c.args.step.pair in
    let items : c.into_vec.result.items ≡ (routes_at routes p).paths =
    c.into_vec.ensures
    ∙ ap (λ (r : PairRoutes). r.paths) (c.replace-old.ensures.value ∙ get_or_default routes p c.index-routes-step-2.result no_routes c.requires.pair)
    in
    omega (arith, ap total_weight items, whole_weight routes p c.requires.splits c.requires.pair)

pub returns : goal.returns
returns c =
    let routes = c.args.routes.now in
    let candidates = c.args.candidates.now in
    let p = c.args.step.pair in
    let k = c.args.step.from in
    let j = c.args.step.target.candidate in
    let size = c.args.step.target.size in
    let own = (routes_at routes p).paths in
    let there : p < length candidates = omega (arith, c.requires.pair, c.requires.pairs) in
    let others : c.as_slice.result.now ≡ (routes_at candidates p).paths =
    c.as_slice.ensures ∙ ap (λ (r : PairRoutes). r.paths) (get_or_default candidates p c.index-candidates-step.result no_routes there)
    in
    let within : j < length c.as_slice.result.now = subst (λ (l : List PathShare). j < length l) (sym others) c.requires.to in
    let to : c.as_slice-to.result.now ≡ links_at (routes_at candidates p).paths j =
    c.as_slice-to.ensures
    ∙ (ap (λ (s : PathShare). s.links) (get_or_default c.as_slice.result.now j c.index-as_slice-step.result no_path within)
    ∙ ap (λ (l : List PathShare). links_at l j) others)
    in
    let pair = ap (λ (r : PairRoutes). r.pair) (get_or_default routes p c.index-routes-step.result no_routes c.requires.pair) in
    let old = c.replace-old.ensures.value in
    let items : c.into_vec.result.items ≡ (routes_at routes p).paths =
    c.into_vec.ensures ∙ ap (λ (r : PairRoutes). r.paths) (old ∙ get_or_default routes p c.index-routes-step-2.result no_routes c.requires.pair)
    in
    let made = c.in_ok-paths.ensures in
    let paths = sym c.new-3.ensures in
    let shift =
    subst (λ (l : List PathShare). IsShift own (links_at own k) (links_at (routes_at candidates p).paths j) (min size (path_at own k).weight) l) paths
    (subst (λ (l : List ℕ). IsShift own (links_at own k) l (min size (path_at own k).weight) c.in_ok-paths.paths.items) to
    (subst (λ (l : List PathShare). IsShift l (links_at l k) c.as_slice-to.result.now (min size (path_at l k).weight) c.in_ok-paths.paths.items) items made))
    in
    moved_by_set routes p k (links_at (routes_at candidates p).paths j) size c.replace-old.new.dest
    (record { pair = (get_or routes p c.index-routes-step.result).pair; paths = c.new-3.result }) c.requires.pair
    (ap (λ (r : PairRoutes). r.pair) c.replace-old.ensures.after ∙ pair) pair shift
