use Rattle.std.proofs.Common.{◌≡◌, ℕ, ◌≤◌, ◌^◌, List, [], ◌∷◌, All, length, take, arith, ap, sym, ◌∙◌, subst}
use Rattle.std.proofs.lemmas.List.{get_or_read}
use Rattle.std.proofs.lemmas.List.Elements.{All-get_or}
use Rattle.te_model.specs.Network.{link_count}
use Rattle.routing.specs.Utilisation.{parts}
use Rattle.dual_bounds.specs.Dual.{unit_lengths, IsBoundOf}
use Rattle.dual_bounds.specs.GivenPaths.{AreShortest}
use Rattle.dual_bounds.proofs.Choosing.{choice_first, choice_more, choice_best}
use Rattle.dual_bounds.proofs.PathBounds.{keeps_none, shortests_unique, is_bracket, is_lower}
use Rattle.dual_bounds.proofs.given_paths.bracket_on_paths.Goals as goal

pub by_lengths-requires-clause-lengths : goal.by_lengths-requires-clause-lengths
by_lengths-requires-clause-lengths c = ap (λ (l : List ℕ). length l) c.deref.ensures.value ∙ c.in_ok-unit.ensures.count

pub by_lengths-requires-clause-limit : goal.by_lengths-requires-clause-limit
by_lengths-requires-clause-limit c = subst (All (λ (x : ℕ). x ≤ 2 ^ 28)) (sym c.deref.ensures.value) c.in_ok-unit.ensures.limit

pub by_lengths-requires-in-loop-offered-clause-lengths : goal.by_lengths-requires-in-loop-offered-clause-lengths
by_lengths-requires-in-loop-offered-clause-lengths c =
    let offered = c.args.lengths.now in
    let i = c.loop-offered.offered-index in
    let is = c.as_slice.ensures ∙ get_or_read offered i c.offered-item.result c.loop-offered-test.true c.offered-item.is [] in
    ap (λ (l : List ℕ). length l) is
    ∙ All-get_or (λ (l : List ℕ). length l ≡ link_count c.args.net.now) offered i [] c.loop-offered-test.true c.requires.lengths

pub by_lengths-requires-in-loop-offered-clause-limit : goal.by_lengths-requires-in-loop-offered-clause-limit
by_lengths-requires-in-loop-offered-clause-limit c =
    let offered = c.args.lengths.now in
    let i = c.loop-offered.offered-index in
    let is = c.as_slice.ensures ∙ get_or_read offered i c.offered-item.result c.loop-offered-test.true c.offered-item.is [] in
    subst (All (λ (x : ℕ). x ≤ 2 ^ 28)) (sym is)
    (All-get_or (λ (l : List ℕ). All (λ (x : ℕ). x ≤ 2 ^ 28) l) offered i [] c.loop-offered-test.true c.requires.limit)

pub loop-offered-init : goal.loop-offered-init
loop-offered-init c =
    let net = c.args.net.now in
    let fixed = c.args.fixed.now.routes in
    let demand = c.args.matrix.now.demand in
    let b = c.in_ok-best.best in
    let unit : b.lengths ≡ unit_lengths net = c.in_ok-best.ensures.lengths ∙ (c.deref.ensures.value ∙ c.in_ok-unit.ensures.lengths) in
    choice_first net (length fixed) demand (parts net c.args.routing.now.routes demand) (AreShortest fixed) keeps_none b (shortests_unique fixed) unit
    (subst (λ most. IsBoundOf net (length fixed) demand most (AreShortest fixed) b) c.in_ok-most.ensures c.in_ok-best.ensures.bound)
    c.in_ok-best.ensures.rows c.in_ok-best.ensures.low

pub loop-offered-preserved : goal.loop-offered-preserved
loop-offered-preserved c =
    let net = c.args.net.now in
    let fixed = c.args.fixed.now.routes in
    let demand = c.args.matrix.now.demand in
    let offered = c.args.lengths.now in
    let i = c.loop-offered.offered-index in
    let other = c.in_ok-other.other in
    let same =
    c.in_ok-other.ensures.lengths ∙ c.as_slice.ensures
    ∙ get_or_read offered i c.offered-item.result c.loop-offered-test.true c.offered-item.is []
    in
    choice_more net (length fixed) demand (parts net c.args.routing.now.routes demand) (AreShortest fixed) keeps_none offered i c.loop-offered.best other
    c.better-best.result (shortests_unique fixed) c.loop-offered-test.true same c.loop-offered.invariant
    (subst (λ most. IsBoundOf net (length fixed) demand most (AreShortest fixed) other) c.in_ok-most.ensures c.in_ok-other.ensures.bound)
    c.in_ok-other.ensures.rows c.in_ok-other.ensures.low c.better-best.ensures

pub returns-clause-sound : goal.returns-clause-sound
returns-clause-sound c =
    is_bracket c.args.net.now c.args.fixed.now.routes c.args.routing.now.routes c.args.matrix.now.demand
    (unit_lengths c.args.net.now ∷ take c.loop-offered.offered-index c.args.lengths.now) c.loop-offered.best c.requires.network c.requires.count
    c.loop-offered.invariant

pub returns-clause-lower : goal.returns-clause-lower
returns-clause-lower c =
    let demand = c.args.matrix.now.demand in
    is_lower c.args.net.now c.args.fixed.now.routes demand (parts c.args.net.now c.args.routing.now.routes demand) c.loop-offered.best
    c.requires.network c.requires.fixed c.loop-offered.invariant.bound

pub returns-clause-best : goal.returns-clause-best
returns-clause-best c =
    let net = c.args.net.now in
    let fixed = c.args.fixed.now.routes in
    let demand = c.args.matrix.now.demand in
    choice_best net (length fixed) demand (parts net c.args.routing.now.routes demand) (AreShortest fixed) keeps_none c.args.lengths.now
    c.loop-offered.offered-index c.loop-offered.best (omega arith) c.loop-offered.invariant
