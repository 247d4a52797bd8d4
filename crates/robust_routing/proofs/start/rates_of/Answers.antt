use Rattle.std.proofs.Common.{◌≡◌, [], List, length, map, get_or, arith, ap, sym, ◌∙◌, subst, All}
use Rattle.std.proofs.lemmas.List.{get_or_read, get_or-map, length-map}
use Rattle.std.proofs.lemmas.List.Elements.{All-get_or}
use Rattle.te_model.specs.declared.route.Pair.{Pair}
use Rattle.te_model.specs.declared.route.PairRoutes.{PairRoutes}
use Rattle.te_model.specs.Path.{no_routes}
use Rattle.te_model.specs.PathRouting.{IsPathSplit}
use Rattle.te_model.proofs.Choices.{pushed_count, pushed_each}
use Rattle.scheme.specs.Reach.{no_pair, pair_at}
use Rattle.robust_routing.specs.Joint.{ArePathsWithin}
use Rattle.robust_routing.specs.Rates.{PathsWithRates}
use Rattle.robust_routing.proofs.start.rates_of.Goals as goal

pub first_rates-requires : goal.first_rates-requires
first_rates-requires c =
    let net = c.args.net.now in
    let routes = c.as_slice-routes.result.now in
    let p = c.loop-p.p in
    let splits : All (IsPathSplit net) routes = subst (λ (l : List PairRoutes). All (IsPathSplit net) l) (sym c.as_slice-routes.ensures) c.requires.splits in
    subst (IsPathSplit net) (sym (get_or_read routes p c.index-routes-p.result c.loop-p-test.true c.index-routes-p.is no_routes))
    (All-get_or (IsPathSplit net) routes p no_routes c.loop-p-test.true splits)

pub loop-p-init : goal.loop-p-init
loop-p-init c = (ap (λ (l : List PathsWithRates). length l) c.in_ok-list.ensures.items, λ q below. absurd (omega arith))

pub loop-p-preserved : goal.loop-p-preserved
loop-p-preserved c =
    let net = c.args.net.now in
    let pairs = c.args.pairs.now in
    let routes = c.as_slice-routes.result.now in
    let p = c.loop-p.p in
    let list = c.loop-p.list.items in
    let rates = c.in_ok-first_rates.field-0 in
    let own : c.index-routes-p.result ≡ get_or routes p no_routes = get_or_read routes p c.index-routes-p.result c.loop-p-test.true c.index-routes-p.is no_routes in
    let order : map (λ (r : PairRoutes). r.pair) routes ≡ pairs = ap (λ (l : List PairRoutes). map (λ (r : PairRoutes). r.pair) l) c.as_slice-routes.ensures ∙ c.requires.in_order in
    let pair : c.index-routes-p.result.pair ≡ pair_at pairs p =
    ap (λ (r : PairRoutes). r.pair) own
    ∙ (sym (get_or-map (λ (r : PairRoutes). r.pair) routes p no_routes no_pair c.loop-p-test.true) ∙ ap (λ (l : List Pair). get_or l p no_pair) order)
    in
    let here : ArePathsWithin net 1 (pair_at pairs p) rates.paths = subst (λ (x : Pair). ArePathsWithin net 1 x rates.paths) pair c.in_ok-first_rates.ensures in
    rw c.in_ok-push.ensures.items (
      pushed_count list rates p c.loop-p.invariant.0,
      pushed_each (λ q (x : PathsWithRates). ArePathsWithin net 1 (pair_at pairs q) x.paths) list rates (record { paths = []; rates = [] }) p
          c.loop-p.invariant.0 c.loop-p.invariant.1 here,
    )

pub returns : goal.returns
returns c =
    let routes = c.as_slice-routes.result.now in
    let order : map (λ (r : PairRoutes). r.pair) routes ≡ c.args.pairs.now =
    ap (λ (l : List PairRoutes). map (λ (r : PairRoutes). r.pair) l) c.as_slice-routes.ensures ∙ c.requires.in_order
    in
    let all : length routes ≡ length c.args.pairs.now = sym (length-map routes (λ (r : PairRoutes). r.pair)) ∙ ap (λ (l : List Pair). length l) order in
    let every : c.loop-p.p ≡ length routes = omega (arith, c.loop-p-test.false, c.loop-p.auto.p-end) in
    record {
      count = c.loop-p.invariant.0 ∙ (every ∙ all);
      each = λ q below. c.loop-p.invariant.1 q (omega (arith, below, c.loop-p.invariant.0));
    }
