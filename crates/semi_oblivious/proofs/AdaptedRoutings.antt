-- A routing has fixed paths, and over these each matrix has an adapted routing.
use Rattle.std.proofs.Common.{◌≡◌, List, length, arith, refl, sym, ◌∙◌, subst}
use Rattle.te_model.specs.declared.route.PairRoutes.{PairRoutes}
use Rattle.routing.specs.Routes.{AreDemands}
use Rattle.routing.proofs.InOrder.{routes_count}
use Rattle.routing.proofs.Splits.{splits_of}
use Rattle.local_search.proofs.SettledRoutings.{stable_routings_exist}
use Rattle.dual_bounds.proofs.PathBrackets.{brackets_on_paths_exist}
use Rattle.path_budget.specs.Budget.{trimmed_routes}
use Rattle.path_budget.proofs.Trimming.{trimmed_has_few, trimmed_routing}
use Rattle.semi_oblivious.specs.Laws.{AdaptedRatesExist, AdaptedRoutingsExist, FixedRoutingsExist}
use Rattle.semi_oblivious.specs.Semi.{KeepsTo}
use Rattle.semi_oblivious.proofs.Sweeping.{few_kept, settled_keep}

-- the heaviest paths of each pair
pub fixed_routings_exist : FixedRoutingsExist
fixed_routings_exist budget net pairs base some ends routing = (
  trimmed_routes budget base,
  record {
    ends = ends;
    heaviest = refl;
    routing = trimmed_routing budget net pairs base some routing;
    few = trimmed_has_few budget base some (splits_of net base routing.splits);
  },
)

own_paths : (fixed : List PairRoutes) → KeepsTo fixed fixed
own_paths fixed p links has = has

-- the stable one to which moves from the given routing lead
pub adapted_rates_exist : AdaptedRatesExist
adapted_rates_exist net pairs given demand formed ends is small demands =
    let whole : length given ≡ length pairs = routes_count pairs given is.in_order in
    let (routes, own, stable, less, only, few) = stable_routings_exist net demand pairs given given is is in
    let count : length routes ≡ length given = routes_count pairs routes own.in_order ∙ sym whole in
    let (note, bracket, lower, low) =
    brackets_on_paths_exist net given routes demand formed is.splits count (omega (arith, whole, ends.few))
    (subst (λ n. AreDemands n demand) (sym whole) demands)
    in (
      routes,
      note,
      own,
      few 32 (few_kept 32 given given refl small (own_paths given)),
      record {
        fixed_paths = settled_keep given given routes (own_paths given) only;
        stable = stable;
        no_greater = less;
        bracket = bracket;
        lower = lower;
      },
      low,
    )

-- over the fixed paths of a plan
pub adapted_routings_exist : AdaptedRoutingsExist
adapted_routings_exist budget net pairs base fixed demand formed small is demands =
    adapted_rates_exist net pairs fixed demand formed is.ends is.routing (λ k d below. omega (arith, is.few k d below, small)) demands
