-- Routes that pass the tests of a split are a path routing. On given lists the tests compute, so `refl` is the proof.
use Rattle.std.proofs.Common.{◌≡◌, ◌≤◌, Bool, true, ◌&&◌, List, nat_le, ◌==◌, sum_by}
use Rattle.std.specs.Prelude.{IsTrue}
use Rattle.std.specs.List.{list_all}
use Rattle.std.proofs.lemmas.Bool.{leb-true, eqb-true}
use Rattle.te_model.specs.declared.network.Network.{Network}
use Rattle.te_model.specs.declared.route.PairRoutes.{PairRoutes}
use Rattle.te_model.specs.declared.units.TheConstants.{SHARE_UNIT}
use Rattle.te_model.specs.Path.{is_path}
use Rattle.te_model.specs.PathRouting.{IsPathSplit, IsPathRouting}
use Rattle.te_model.specs.Validity.{paths_ascend}
use Rattle.te_model.proofs.Tests.{and_true, all_from_tests}

abbrev has_paths : Network → PairRoutes → Bool
has_paths net r = list_all (λ s. is_path net r.pair.src r.pair.dst s.links) r.paths

abbrev has_weights : PairRoutes → Bool
has_weights r = list_all (λ s. nat_le 1 s.weight) r.paths && sum_by (λ s. s.weight) r.paths == SHARE_UNIT

abbrev pub is_path_split : Network → PairRoutes → Bool
is_path_split net r = has_paths net r && (paths_ascend r.paths && has_weights r)

split : (net : Network) (r : PairRoutes) → is_path_split net r ≡ true → IsPathSplit net r
split net r passed =
    let paths = and_true (has_paths net r) (paths_ascend r.paths && has_weights r) passed in
    let order = and_true (paths_ascend r.paths) (has_weights r) paths.1 in
    let weights = and_true (list_all (λ s. nat_le 1 s.weight) r.paths) (sum_by (λ s. s.weight) r.paths == SHARE_UNIT) order.1 in
    record {
      paths = all_from_tests (λ s. is_path net r.pair.src r.pair.dst s.links) (λ s. IsTrue (is_path net r.pair.src r.pair.dst s.links))
          (λ s e. e) r.paths paths.0;
      distinct = order.0;
      weights = all_from_tests (λ s. nat_le 1 s.weight) (λ s. 1 ≤ s.weight) (λ s e. leb-true _ _ e) r.paths weights.0;
      whole = eqb-true _ _ weights.1;
    }

pub path_routing : (net : Network) (routes : List PairRoutes) → list_all (is_path_split net) routes ≡ true → IsPathRouting net routes
path_routing net routes passed = all_from_tests (is_path_split net) (IsPathSplit net) (split net) routes passed
