-- How many pairs a valid head has, and how many paths for each.
use Rattle.std.proofs.Common.{◌≡◌, ℕ, ◌≤◌, Bool, true, false, ◌==◌, [], length, arith}
use Rattle.std.specs.Prelude.{if◌then◌else◌}
use Rattle.std.specs.List.{list_all}
use Rattle.std.proofs.lemmas.Bool.Decides.{nat_tests}
use Rattle.te_model.specs.declared.certificate.Head.{Head}
use Rattle.te_model.specs.declared.limits.Limits.{Limits}
use Rattle.te_model.specs.declared.limits.TheConstants.{FORMAT_1, FORMAT_2}
use Rattle.te_model.specs.declared.route.PairRoutes.{PairRoutes}
use Rattle.te_model.specs.Formats.{limits_of}
use Rattle.te_model.specs.Shape.{is_shaped_pair}
use Rattle.te_model.specs.Validity.{IsValidHead}
use Rattle.te_model.proofs.Tests.{all_from_tests}
use Rattle.te_model.proofs.Valid.{valid_limits}
use Rattle.te_model.proofs.ValidHeads.{few_in_format, valid_without_blocks}
use Rattle.routing.specs.Routes.{HasFewPaths}

few_of : (limits : Limits) (r : PairRoutes) → is_shaped_pair limits r ≡ true → limits.paths ≤ 32 → length r.paths ≤ 32
few_of limits r shaped most = grind (arith, nat_tests)

pub head_has_few_paths : (h : Head) → IsValidHead h → HasFewPaths 32 h.routes
head_has_few_paths h valid =
    let shaped : list_all (is_shaped_pair (limits_of h.format)) h.routes ≡ true = let head = valid.shaped in grind (arith, nat_tests) in
    all_from_tests (is_shaped_pair (limits_of h.format)) (λ r. length r.paths ≤ 32) (λ r is. few_of (limits_of h.format) r is (few_in_format h.format)) h.routes shaped

pub head_has_few_pairs : (h : Head) → IsValidHead h → length h.routes ≤ FORMAT_2.pairs
head_has_few_pairs h valid =
    let small = valid_limits (record { head = h; blocks = [] }) (valid_without_blocks h valid) in
    omega (arith, small.pairs)
