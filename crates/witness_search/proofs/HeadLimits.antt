-- The limit of a declared pair of a valid head.
use Rattle.std.proofs.Common.{inl, inr, ℕ, ◌<◌, ◌≤◌, [], All, length, arith}
use Rattle.std.specs.Prelude.{sum_by}
use Rattle.te_model.specs.declared.certificate.Certificate.{Certificate}
use Rattle.te_model.specs.declared.certificate.Head.{Head}
use Rattle.te_model.specs.declared.units.TheConstants.{SHARE_UNIT}
use Rattle.te_model.specs.Path.{destination_of, routes_at, source_of}
use Rattle.te_model.specs.Validity.{IsValidHead}
use Rattle.witness_search.specs.Attempts.{IsLimit}
use Rattle.te_model.proofs.Valid.{rules_hold, valid_limits}
use Rattle.ratio_checker.specs.Checked.{IsSimplePath}
use Rattle.witness_search.specs.RouteLimits.{IsRouteLimit}
use Rattle.ratio_checker.proofs.SimplePaths.{simple_paths}
use Rattle.witness_search.proofs.Heads.{ends_carry, head_apart, head_pairs, head_path}
use Rattle.witness_search.proofs.LinkSums.{head_links_small}
use Rattle.witness_search.proofs.PairLimits.{limit_holds}
use Rattle.te_model.proofs.ValidHeads.{valid_without_blocks}
use Rattle.ratio_checker.proofs.FormedHeads.{head_links}

pub limit_is : (h : Head) (p limit : ℕ) → IsValidHead h → p < length h.routes → IsRouteLimit h.network (routes_at h.routes p) limit → IsLimit h p limit
limit_is h p limit valid below is =
    let net = h.network in
    let room = is.0 in
    let some = (head_links_small h valid).some in
    let carry = ends_carry net (source_of h.routes p) (destination_of h.routes p) some (head_path h valid p below) in
    let some_room : 1 ≤ room = elim is.1 [
      | inl from ↦ let c = carry.0 in omega (arith, from, c)
      | inr into ↦ let c = carry.1 in omega (arith, into, c)
    ]
    in
    limit_holds net h.routes p room limit (head_links h valid) (head_pairs h valid) below (head_apart h valid p below) some_room is.1 some is.2

-- the paths of a declared pair
pub head_simple : (h : Head) (p : ℕ) → IsValidHead h → p < length h.routes →
    All IsSimplePath (routes_at h.routes p).paths × (sum_by (λ s. s.weight) (routes_at h.routes p).paths ≤ SHARE_UNIT)
head_simple h p valid below =
    let c : Certificate = record { head = h; blocks = [] } in
    let is = valid_without_blocks h valid in
    let limits = valid_limits c is in
    (simple_paths h.network (source_of h.routes p) (destination_of h.routes p) (routes_at h.routes p).paths limits.links ((rules_hold c is.1).paths p below), limits.shares p)
