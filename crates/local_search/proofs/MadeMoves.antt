-- A move can be made from each path of a pair to any links, and the greatest utilisation after it is one number.
use Rattle.std.proofs.Common.{inl, inr, ◌≡◌, ℕ, ◌-◌, ◌*◌, ◌<◌, ◌≤◌, List, [], ◌∷◌, ◌++◌, length, arith, refl, ap, sym, ◌∙◌, subst, All, min}
use Rattle.std.specs.Prelude.{remove}
use Rattle.std.proofs.Math.ListN.{set}
use Rattle.std.proofs.lemmas.Bool.{cases_eq}
use Rattle.std.proofs.lemmas.List.Elements.{All-get_or}
use Rattle.te_model.specs.declared.network.Network.{Network}
use Rattle.te_model.specs.declared.route.PathShare.{PathShare}
use Rattle.te_model.specs.declared.route.PairRoutes.{PairRoutes}
use Rattle.te_model.specs.declared.units.TheConstants.{RATIO_UNIT, SHARE_UNIT}
use Rattle.te_model.specs.Counting.{greatest_below}
use Rattle.te_model.specs.Division.{quotient_up}
use Rattle.te_model.specs.Network.{capacity_of, link_count}
use Rattle.te_model.specs.Path.{no_routes, routes_at}
use Rattle.te_model.specs.PathRouting.{IsPathRouting, IsPathSplit}
use Rattle.te_model.proofs.Quotients.{below_greatest, greatest_below-least}
use Rattle.routing.specs.Merge.{links_at, no_path, path_at}
use Rattle.routing.specs.Utilisation.{parts, parts_on}
use Rattle.routing.proofs.MergesMade.{merge_exists}
use Rattle.local_search.specs.Moves.{IsMoved, IsShift}
use Rattle.local_search.specs.Shifting.{IsLessened}
use Rattle.local_search.proofs.MovedLoads.{moved_load}
use Rattle.local_search.proofs.Shifts.{lessened_at, lessened_out, shift_from_merge}
use Rattle.local_search.proofs.Taking.{moved_by_set}

-- units can be taken off a path that has as many
lessened_exists : (xs : List PathShare) (k units : ℕ) → k < length xs → All (λ s. 1 ≤ s.weight) xs → units ≤ (path_at xs k).weight →
    (left : List PathShare) × IsLessened xs k units left
lessened_exists xs k units inside all enough =
    let w = (path_at xs k).weight in
    elim (cases_eq units w) [
      | inl whole ↦ (remove xs k, subst (λ n. IsLessened xs k n (remove xs k)) (sym whole) (lessened_out xs k inside all))
      | inr some ↦
          let y : PathShare = record { links = links_at xs k; weight = w - units } in
          (set xs k y, lessened_at xs k units y inside all refl (omega (arith, enough)) (omega (arith, enough, some)))
    ]

shift_exists : (old : List PathShare) (k size : ℕ) (to : List ℕ) → k < length old → All (λ s. 1 ≤ s.weight) old → 1 ≤ size →
    (new : List PathShare) × IsShift old (links_at old k) to (min size (path_at old k).weight) new
shift_exists old k size to inside all some =
    let units = min size (path_at old k).weight in
    let weight : 1 ≤ (path_at old k).weight = All-get_or (λ (s : PathShare). 1 ≤ s.weight) old k no_path inside all in
    let y : PathShare = record { links = to; weight = units } in
    let (left, less) = lessened_exists old k units inside all (omega arith) in
    let (new, merge) = merge_exists (left ++ y ∷ []) in
    (new, shift_from_merge old left new k units to y less refl (omega (arith, some, weight)) merge)

pub move_exists : (net : Network) (routes : List PairRoutes) (p k size : ℕ) (to : List ℕ) → IsPathRouting net routes → p < length routes →
    k < length (routes_at routes p).paths → 1 ≤ size → (moved : List PairRoutes) × IsMoved routes p k to size moved
move_exists net routes p k size to routing below inside some =
    let r = routes_at routes p in
    let split = All-get_or (IsPathSplit net) routes p no_routes below routing in
    let (new, shift) = shift_exists r.paths k size to inside split.weights some in
    let after : PairRoutes = record { pair = r.pair; paths = new } in
    (set (set routes p after) p after, moved_by_set routes p k to size after after below refl refl shift)

greatest_up : (n : ℕ) (f g : ℕ → ℕ) → ((k : ℕ) → k < n → f k ≡ g k) → greatest_below n f ≤ greatest_below n g
greatest_up n f g same = greatest_below-least n f (greatest_below n g) (λ k below. omega (arith, same k below, below_greatest n g k below))

-- all routings that one move makes have one greatest utilisation
pub moved_parts : (net : Network) (demand : List ℕ) (routes one two : List PairRoutes) (p k size : ℕ) (to : List ℕ) → p < length routes →
    IsMoved routes p k to size one → IsMoved routes p k to size two → parts net one demand ≡ parts net two demand
moved_parts net demand routes one two p k size to below is_one is_two =
    let n = link_count net in
    omega (
      arith,
      greatest_up n (parts_on net one demand) (parts_on net two demand) (λ e _. same e),
      greatest_up n (parts_on net two demand) (parts_on net one demand) (λ e _. sym (same e)),
    )
  where
    same : (e : ℕ) → parts_on net one demand e ≡ parts_on net two demand e
    same e = ap (λ x. quotient_up (x * RATIO_UNIT) (SHARE_UNIT * capacity_of net e))
        (moved_load routes one demand p k to size e below is_one ∙ sym (moved_load routes two demand p k to size e below is_two))
