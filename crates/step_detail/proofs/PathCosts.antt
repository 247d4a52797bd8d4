-- How large the weight and the cost of a path are, so that their product fits.
use Rattle.std.proofs.Common.{◌≡◌, ℕ, ◌*◌, ◌^◌, ◌<◌, ◌≤◌, List, All, length, get_or, arith, ap}
use Rattle.std.proofs.lemmas.List.Elements.{All-get_or}
use Rattle.std.proofs.lemmas.List.Sums.{get_or-le-sum_by}
use Rattle.te_model.specs.declared.limits.TheConstants.{FORMAT_2}
use Rattle.te_model.specs.declared.route.PathShare.{PathShare}
use Rattle.te_model.specs.declared.units.TheConstants.{SHARE_UNIT}
use Rattle.routing.specs.Merge.{no_path}
use Rattle.routing.specs.Split.{total_weight}

-- the weight of one of the paths is at most their sum
pub weight_within : (paths : List PathShare) (i weight : ℕ) (path : PathShare) → i < length paths → path ≡ get_or paths i no_path → weight ≡ path.weight →
    total_weight paths ≤ SHARE_UNIT → weight ≤ 1000000
weight_within paths i weight path below read is whole =
    omega (arith, is, ap (λ (s : PathShare). s.weight) read, get_or-le-sum_by (λ (s : PathShare). s.weight) paths i no_path below, whole)

-- and its cost at most the greatest length on as many links as there are nodes
pub cost_within : (paths : List PathShare) (i cost : ℕ) (path : PathShare) (links : List ℕ) → i < length paths → path ≡ get_or paths i no_path →
    links ≡ path.links → cost ≤ length links * 2 ^ 28 → All (λ s. length s.links ≤ FORMAT_2.nodes) paths → cost ≤ 34359738368
cost_within paths i cost path links below read are limit short =
    omega (
      arith,
      limit,
      ap (λ (l : List ℕ). length l) are,
      ap (λ (s : PathShare). length s.links) read,
      All-get_or (λ (s : PathShare). length s.links ≤ FORMAT_2.nodes) paths i no_path below short,
    )
