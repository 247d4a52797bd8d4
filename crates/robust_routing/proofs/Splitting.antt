-- The split that the rates of a pair make.
use Rattle.std.proofs.Common.{◌≡◌, ℕ, ◌+◌, ◌^◌, ◌<◌, ◌≤◌, true, List, [], ◌∷◌, ◌++◌, length, sum, get_or, arith, ap, refl, sym, ◌∙◌, subst}
use Rattle.std.specs.Prelude.{IsTrue, sum_by}
use Rattle.std.proofs.lemmas.List.{length_push, map-id, take_all}
use Rattle.std.proofs.lemmas.List.Elements.{All-get_or, All-push}
use Rattle.std.proofs.lemmas.List.Sums.{get_or-le-sum_by, sum-map, sum_by_more, sum_by_push}
use Rattle.te_model.specs.declared.network.Network.{Network}
use Rattle.te_model.specs.declared.route.Pair.{Pair}
use Rattle.te_model.specs.declared.route.Path.{Path}
use Rattle.te_model.specs.declared.route.PathShare.{PathShare}
use Rattle.te_model.specs.declared.units.TheConstants.{SHARE_UNIT}
use Rattle.te_model.specs.Path.{is_path}
use Rattle.te_model.specs.PathRouting.{IsPathSplit}
use Rattle.routing.specs.Merge.{IsMerge, no_path}
use Rattle.routing.proofs.Merged.{merged_split}
use Rattle.robust_routing.specs.Joint.{ArePathsWithin}
use Rattle.robust_routing.specs.Split.{AreSharesOf, AreSomeRates}

sum_is : (xs : List ℕ) → sum xs ≡ sum_by (λ x. x) xs
sum_is xs = ap (λ (l : List ℕ). sum l) (sym (map-id xs)) ∙ sum-map (λ (x : ℕ). x) xs

-- rates of 1 and more do not sum to 0
pub rates_sum : (n : ℕ) (rates : List ℕ) → AreSomeRates n rates → 1 ≤ n → 1 ≤ sum rates
rates_sum n rates are some =
    let inside : 0 < length rates = omega (arith, are.count, some) in
    let first : 1 ≤ get_or rates 0 0 = All-get_or (λ (r : ℕ). 1 ≤ r) rates 0 0 inside are.some in
    omega (arith, first, sum_is rates, get_or-le-sum_by (λ (x : ℕ). x) rates 0 0 inside)

pub rates_none : AreSomeRates 0 []
rates_none = record { count = refl; some = λ k d below. absurd (omega arith); small = λ k d below. absurd (omega arith) }

pub rates_more : (n : ℕ) (rates : List ℕ) (r : ℕ) → AreSomeRates n rates → 1 ≤ r → r ≤ 2 ^ 30 → AreSomeRates (n + 1) (rates ++ r ∷ [])
rates_more n rates r are some small = record {
  count = length_push rates r ∙ ap (λ k. k + 1) are.count;
  some = All-push (λ (x : ℕ). 1 ≤ x) rates r are.some some;
  small = All-push (λ (x : ℕ). x ≤ 2 ^ 30) rates r are.small small;
}

pub shares_none : (paths : List Path) (parts : List ℕ) → AreSharesOf paths parts 0 []
shares_none paths parts = record {
  whole = refl;
  some = λ k d below. absurd (omega arith);
  few = omega arith;
  only = λ is all k d below. absurd (omega arith);
}

-- a path without a part is left out
pub share_left_out : (paths : List Path) (parts : List ℕ) (i : ℕ) (shares : List PathShare) → i < length parts → get_or parts i 0 ≡ 0 →
    AreSharesOf paths parts i shares → AreSharesOf paths parts (i + 1) shares
share_left_out paths parts i shares below none are = record {
  whole = omega (arith, are.whole, sum_by_more (λ (x : ℕ). x) parts i 0 below, none);
  some = are.some;
  few = omega (arith, are.few);
  only = are.only;
}

-- and one with a part is taken in
pub share_taken_in : (paths : List Path) (parts : List ℕ) (i : ℕ) (shares : List PathShare) (s : PathShare) → i < length paths → i < length parts →
    s.links ≡ (get_or paths i (record { links = [] })).links → s.weight ≡ get_or parts i 0 → 1 ≤ s.weight →
    AreSharesOf paths parts i shares → AreSharesOf paths parts (i + 1) (shares ++ s ∷ [])
share_taken_in paths parts i shares s inside below links weight some are = record {
  whole = omega (arith, are.whole, sum_by_more (λ (x : ℕ). x) parts i 0 below, weight, sum_by_push (λ (x : PathShare). x.weight) shares s);
  some = All-push (λ (x : PathShare). 1 ≤ x.weight) shares s are.some some;
  few = omega (arith, are.few, length_push shares s);
  only = λ is all. All-push (λ (x : PathShare). IsTrue (is x.links)) shares s (are.only is all)
      (subst (λ l. is l ≡ true) (sym links) (All-get_or (λ (p : Path). IsTrue (is p.links)) paths i (record { links = [] }) inside all));
}

-- all shares make a split of the pair
pub split_made : (net : Network) (pair : Pair) (limit : ℕ) (paths : List Path) (parts : List ℕ) (shares merged : List PathShare) →
    ArePathsWithin net limit pair paths → length parts ≡ length paths → sum parts ≡ SHARE_UNIT → AreSharesOf paths parts (length paths) shares →
    IsMerge shares merged → IsPathSplit net (record { pair = pair; paths = merged }) × (length merged ≤ limit)
split_made net pair limit paths parts shares merged within count whole are so =
    let all = take_all (length paths) parts (omega (arith, count)) in
    let each = are.only (is_path net pair.src pair.dst) within.sound in (
      merged_split net pair shares merged so (λ links (k, below, at).
          subst (λ l. is_path net pair.src pair.dst l ≡ true) at
          (All-get_or (λ (s : PathShare). IsTrue (is_path net pair.src pair.dst s.links)) shares k no_path below each))
          are.some (are.whole ∙ (ap (sum_by (λ x. x)) all ∙ (sym (sum_is parts) ∙ whole))),
      omega (arith, so.few, are.few, within.few),
    )
