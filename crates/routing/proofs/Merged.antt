-- Merged paths whose weights sum to the unit are a split of the pair.
use Rattle.std.proofs.Common.{◌≡◌, ℕ, suc, ◌+◌, ◌<◌, ◌≤◌, Bool, true, false, List, [], ◌∷◌, length, arith, refl, subst, ◌∙◌, All}
use Rattle.std.specs.Prelude.{IsTrue, if◌then◌else◌}
use Rattle.std.proofs.lemmas.List.Elements.{All-from_get_or}
use Rattle.std.proofs.lemmas.List.Sums.{sum_by-cons}
use Rattle.te_model.specs.declared.network.Network.{Network}
use Rattle.te_model.specs.declared.route.Pair.{Pair}
use Rattle.te_model.specs.declared.route.PathShare.{PathShare}
use Rattle.te_model.specs.declared.units.TheConstants.{SHARE_UNIT}
use Rattle.te_model.specs.Path.{is_path}
use Rattle.te_model.specs.PathRouting.{IsPathSplit}
use Rattle.routing.specs.Merge.{IsMerge, HasLinks, links_at, no_path, weight_where}
use Rattle.routing.specs.Split.{total_weight}
use Rattle.routing.proofs.Adding.{merge_total}

pub merged_split : (net : Network) (pair : Pair) (parts merged : List PathShare) → IsMerge parts merged →
    ((links : List ℕ) → HasLinks parts links → is_path net pair.src pair.dst links ≡ true) →
    All (λ s. 1 ≤ s.weight) parts → total_weight parts ≡ SHARE_UNIT → IsPathSplit net (record { pair = pair; paths = merged })
merged_split net pair parts merged so sound some whole = record {
  paths = All-from_get_or (λ s. IsTrue (is_path net pair.src pair.dst s.links)) merged no_path
      (λ k below. sound (links_at merged k) (so.only (links_at merged k) (k, below, refl)));
  distinct = so.ascending;
  weights = so.positive some;
  whole = merge_total parts merged so ∙ whole;
}

-- where some weight passes the test, the links of some path do
pub some_path : (test : List ℕ → Bool) (xs : List PathShare) → 1 ≤ weight_where test xs → (k : ℕ) × (k < length xs) × (test (links_at xs k) ≡ true)
some_path test [] some = absurd (omega arith)
some_path test (x ∷ xs) some =
    go (test x.links) refl (some_path test xs) (subst (λ n. 1 ≤ n) (sum_by-cons (λ s. if test s.links then s.weight else 0) x xs) some)
  where
    go : (b : Bool) → test x.links ≡ b → (1 ≤ weight_where test xs → (k : ℕ) × (k < length xs) × (test (links_at xs k) ≡ true)) →
        1 ≤ (if b then x.weight else 0) + weight_where test xs → (k : ℕ) × (k < length (x ∷ xs)) × (test (links_at (x ∷ xs) k) ≡ true)
    go true is later some = (0, omega arith, is)
    go false is later some = let (k, below, at) = later (omega (arith, some)) in (suc k, omega (arith, below), at)
