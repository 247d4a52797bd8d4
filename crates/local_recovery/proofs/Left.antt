-- What is left of a routing are rates of the same pairs.
use Rattle.std.proofs.Common.{◌≡◌, ℕ, suc, ◌<◌, ◌≤◌, Bool, true, Option, List, [], ◌∷◌, length, All, arith, refl, ap, sym, ◌∙◌, subst, ◌||◌, ◌==◌, false}
use Rattle.std.specs.Prelude.{filter}
use Rattle.std.specs.List.{list_all}
use Rattle.std.proofs.lemmas.Bool.{and_from}
use Rattle.std.proofs.lemmas.List.{length-map, get_or-map}
use Rattle.std.proofs.lemmas.List.FromFn.{fill_by_all}
use Rattle.std.proofs.lemmas.List.Elements.{All-get_or, All-from_get_or}
use Rattle.te_model.specs.declared.network.Network.{Network}
use Rattle.te_model.specs.declared.route.PathShare.{PathShare}
use Rattle.te_model.specs.declared.route.PairRoutes.{PairRoutes}
use Rattle.te_model.specs.declared.units.TheConstants.{SHARE_UNIT}
use Rattle.te_model.specs.Pairs.{no_pair}
use Rattle.te_model.specs.Path.{routes_at, no_routes}
use Rattle.te_model.specs.PathRouting.{IsPathSplit, IsPathRouting}
use Rattle.routing.specs.Routes.{HasFewPaths}
use Rattle.routing.specs.Split.{total_weight}
use Rattle.local_recovery.specs.Rates.{has_rates, have_rates, pairs_of, HasPathsOf}
use Rattle.local_recovery.specs.Recovery.{scaled_routes, is_clear, JoinEnds, IsBypassed, IsRecovered}
use Rattle.routing.specs.Normal.{with_whole_weight}
use Rattle.local_recovery.specs.declared.mode.Mode.{Mode}
use Rattle.local_recovery.specs.declared.mode.Mode.TheVariants.{Keep, Scale, Bypass}
use Rattle.local_recovery.proofs.BypassWalks.{IsPathOf, parts_paths, parts_small, bypass_paths_lead}
use Rattle.local_recovery.proofs.Merged.{merged_few, merged_paths}
use Rattle.local_recovery.proofs.Rescaling.{normalized_rates, normalized_paths, filter_small, filter_all}
use Rattle.routing.proofs.Normalizing.{length-normalized}

-- the same pair, with rates over few paths of the network
pub record IsLeft (net : Network) (before after : PairRoutes) : Type 0 where
  pub pair : after.pair ≡ before.pair
  pub paths : All (IsPathOf net after.pair.src after.pair.dst) after.paths
  pub few : length after.paths ≤ 4096
  pub rates : has_rates after ≡ true

kept_left : (net : Network) (r : PairRoutes) → IsPathSplit net r → length r.paths ≤ 4096 → IsLeft net r r
kept_left net r split few = record {
  pair = refl;
  paths = split.paths;
  few = few;
  rates = whole (length r.paths == 0) (total_weight r.paths) split.whole;
}
  where
    whole : (b : Bool) (x : ℕ) → x ≡ SHARE_UNIT → (b || x == SHARE_UNIT) ≡ true
    whole true x e = refl
    whole false x e = rw e refl

-- normalized paths of the pair
normalized_left : (net : Network) (r : PairRoutes) (paths : List PathShare) → All (IsPathOf net r.pair.src r.pair.dst) paths → length paths ≤ 4096 →
    All (λ (s : PathShare). 1 ≤ s.weight) paths → IsLeft net r (record { pair = r.pair; paths = with_whole_weight paths })
normalized_left net r paths all few some = record {
  pair = refl;
  paths = normalized_paths net r.pair.src r.pair.dst paths all;
  few = omega (arith, length-normalized paths, few);
  rates = normalized_rates r.pair paths some;
}

scaled_left : (net : Network) (failed : List Bool) (r : PairRoutes) → IsPathSplit net r → length r.paths ≤ 4096 → IsLeft net r (scaled_routes failed r)
scaled_left net failed r split few =
    normalized_left net r (filter (is_clear failed) r.paths) (filter_all (IsPathOf net r.pair.src r.pair.dst) (is_clear failed) r.paths split.paths)
    (omega (arith, (filter_small (is_clear failed) r.paths).0, few))
    (filter_all (λ (s : PathShare). 1 ≤ s.weight) (is_clear failed) r.paths split.weights)

bypassed_left : (net : Network) (bypass_paths : List (Option (List ℕ))) (r after : PairRoutes) → JoinEnds net bypass_paths → IsPathSplit net r → length r.paths ≤ 4096 →
    IsBypassed net bypass_paths r after → IsLeft net r after
bypassed_left net bypass_paths r after lead split few is =
    let parts = is.0 in
    let merged = is.1 in
    let small = parts_small net bypass_paths r.pair.src r.paths parts is.2 split.weights in
    subst (IsLeft net r) (sym is.4)
    (normalized_left net r merged
    (merged_paths net r.pair.src r.pair.dst parts merged is.3 (parts_paths net bypass_paths r.pair.src r.pair.dst r.paths parts lead split.paths is.2))
    (omega (arith, merged_few parts merged is.3, small.0, few)) (is.3.positive small.2))

-- what is left of each pair
pub record AreLeft (net : Network) (before after : List PairRoutes) : Type 0 where
  pub count : length after ≡ length before
  pub each : (p : ℕ) → p < length before → IsLeft net (routes_at before p) (routes_at after p)

pub recovered_left : (mode : Mode) (net : Network) (failed : List Bool) (before after : List PairRoutes) → IsPathRouting net before →
    HasFewPaths 4096 before → IsRecovered mode net failed before after → AreLeft net before after
recovered_left Keep net failed before after splits few is = record {
  count = ap length is;
  each = λ p below.
      subst (λ rs. IsLeft net (routes_at before p) (routes_at rs p)) (sym is)
      (kept_left net (routes_at before p) (All-get_or (IsPathSplit net) before p no_routes below splits)
      (All-get_or (λ (r : PairRoutes). length r.paths ≤ 4096) before p no_routes below few));
}
recovered_left Scale net failed before after splits few is = record {
  count = ap length is ∙ length-map before (scaled_routes failed);
  each = λ p below.
      subst (IsLeft net (routes_at before p)) (sym (ap (λ rs. routes_at rs p) is ∙ get_or-map (scaled_routes failed) before p no_routes no_routes below))
      (scaled_left net failed (routes_at before p) (All-get_or (IsPathSplit net) before p no_routes below splits)
      (All-get_or (λ (r : PairRoutes). length r.paths ≤ 4096) before p no_routes below few));
}
recovered_left Bypass net failed before after splits few is =
    let lead = bypass_paths_lead net failed is.0 is.1 in
    record {
      count = is.2.count;
      each = λ p below.
          bypassed_left net is.0 (routes_at before p) (routes_at after p) lead (All-get_or (IsPathSplit net) before p no_routes below splits)
          (All-get_or (λ (r : PairRoutes). length r.paths ≤ 4096) before p no_routes below few) (is.2.each p below);
    }

list_all_from : (test : PairRoutes → Bool) (xs : List PairRoutes) → ((k : ℕ) → k < length xs → test (routes_at xs k) ≡ true) → list_all test xs ≡ true
list_all_from test [] each = refl
list_all_from test (x ∷ xs) each =
    and_from (test x) (list_all test xs) (each 0 (omega arith)) (list_all_from test xs (λ k below. each (suc k) (omega arith)))

pub left_rates : (net : Network) (before after : List PairRoutes) → AreLeft net before after → have_rates after ≡ true
left_rates net before after are = list_all_from has_rates after (λ p below. (are.each p (omega (arith, are.count))).rates)

pub left_paths : (net : Network) (before after : List PairRoutes) → AreLeft net before after → HasPathsOf net after
left_paths net before after are =
    All-from_get_or (λ (r : PairRoutes). All (IsPathOf net r.pair.src r.pair.dst) r.paths) after no_routes
    (λ p below. (are.each p (omega (arith, are.count))).paths)

pub left_few : (net : Network) (before after : List PairRoutes) → AreLeft net before after → HasFewPaths 4096 after
left_few net before after are =
    All-from_get_or (λ (r : PairRoutes). length r.paths ≤ 4096) after no_routes (λ p below. (are.each p (omega (arith, are.count))).few)

pub left_pairs : (net : Network) (before after : List PairRoutes) → AreLeft net before after → pairs_of after ≡ pairs_of before
left_pairs net before after are =
    let listed = λ (p : ℕ). (routes_at before p).pair in
    let here = λ (p : ℕ) (below : p < length before).
    get_or-map (λ (r : PairRoutes). r.pair) after p no_routes no_pair (omega (arith, are.count)) ∙ (are.each p below).pair in
    fill_by_all listed (pairs_of after) (length before) no_pair (length-map after (λ r. r.pair) ∙ are.count) here
    ∙ sym (fill_by_all listed (pairs_of before) (length before) no_pair (length-map before (λ r. r.pair))
    (λ p below. get_or-map (λ (r : PairRoutes). r.pair) before p no_routes no_pair below))
