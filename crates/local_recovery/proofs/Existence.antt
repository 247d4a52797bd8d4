-- Something is left of a routing in each mode, and routes over some pairs can be spread over all of them.
use Rattle.std.proofs.Common.{◌≡◌, ◌⊎◌, ℕ, ◌<◌, Bool, true, false, Option, Some, None, List, [], ◌∷◌, ◌++◌, length, map, All, arith, refl, inl, inr}
use Rattle.std.specs.Prelude.{MatchBool, filter, if◌then◌else◌}
use Rattle.std.specs.List.{Contains}
use Rattle.std.proofs.lemmas.Bool.{and_parts}
use Rattle.std.proofs.lemmas.List.Elements.{All-nil, All-cons, All-head, All-tail, All-get_or, All-weaker, Contains-append_right}
use Rattle.te_model.specs.declared.network.Network.{Network}
use Rattle.te_model.specs.declared.route.Pair.{Pair}
use Rattle.te_model.specs.declared.route.PathShare.{PathShare}
use Rattle.te_model.specs.declared.route.PairRoutes.{PairRoutes}
use Rattle.te_model.specs.Network.{is_well_formed, link_count, tail_of, head_of}
use Rattle.te_model.specs.Path.{chains, is_distinct, nodes_visited, routes_at, no_routes}
use Rattle.te_model.specs.PathRouting.{IsPathRouting, IsPathSplit}
use Rattle.te_model.proofs.Choices.{list_exists}
use Rattle.shortest_path.specs.Costs.{costs_of}
use Rattle.shortest_path.specs.Least.{IsLeastWalk}
use Rattle.shortest_path.proofs.Existence.{least_walks_exist}
use Rattle.shortest_path.proofs.Sound.{has_costs, sound}
use Rattle.routing.specs.Normal.{with_whole_weight}
use Rattle.routing.proofs.CutsMade.{cut_exists}
use Rattle.routing.proofs.MergesMade.{merge_exists}
use Rattle.local_recovery.specs.declared.mode.Mode.{Mode}
use Rattle.local_recovery.specs.declared.mode.Mode.TheVariants.{Keep, Scale, Bypass}
use Rattle.local_recovery.specs.Laws.{RecoveriesExist, SpreadsExist}
use Rattle.local_recovery.specs.Rates.{pairs_of}
use Rattle.local_recovery.specs.Recovery.{is_marked, open_links, scaled_routes, walk_over, IsBypassPath, AreBypassPaths, JoinEnds, IsBypassPart, AreParts, IsBypassed, IsBypassedBy, IsRecovered}
use Rattle.local_recovery.specs.Spread.{IsSpread, IsSublist}
use Rattle.local_recovery.proofs.BypassWalks.{IsPathOf, bypass_paths_lead, walk_chains}
use Rattle.local_recovery.proofs.SpreadRates.{spread_rates}
use Rattle.local_recovery.proofs.Left.{recovered_left, left_rates, left_paths, left_few, left_pairs}

bypass_path_exists : (net : Network) (failed : List Bool) (h : ℕ) → is_well_formed net ≡ true → h < link_count net → (r : Option (List ℕ)) × IsBypassPath net failed h r
bypass_path_exists net failed h formed below = go (is_marked failed h)
  where
    go : (b : Bool) → (r : Option (List ℕ)) × MatchBool b (IsLeastWalk net (costs_of net) (open_links failed) (tail_of net h) (head_of net h) r) (r ≡ Some (h ∷ []))
    go true =
        let costs = has_costs net formed in
        let ends = sound net formed in
        least_walks_exist net (costs_of net) formed costs.count costs.positive (open_links failed) (tail_of net h) (head_of net h) (ends.tails h below) (ends.heads h below)
    go false = (Some (h ∷ []), refl)

bypass_paths_exist : (net : Network) (failed : List Bool) → is_well_formed net ≡ true → (bypass_paths : List (Option (List ℕ))) × AreBypassPaths net failed bypass_paths
bypass_paths_exist net failed formed =
    let (bypass_paths, count, each) = list_exists (IsBypassPath net failed) None (link_count net) (λ h below. bypass_path_exists net failed h formed below) in
    (bypass_paths, record { count = count; each = each })

part_exists : (net : Network) (s t weight : ℕ) (walk : Option (List ℕ)) → ((w : List ℕ) → walk ≡ Some w → chains net s t w ≡ true) →
    (part : List PathShare) × IsBypassPart net s weight walk part
part_exists net s t weight None leads = ([], refl)
part_exists net s t weight (Some walk) leads =
    let (cut, is) = cut_exists net s t walk (leads walk refl) in
    (record { links = cut; weight = weight } ∷ [], (cut, is, refl))

parts_exist : (net : Network) (bypass_paths : List (Option (List ℕ))) (s t : ℕ) (xs : List PathShare) → JoinEnds net bypass_paths → All (IsPathOf net s t) xs →
    (parts : List PathShare) × AreParts net bypass_paths s xs parts
parts_exist net bypass_paths s t [] lead paths = ([], refl)
parts_exist net bypass_paths s t (x ∷ xs) lead paths =
    let chain = (and_parts (chains net s t x.links) (is_distinct (nodes_visited net s x.links)) (All-head (IsPathOf net s t) x xs paths)).0 in
    let (part, is) = part_exists net s t x.weight (walk_over bypass_paths x.links) (λ w e. walk_chains net bypass_paths s t x.links w lead chain e) in
    let (rest, are) = parts_exist net bypass_paths s t xs lead (All-tail (IsPathOf net s t) x xs paths) in
    (part ++ rest, (part, rest, is, are, refl))

bypassed_exists : (net : Network) (bypass_paths : List (Option (List ℕ))) (r : PairRoutes) → JoinEnds net bypass_paths → IsPathSplit net r →
    (after : PairRoutes) × IsBypassed net bypass_paths r after
bypassed_exists net bypass_paths r lead split =
    let (parts, are) = parts_exist net bypass_paths r.pair.src r.pair.dst r.paths lead split.paths in
    let (merged, is) = merge_exists parts in
    (record { pair = r.pair; paths = with_whole_weight merged }, (parts, merged, are, is, refl))

all_bypassed_exist : (net : Network) (bypass_paths : List (Option (List ℕ))) (before : List PairRoutes) → JoinEnds net bypass_paths → IsPathRouting net before →
    (after : List PairRoutes) × IsBypassedBy net bypass_paths before after
all_bypassed_exist net bypass_paths before lead splits =
    let (after, count, each) = list_exists (λ p r. IsBypassed net bypass_paths (routes_at before p) r) no_routes (length before)
    (λ p below. bypassed_exists net bypass_paths (routes_at before p) lead (All-get_or (IsPathSplit net) before p no_routes below splits)) in
    (after, record { count = count; each = each })

recovered_exists : (mode : Mode) (net : Network) → is_well_formed net ≡ true → (failed : List Bool) (before : List PairRoutes) → IsPathRouting net before →
    (after : List PairRoutes) × IsRecovered mode net failed before after
recovered_exists Keep net formed failed before splits = (before, refl)
recovered_exists Scale net formed failed before splits = (map (scaled_routes failed) before, refl)
recovered_exists Bypass net formed failed before splits =
    let (bypass_paths, are) = bypass_paths_exist net failed formed in
    let (after, is) = all_bypassed_exist net bypass_paths before (bypass_paths_lead net failed bypass_paths are) splits in
    (after, (bypass_paths, are, is))

pub recoveries_exist : RecoveriesExist
recoveries_exist mode net formed failed before splits few =
    let (after, is) = recovered_exists mode net formed failed before splits in
    let left = recovered_left mode net failed before after splits few is in
    (after, is, left_pairs net before after left, left_paths net before after left, left_few net before after left, left_rates net before after left)

-- one pair more before the others, with these routes
spread_on : (q : Pair) (ds : List Pair) (own more : List PairRoutes) (r : PairRoutes) (rest : List PairRoutes) → r.pair ≡ q →
    All (Contains (r ∷ rest)) own → Contains own r ⊎ (r.paths ≡ []) → ((x : PairRoutes) → Contains more x → Contains own x) →
    IsSpread ds more rest → IsSpread (q ∷ ds) own (r ∷ rest)
spread_on q ds own more r rest pair kept new inside is = record {
  pairs_are = cc (pair, is.pairs_are);
  kept = kept;
  added = All-cons (λ x. Contains own x ⊎ (x.paths ≡ [])) r rest new
      (All-weaker (λ x. Contains more x ⊎ (x.paths ≡ [])) (λ x. Contains own x ⊎ (x.paths ≡ []))
      (λ x has. elim has [ inl held ↦ inl (inside x held) | inr none ↦ inr none ]) rest is.added);
}

-- what stands in the rest stands in the whole
held_on : (r : PairRoutes) (rest own : List PairRoutes) → All (Contains rest) own → All (Contains (r ∷ rest)) own
held_on r rest own all = All-weaker (Contains rest) (Contains (r ∷ rest)) (λ x has. Contains-append_right (r ∷ []) rest x has) own all

spread_exists : (pairs : List Pair) (own : List PairRoutes) → IsSublist (pairs_of own) pairs → (after : List PairRoutes) × IsSpread pairs own after
spread_exists [] [] sub = ([], record { pairs_are = refl; kept = All-nil (Contains []); added = All-nil (λ r. Contains [] r ⊎ (r.paths ≡ [])) })
spread_exists [] (r ∷ rs) sub = absurd (cc (sub.1))
spread_exists (q ∷ ds) own sub = go (sub.0 q) own sub.1 (spread_exists ds)
  where
    go : (b : Bool) (own : List PairRoutes) → pairs_of own ≡ (if b then q ∷ filter sub.0 ds else filter sub.0 ds) →
        ((more : List PairRoutes) → IsSublist (pairs_of more) ds → (after : List PairRoutes) × IsSpread ds more after) →
        (after : List PairRoutes) × IsSpread (q ∷ ds) own after
    go true [] e others = absurd (cc (e))
    go true (r ∷ rs) e others =
        let rest_are : pairs_of rs ≡ filter sub.0 ds = cc (e) in
        let pair : r.pair ≡ q = cc (e) in
        let (rest, is) = others rs (sub.0, rest_are) in (
          r ∷ rest,
          spread_on q ds (r ∷ rs) rs r rest pair
              (All-cons (Contains (r ∷ rest)) r rs (0, omega arith, refl) (held_on r rest rs is.kept))
              (inl (0, omega arith, refl)) (λ x has. Contains-append_right (r ∷ []) rs x has) is,
        )
    go false own e others =
        let r : PairRoutes = record { pair = q; paths = [] } in
        let (rest, is) = others own (sub.0, e) in
        (r ∷ rest, spread_on q ds own own r rest refl (held_on r rest own is.kept) (inr refl) (λ x has. has) is)

pub spreads_exist : SpreadsExist
spreads_exist pairs own sub =
    let (after, spread) = spread_exists pairs own sub in
    (after, spread, λ net are paths few. spread_rates net pairs own after are paths few spread)
