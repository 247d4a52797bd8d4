-- The detours of a pair with even weights are a split of it.
use Rattle.std.proofs.Common.{◌≡◌, ℕ, ◌+◌, ◌<◌, ◌≤◌, true, List, [], ◌∷◌, ◌++◌, Option, None, length, map, slice_index_or, arith, subst, sym, ◌∙◌, ap}
use Rattle.std.proofs.lemmas.List.{get_or_default, get_or_read_under}
use Rattle.te_model.specs.declared.network.Network.{Network}
use Rattle.te_model.specs.declared.route.Pair.{Pair}
use Rattle.te_model.specs.declared.route.Path.{Path}
use Rattle.te_model.specs.declared.route.PathShare.{PathShare}
use Rattle.te_model.specs.declared.limits.TheConstants.{FORMAT_2}
use Rattle.te_model.specs.Network.{is_well_formed, node_count}
use Rattle.te_model.proofs.Choices.{pushed_count, pushed_each}
use Rattle.te_model.proofs.WellFormed.{few_nodes}
use Rattle.shortest_path.specs.Paths.{HasPath}
use Rattle.routing.specs.Even.{IsEvenMix, of_weight_one}
use Rattle.routing.specs.Normal.{with_whole_weight}
use Rattle.routing.proofs.EvenSplits.{even_few, even_split}
use Rattle.routing.proofs.MergesMade.{merge_exists}
use Rattle.scheme.specs.Fixed.{IsSplitBy}
use Rattle.scheme.specs.Reach.{IsPairOf}
use Rattle.valiant_mix.specs.Laws.{ValiantSplitsExist}
use Rattle.valiant_mix.specs.Valiant.{AreDetours, IsValiantSplit}
use Rattle.valiant_mix.specs.Legs.{AreLegsTo, AreLegsToEach, IsLegOrNone, no_legs}
use Rattle.valiant_mix.specs.declared.legs.Legs.{Legs}
use Rattle.valiant_mix.proofs.DetoursMade.{by_the_source, detours_exist, has_detours}

-- the links of the paths, in order
abbrev pub links_in_order : List Path → List (List ℕ)
links_in_order paths = map (λ (p : Path). p.links) paths

-- a leg from one node more
pub legs_to_more : (net : Network) (t n : ℕ) (list : List (Option Path)) (leg : Option Path) → AreLegsTo net t n list → IsLegOrNone net n t leg →
    AreLegsTo net t (n + 1) (list ++ leg ∷ [])
legs_to_more net t n list leg are is = record {
  count = pushed_count list leg n are.count;
  each = pushed_each (λ s l. IsLegOrNone net s t l) list leg None n are.count are.each is;
}

-- the legs to one node more
pub legs_more : (net : Network) (n : ℕ) (list : List Legs) (legs : Legs) → AreLegsToEach net n list → AreLegsTo net n (node_count net) legs.sources →
    AreLegsToEach net (n + 1) (list ++ legs ∷ [])
legs_more net n list legs are is = record {
  count = pushed_count list legs n are.count;
  each = pushed_each (λ t l. AreLegsTo net t (node_count net) l.sources) list legs no_legs n are.count are.each is;
}

-- the leg at a place of the legs at a place
pub leg_inside : (net : Network) (s t : ℕ) (list : List Legs) (d : Legs) (sources : List (Option Path)) (leg : Option Path) →
    AreLegsToEach net (node_count net) list → t < node_count net → s < node_count net →
    sources ≡ (slice_index_or list t d).sources → leg ≡ slice_index_or sources s leg → IsLegOrNone net s t leg
leg_inside net s t list d sources leg are below inside at is =
    let legs : slice_index_or list t d ≡ slice_index_or list t no_legs = get_or_default list t d no_legs (omega (arith, below, are.count)) in
    let to : AreLegsTo net t (node_count net) sources =
    subst (AreLegsTo net t (node_count net)) (sym (at ∙ ap (λ (l : Legs). l.sources) legs)) (are.each t below)
    in
    subst (IsLegOrNone net s t) (sym (get_or_read_under sources s (node_count net) leg None is inside (sym to.count))) (to.each s inside)

-- the detours of a pair that has a path are some
pub some_detour : (net : Network) (pair : Pair) (paths : List (List ℕ)) → is_well_formed net ≡ true → IsPairOf net pair → HasPath net pair.src pair.dst →
    AreDetours net pair.src pair.dst (node_count net) paths → 0 < length paths
some_detour net pair paths formed ends has are =
    let (path, is) = by_the_source net formed pair.src pair.dst ends.src_inside ends.dst_inside has in
    (has_detours net pair.src pair.dst (node_count net) paths are).some pair.src ends.src_inside path is

-- there are few of them
pub few_detours : (net : Network) (s t : ℕ) (paths : List (List ℕ)) → is_well_formed net ≡ true → AreDetours net s t (node_count net) paths → length paths ≤ 4096
few_detours net s t paths formed are =
    let few = (has_detours net s t (node_count net) paths are).few in
    let small = few_nodes net formed in
    omega (arith, few, small)

-- their even mix is a split
pub detours_split : (net : Network) (pair : Pair) (paths : List (List ℕ)) (merged : List PathShare) → is_well_formed net ≡ true → 0 < length paths →
    AreDetours net pair.src pair.dst (node_count net) paths → IsEvenMix paths merged →
    IsSplitBy IsValiantSplit (node_count net) net (record { pair = pair; paths = merged })
detours_split net pair paths merged formed some are even =
    let has = has_detours net pair.src pair.dst (node_count net) paths are in
    let small = few_detours net pair.src pair.dst paths formed are in
    record {
      split = even_split net pair paths merged some (omega (arith, small)) has.sound even;
      few = let few = has.few in let less = even_few paths merged even in omega (arith, few, less);
      by_rule = (paths, are, even);
    }

-- .. over no more paths than the greater format has nodes
pub within_format : (net : Network) (pair : Pair) (paths : List PathShare) → is_well_formed net ≡ true →
    IsSplitBy IsValiantSplit (node_count net) net (record { pair = pair; paths = paths }) →
    IsSplitBy IsValiantSplit FORMAT_2.nodes net (record { pair = pair; paths = paths })
within_format net pair paths formed is = record {
  split = is.split;
  few = let few = is.few in let small = few_nodes net formed in omega (arith, few, small);
  by_rule = is.by_rule;
}

pub valiant_splits_exist : ValiantSplitsExist
valiant_splits_exist net formed pair ends has =
    let (paths, are) = detours_exist net formed pair.src pair.dst ends.src_inside ends.dst_inside (node_count net) (omega arith) in
    let some = some_detour net pair paths formed ends has are in
    let (merged, even) = merge_exists (with_whole_weight (of_weight_one paths)) in
    (merged, detours_split net pair paths merged formed some are even)
