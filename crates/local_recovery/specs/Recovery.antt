-- What stands of a routing on a network of which some links have failed.
use Rattle.std.specs.Prelude.{ℕ, ◌≡◌, ◌<◌, Bool, false, not, List, [], ◌∷◌, ◌++◌, Option, Some, None, length, map, filter, slice_index_or, MatchBool, IsTrue}
use Rattle.std.specs.List.{list_all}
use Rattle.te_model.specs.declared.network.Network.{Network}
use Rattle.te_model.specs.declared.route.PathShare.{PathShare}
use Rattle.te_model.specs.declared.route.PairRoutes.{PairRoutes}
pub use Rattle.te_model.specs.Marks.{is_marked}
use Rattle.te_model.specs.Network.{link_count, tail_of, head_of}
use Rattle.te_model.specs.Path.{chains, routes_at}
use Rattle.routing.specs.Loops.{IsCut}
use Rattle.routing.specs.Merge.{IsMerge}
use Rattle.routing.specs.Normal.{with_whole_weight}
use Rattle.shortest_path.specs.Costs.{costs_of}
use Rattle.shortest_path.specs.Least.{IsLeastWalk}
use Rattle.local_recovery.specs.declared.mode.Mode.{Mode}
use Rattle.local_recovery.specs.declared.mode.Mode.TheVariants.{Keep, Scale, Bypass}

-- the marks of the links that have not failed
abbrev pub open_links : List Bool → List Bool
open_links failed = map not failed

-- whether no link of the path has failed
abbrev pub is_clear : List Bool → PathShare → Bool
is_clear failed s = list_all (λ h. not (is_marked failed h)) s.links

-- the paths of the pair without a failed link, with weights that are scaled to one million
abbrev pub scaled_routes : List Bool → PairRoutes → PairRoutes
scaled_routes failed r = record { pair = r.pair; paths = with_whole_weight (filter (is_clear failed) r.paths) }

-- the bypass path of link h: the link itself, or where it has failed the least path by cost between its ends over links that have
-- not failed, if there is one
abbrev pub IsBypassPath : Network → List Bool → ℕ → Option (List ℕ) → Type 0
IsBypassPath net failed h r =
    MatchBool (is_marked failed h) (IsLeastWalk net (costs_of net) (open_links failed) (tail_of net h) (head_of net h) r) (r ≡ Some (h ∷ []))

abbrev pub bypass_path_at : List (Option (List ℕ)) → ℕ → Option (List ℕ)
bypass_path_at bypass_paths h = slice_index_or bypass_paths h None

-- one for each link
pub record AreBypassPaths (net : Network) (failed : List Bool) (bypass_paths : List (Option (List ℕ))) : Type 0 where
  pub count : length bypass_paths ≡ link_count net
  pub each : (h : ℕ) → h < link_count net → IsBypassPath net failed h (bypass_path_at bypass_paths h)

-- one list after the other, if both are there
abbrev pub join_walks : Option (List ℕ) → Option (List ℕ) → Option (List ℕ)
join_walks None rest = None
join_walks (Some a) None = None
join_walks (Some a) (Some b) = Some (a ++ b)

-- the walk over the bypass paths of the links, if each has one
abbrev pub walk_over : List (Option (List ℕ)) → List ℕ → Option (List ℕ)
walk_over bypass_paths [] = Some []
walk_over bypass_paths (h ∷ hs) = join_walks (bypass_path_at bypass_paths h) (walk_over bypass_paths hs)

-- no part where there is no walk, and else the walk from s without its loops, with this weight
abbrev pub IsBypassPart : Network → ℕ → ℕ → Option (List ℕ) → List PathShare → Type 0
IsBypassPart net s weight None part = part ≡ []
IsBypassPart net s weight (Some walk) part = (cut : List ℕ) × IsCut net s walk cut × (part ≡ record { links = cut; weight = weight } ∷ [])

-- the parts of paths from s, in their order
abbrev pub AreParts : Network → List (Option (List ℕ)) → ℕ → List PathShare → List PathShare → Type 0
AreParts net bypass_paths s [] parts = parts ≡ []
AreParts net bypass_paths s (x ∷ xs) parts =
    (part : List PathShare) × (rest : List PathShare) × IsBypassPart net s x.weight (walk_over bypass_paths x.links) part
    × AreParts net bypass_paths s xs rest × (parts ≡ part ++ rest)

-- the parts of the pair's paths, merged, with weights that are scaled to one million
abbrev pub IsBypassed : Network → List (Option (List ℕ)) → PairRoutes → PairRoutes → Type 0
IsBypassed net bypass_paths before after =
    (parts : List PathShare) × (merged : List PathShare) × AreParts net bypass_paths before.pair.src before.paths parts × IsMerge parts merged
    × (after ≡ record { pair = before.pair; paths = with_whole_weight merged })

-- what stands of each pair
pub record IsBypassedBy (net : Network) (bypass_paths : List (Option (List ℕ))) (before after : List PairRoutes) : Type 0 where
  pub count : length after ≡ length before
  pub each : (p : ℕ) → p < length before → IsBypassed net bypass_paths (routes_at before p) (routes_at after p)

-- what stands of a routing in a mode
abbrev pub IsRecovered : Mode → Network → List Bool → List PairRoutes → List PairRoutes → Type 0
IsRecovered Keep net failed before after = after ≡ before
IsRecovered Scale net failed before after = after ≡ map (scaled_routes failed) before
IsRecovered Bypass net failed before after =
    (bypass_paths : List (Option (List ℕ))) × AreBypassPaths net failed bypass_paths × IsBypassedBy net bypass_paths before after

-- the bypass path of a link leads from its tail to its head
pub record JoinEnds (net : Network) (bypass_paths : List (Option (List ℕ))) : Type 0 where
  pub count : length bypass_paths ≡ link_count net
  pub each : (h : ℕ) (walk : List ℕ) → h < link_count net → bypass_path_at bypass_paths h ≡ Some walk → IsTrue (chains net (tail_of net h) (head_of net h) walk)
