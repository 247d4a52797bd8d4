-- The matrices that an attack tries, in order, and which of them it chooses.
use Rattle.std.specs.Prelude.{◌≡◌, ◌⊎◌, ℕ, ◌-◌, ◌*◌, ◌^◌, ◌<◌, ◌≤◌, ◌&&◌, ◌||◌, Bool, List, [], ◌∷◌, ◌++◌, All, Contains, length, map, min, Option, Some, None, nat_le, nat_lt, replicate, slice_index, slice_set, ◌==◌, if◌then◌else◌}
use Rattle.std.specs.List.{list_all, range_with_len}
use Rattle.te_model.specs.declared.certificate.Head.{Head}
use Rattle.te_model.specs.declared.demand.DemandSet.{DemandSet}
use Rattle.te_model.specs.declared.demand.DemandSet.TheVariants.{All as AllMatrices, Margin, Box}
use Rattle.te_model.specs.declared.demand.Matrix.{Matrix}
use Rattle.te_model.specs.declared.network.Network.{Network}
use Rattle.te_model.specs.declared.route.Pair.{Pair}
use Rattle.te_model.specs.declared.route.PairRoutes.{PairRoutes}
use Rattle.te_model.specs.declared.route.PathShare.{PathShare}
use Rattle.te_model.specs.Counting.{sum_below}
use Rattle.te_model.specs.Network.{capacity_of, head_of, link_count, tail_of}
use Rattle.witness_search.specs.declared.attempt.Attempt.{Attempt}
use Rattle.witness_search.specs.declared.attempt.Tried.{Tried}
use Rattle.ratio_witness.specs.declared.witness.Witness.{Witness}
use Rattle.ratio_witness.specs.Witness.{IsRivalOf, performance_ratio}

-- pair p alone, of n pairs, with a demand of one million
abbrev pub alone : ℕ → ℕ → Tried
alone n p =
    record { place = p; demand = record { demand = slice_set (replicate n 0) p 1000000 }; x = 1; y = 1 }

-- what the links from the source of a pair to its destination carry together
abbrev pub capacity_between : Network → Pair → ℕ
capacity_between net pair = sum_below (link_count net) (λ h. if tail_of net h == pair.src && head_of net h == pair.dst then capacity_of net h else 0)

-- the same, cut at the greatest demand of a witness
abbrev pub direct_capacity : Network → Pair → ℕ
direct_capacity net pair = min (capacity_between net pair) (2 ^ 32)

-- the matrix of direct capacities
abbrev pub direct_capacities : Head → Tried
direct_capacities h =
    record { place = length h.routes; demand = record { demand = map (λ r. direct_capacity h.network r.pair) h.routes }; x = 1; y = 1 }

-- the base of a margin: den * den times it is the lower bound
abbrev pub base_tried : ℕ → Matrix → Tried
base_tried den base = record { place = 0; demand = base; x = 1; y = den * den }

-- a bound of a box
abbrev pub bound_tried : ℕ → Matrix → Tried
bound_tried place bound = record { place = place; demand = bound; x = 1; y = 1 }

-- a bound of a box, where its numbers are small enough for a witness
abbrev pub bounds_tried : ℕ → Matrix → List Tried
bounds_tried place bound = if list_all (λ d. nat_le d (2 ^ 32)) bound.demand then bound_tried place bound ∷ [] else []

-- what is tried, if anything is
abbrev pub as_list : Option Tried → List Tried
as_list None = []
as_list (Some t) = t ∷ []

-- what is tried: of all each pair alone and the direct capacities; of a margin its base; of a box its bounds
abbrev pub tried_of : Head → DemandSet → List Tried
tried_of h AllMatrices = map (alone (length h.routes)) (range_with_len 0 (length h.routes)) ++ direct_capacities h ∷ []
tried_of h (Margin num den base) = base_tried den base ∷ []
tried_of h (Box lower upper) = bounds_tried 0 lower ++ bounds_tried 1 upper

-- the rival's paths by the routes
abbrev pub paths_by : List PairRoutes → List (List PathShare)
paths_by routes = map (λ r. r.paths) routes

-- how many times a rival's greatest utilisation that of the head's routing is, under a matrix
abbrev pub tried_ratio : Head → Tried → List (List PathShare) → ℕ
tried_ratio h t rival = performance_ratio h.network h.routes (slice_index t.demand.demand) rival

-- the ratio a, of place j, comes before the ratio b, of place k
abbrev pub comes_before : ℕ → ℕ → ℕ → ℕ → Bool
comes_before j k a b = nat_lt b a || (a == b && nat_lt j k)

-- the first ratio, of place j, is 0, or less than the second, of place k, or at most that and not before it
abbrev pub IsUpToAt : ℕ → ℕ → ℕ → ℕ → Type 0
IsUpToAt j k a b = (a ≡ 0) ⊎ (a < b) ⊎ ((k ≤ j) × (a ≤ b))

-- A matrix is no better than that of place k, whose ratio this is: the scheme's routing of it, in the relation Routes, shows
-- no more, or no rival of it at all does.
abbrev pub IsNoBetter : Head → (List ℕ → List PairRoutes → Type 0) → ℕ → ℕ → Tried → Type 0
IsNoBetter h Routes k ratio t =
    ((routes : List PairRoutes) × Routes t.demand.demand routes × IsUpToAt t.place k (tried_ratio h t (paths_by routes)) ratio)
    ⊎ ((rival : List (List PathShare)) → IsRivalOf h.network h.routes (slice_index t.demand.demand) rival →
    IsUpToAt t.place k (tried_ratio h t rival) ratio)

-- the witness of a matrix and of the scheme's routing of it, whose ratio is above 0 and the first of the greatest
pub record IsBestTry (h : Head) (Routes : List ℕ → List PairRoutes → Type 0) (w : Witness) : Type 0 where
  pub tried : Tried
  pub is_tried : Contains (tried_of h h.set) tried
  pub demand : w.demand ≡ tried.demand
  pub scale : (w.x ≡ tried.x) × (w.y ≡ tried.y)
  pub routes : List PairRoutes
  pub routed : Routes w.demand.demand routes
  pub rival : w.rival ≡ paths_by routes
  pub some : 0 < tried_ratio h tried w.rival
  pub bound : w.bound ≡ min (tried_ratio h tried w.rival) (10 ^ 19 - 1)
  pub best : All (λ t. ¬ (t.place ≡ tried.place) → IsNoBetter h Routes tried.place (tried_ratio h tried w.rival) t) (tried_of h h.set)

-- the scale of a witness without a demand
abbrev pub no_demand_scale : DemandSet → ℕ
no_demand_scale AllMatrices = 1
no_demand_scale (Margin num den base) = 0
no_demand_scale (Box lower upper) = 0

-- the witness that shows nothing: no demands and no paths
abbrev pub nothing_of : Head → Witness
nothing_of h =
    record {
      bound = 0;
      x = no_demand_scale h.set;
      y = 1;
      demand = record { demand = replicate (length h.routes) 0 };
      rival = replicate (length h.routes) [];
    }

-- the witness of an attempt, with the ratio that it shows as its bound
abbrev pub witness_by : Attempt → Witness
witness_by a = record a.witness { bound = min a.ratio (10 ^ 19 - 1) }

-- the witness of the best attempt, if there is one and its ratio is above 0, or else the one that shows nothing
abbrev pub IsWitnessBy : Head → Option Attempt → Witness → Type 0
IsWitnessBy h None w = w ≡ nothing_of h
IsWitnessBy h (Some a) w = ((a.ratio ≡ 0) × (w ≡ nothing_of h)) ⊎ ((0 < a.ratio) × (w ≡ witness_by a))

-- it is chosen where no matrix that is tried has a ratio above 0
pub record ShowsNothing (h : Head) (Routes : List ℕ → List PairRoutes → Type 0) (w : Witness) : Type 0 where
  pub same : w ≡ nothing_of h
  pub none : All (IsNoBetter h Routes 0 0) (tried_of h h.set)

-- the witness that an attack chooses
abbrev pub IsChosen : Head → (List ℕ → List PairRoutes → Type 0) → Witness → Type 0
IsChosen h Routes w = IsBestTry h Routes w ⊎ ShowsNothing h Routes w
