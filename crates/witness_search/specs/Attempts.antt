-- What the scheme's routing of a matrix shows.
use Rattle.std.specs.Prelude.{◌≡◌, ◌⊎◌, ℕ, ◌^◌, ◌<◌, ◌≤◌, List, [], All, Contains, Option, Some, None, length, map, slice_index}
use Rattle.te_model.specs.declared.certificate.Head.{Head}
use Rattle.te_model.specs.declared.route.Pair.{Pair}
use Rattle.te_model.specs.declared.route.PairRoutes.{PairRoutes}
use Rattle.te_model.specs.declared.route.PathShare.{PathShare}
use Rattle.te_model.specs.Pairs.{AreDemands}
use Rattle.witness_search.specs.declared.attempt.Attempt.{Attempt}
use Rattle.witness_search.specs.declared.attempt.Tried.{Tried}
use Rattle.witness_search.specs.Candidates.{alone, direct_capacities, paths_by, tried_of, IsNoBetter, IsUpToAt}
use Rattle.ratio_witness.specs.Text.{IsWitnessOf}
use Rattle.ratio_witness.specs.Verdict.{ratio_shown}
use Rattle.ratio_witness.specs.Witness.{performance_ratio, IsRivalOf}

-- the declared pairs of a head
abbrev pub pairs_of : Head → List Pair
pairs_of h = map (λ r. r.pair) h.routes

-- the routings of a matrix that stand in a scheme's relation with some note
abbrev pub RoutesBy : {N : Type 0} → (List ℕ → List PairRoutes → N → Type 0) → List ℕ → List PairRoutes → Type 0
RoutesBy {N} relates demand routes = (note : N) × relates demand routes note

-- a demand of at most 2 ^ 32 for each pair, and a scale within its limits
pub record CanTry (h : Head) (tried : Tried) : Type 0 where
  pub demands : AreDemands (length h.routes) tried.demand.demand
  pub x : tried.x ≤ 2 ^ 36
  pub y : (1 ≤ tried.y) × (tried.y ≤ 2 ^ 36)

-- a witness of bound 0 of the matrix and of the scheme's routing of it, and the ratio that it shows
pub record IsAttempt (h : Head) (Routes : List ℕ → List PairRoutes → Type 0) (tried : Tried) (a : Attempt) : Type 0 where
  pub place : a.place ≡ tried.place
  pub bound : a.witness.bound ≡ 0
  pub demand : a.witness.demand ≡ tried.demand
  pub scale : (a.witness.x ≡ tried.x) × (a.witness.y ≡ tried.y)
  pub routes : List PairRoutes
  pub routed : Routes tried.demand.demand routes
  pub rival : a.witness.rival ≡ paths_by routes
  pub witness : IsWitnessOf h a.witness
  pub ratio : a.ratio ≡ ratio_shown h a.witness

-- no rival of pair p alone shows more than this
abbrev pub IsLimit : Head → ℕ → ℕ → Type 0
IsLimit h p limit =
    (demand : ℕ → ℕ) (rival : List (List PathShare)) → ((q : ℕ) → q < length h.routes → ¬ (q ≡ p) → demand q ≡ 0) →
    IsRivalOf h.network h.routes demand rival → performance_ratio h.network h.routes demand rival ≤ limit

-- such a limit of each pair
pub record AreLimits (h : Head) (limits : List ℕ) : Type 0 where
  pub count : length limits ≡ length h.routes
  pub each : (p : ℕ) → p < length h.routes → IsLimit h p (slice_index limits p)

-- the matrix is the one of the best attempt, or no better than it
abbrev pub IsDone : Head → (List ℕ → List PairRoutes → Type 0) → Tried → ℕ → Tried → Type 0
IsDone h Routes best ratio t = (t ≡ best) ⊎ IsNoBetter h Routes best.place ratio t

-- an attempt of one of the matrices that are tried, which none of the others comes before
pub record IsBestAttempt (h : Head) (Routes : List ℕ → List PairRoutes → Type 0) (a : Attempt) : Type 0 where
  pub tried : Tried
  pub is_tried : Contains (tried_of h h.set) tried
  pub attempt : IsAttempt h Routes tried a
  pub best : All (IsDone h Routes tried a.ratio) (tried_of h h.set)

-- the best attempt, or that nothing is tried
abbrev pub GivesBest : Head → (List ℕ → List PairRoutes → Type 0) → Option Attempt → Type 0
GivesBest h Routes None = tried_of h h.set ≡ []
GivesBest h Routes (Some a) = IsBestAttempt h Routes a

-- what is tried, if anything is, and its attempt
abbrev pub AreAttempts : Head → (List ℕ → List PairRoutes → Type 0) → Option Tried → Option Attempt → Type 0
AreAttempts h Routes None None = Unit {0}
AreAttempts h Routes None (Some a) = ⊥
AreAttempts h Routes (Some t) None = ⊥
AreAttempts h Routes (Some t) (Some a) = IsAttempt h Routes t a

-- one of two attempts, than which neither is better
abbrev pub IsBetter : Attempt → Attempt → Attempt → Type 0
IsBetter a b better =
    ((better ≡ a) ⊎ (better ≡ b)) × IsUpToAt a.place better.place a.ratio better.ratio × IsUpToAt b.place better.place b.ratio better.ratio

-- the same where each may be missing
abbrev pub IsBetterOfTwo : Option Attempt → Option Attempt → Option Attempt → Type 0
IsBetterOfTwo None second better = better ≡ second
IsBetterOfTwo (Some a) None better = better ≡ Some a
IsBetterOfTwo (Some a) (Some b) None = ⊥
IsBetterOfTwo (Some a) (Some b) (Some better) = IsBetter a b better

-- Every matrix: the direct capacities are done, and each pair alone is done, or its limit stands in the list.
pub record IsBestSoFar (h : Head) (Routes : List ℕ → List PairRoutes → Type 0) (limits : List ℕ) (best : Attempt) (tried : Tried) : Type 0 where
  pub attempt : IsAttempt h Routes tried best
  pub which : (tried ≡ direct_capacities h) ⊎ ((p : ℕ) × (p < length h.routes) × (tried ≡ alone (length h.routes) p))
  pub direct : IsDone h Routes tried best.ratio (direct_capacities h)
  pub count : length limits ≡ length h.routes
  pub pairs : (p : ℕ) → p < length h.routes → IsLimit h p (slice_index limits p) ⊎ IsDone h Routes tried best.ratio (alone (length h.routes) p)
