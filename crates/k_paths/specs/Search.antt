-- Candidates, the splitting of a class, and how far the search for the least paths has come.
use Rattle.std.specs.Prelude.{◌≡◌, ◌⊎◌, ℕ, ◌+◌, ◌<◌, ◌≤◌, IsTrue, List, [], take, All, MatchOption, Option, length, slice_index_or}
use Rattle.std.specs.List.{Contains}
use Rattle.te_model.specs.declared.network.Network.{Network}
use Rattle.te_model.specs.Network.{link_count, tail_of}
use Rattle.te_model.specs.Path.{is_path}
use Rattle.shortest_path.specs.declared.ways.Ways.{Ways}
use Rattle.shortest_path.specs.Costs.{IsBefore}
use Rattle.shortest_path.specs.Paths.{sum_along}
use Rattle.k_paths.specs.declared.candidate.Candidate.{Candidate}
use Rattle.k_paths.specs.declared.candidate.BoundedClass.{BoundedClass}
use Rattle.k_paths.specs.Classes.{InClass, IsLeastOfClass, IsPrefix, excluded_at}
use Rattle.k_paths.specs.Ways.{IsFirstLeastAt, sum_over}

-- the path is of the candidate's class
abbrev pub IsOf : Network → ℕ → ℕ → Candidate → List ℕ → Type 0
IsOf net s t c q = InClass net s t (take c.fixed c.links) c.excluded q

abbrev pub IsLeastCandidate : Network → ℕ → ℕ → Candidate → Type 0
IsLeastCandidate net s t c = IsLeastOfClass net s t c.links c.fixed c.excluded

-- the path is of the class
abbrev pub IsWithin : Network → ℕ → ℕ → BoundedClass → List ℕ → Type 0
IsWithin net s t c q = InClass net s t c.prefix c.excluded q

-- the bound of a class is the cost of its prefix and the least sum over the links with which its paths may go on, of which first is the first
pub record IsBounded (net : Network) (s : ℕ) (ways : Ways) (c : BoundedClass) : Type 0 where
  pub prefix : IsPrefix net s ways.dst (tail_of net c.first) c.prefix
  pub sum : ℕ
  pub first : IsFirstLeastAt (sum_over net ways s c.prefix c.excluded (tail_of net c.first)) (link_count net) c.first sum
  pub is : c.bound ≡ sum_along ways.costs c.prefix + sum

-- the class of the paths that begin with the prefix and go on with a link that is not excluded, or none where there is no such path
abbrev pub IsClassOf : Network → ℕ → Ways → List ℕ → List ℕ → Option BoundedClass → Type 0
IsClassOf net s ways prefix excluded found =
    MatchOption found ((q : List ℕ) → InClass net s ways.dst prefix excluded q → ⊥)
    (λ c. IsBounded net s ways c × (c.prefix ≡ prefix) × (c.excluded ≡ excluded))

-- a class of paths that are of the candidate's class and not its least
pub record IsPartOf (net : Network) (s : ℕ) (ways : Ways) (c : Candidate) (d : BoundedClass) : Type 0 where
  pub bounded : IsBounded net s ways d
  pub inside : (q : List ℕ) → IsWithin net s ways.dst d q → IsOf net s ways.dst c q
  pub other : (q : List ℕ) → IsWithin net s ways.dst d q → q ≡ c.links → ⊥

-- classes of those paths of a candidate's class that leave its least path before place i
pub record SplitsBelow (net : Network) (s : ℕ) (ways : Ways) (c : Candidate) (i : ℕ) (old new : List BoundedClass) : Type 0 where
  pub kept : (d : BoundedClass) → Contains old d → Contains new d
  pub added : (d : BoundedClass) → Contains new d → Contains old d ⊎ IsPartOf net s ways c d
  pub cover : (j : ℕ) → c.fixed ≤ j → j < i → (q : List ℕ) → InClass net s ways.dst (take j c.links) (excluded_at c.links c.fixed c.excluded j) q →
      (d : BoundedClass) × Contains new d × IsWithin net s ways.dst d q

-- classes of all paths of the candidate's class but its least
pub record Splits (net : Network) (s : ℕ) (ways : Ways) (c : Candidate) (old new : List BoundedClass) : Type 0 where
  pub kept : (d : BoundedClass) → Contains old d → Contains new d
  pub added : (d : BoundedClass) → Contains new d → Contains old d ⊎ IsPartOf net s ways c d
  pub cover : (q : List ℕ) → IsOf net s ways.dst c q → (q ≡ c.links → ⊥) → (d : BoundedClass) × Contains new d × IsWithin net s ways.dst d q

-- the links come first among those of the candidates
abbrev pub AreFirst : Network → List ℕ → List Candidate → Type 0
AreFirst net best candidates = (c : Candidate) → Contains candidates c → (c.links ≡ best) ⊎ IsBefore net best c.links

abbrev pub AreLeastCandidates : Network → ℕ → ℕ → List Candidate → Type 0
AreLeastCandidates net s t candidates = (c : Candidate) → Contains candidates c → IsLeastCandidate net s t c

abbrev pub AreBounded : Network → ℕ → Ways → List BoundedClass → Type 0
AreBounded net s ways bounded = (c : BoundedClass) → Contains bounded c → IsBounded net s ways c

-- every path is found or of the class of a candidate or of a bounded class, and those come after all that are found
pub record IsPathSearch (net : Network) (s : ℕ) (ways : Ways) (found : List (List ℕ)) (candidates : List Candidate) (bounded : List BoundedClass) : Type 0 where
  pub least : AreLeastCandidates net s ways.dst candidates
  pub bounds : AreBounded net s ways bounded
  pub after : (c : Candidate) → Contains candidates c → (q : List ℕ) → IsOf net s ways.dst c q → All (λ f. IsBefore net f q) found
  pub later : (c : BoundedClass) → Contains bounded c → (q : List ℕ) → IsWithin net s ways.dst c q → All (λ f. IsBefore net f q) found
  pub cover : (q : List ℕ) → IsTrue (is_path net s ways.dst q) →
      Contains found q ⊎ (((c : Candidate) × Contains candidates c × IsOf net s ways.dst c q) ⊎ ((c : BoundedClass) × Contains bounded c × IsWithin net s ways.dst c q))

-- what stands for a candidate that is not there
abbrev pub no_candidate : Candidate
no_candidate = record { links = []; fixed = 0; excluded = [] }

abbrev pub candidate_links : List Candidate → ℕ → List ℕ
candidate_links candidates i = (slice_index_or candidates i no_candidate).links

-- what stands for a bounded class that is not there
abbrev pub no_class : BoundedClass
no_class = record { prefix = []; excluded = []; first = 0; bound = 0 }

abbrev pub bound_at : List BoundedClass → ℕ → ℕ
bound_at bounded i = (slice_index_or bounded i no_class).bound

-- a candidate costs less than the bound
abbrev pub HasLess : List ℕ → List Candidate → ℕ → Type 0
HasLess costs candidates bound = (j : ℕ) × (j < length candidates) × (sum_along costs (candidate_links candidates j) < bound)

-- for the bound of each class there is a candidate that costs less
abbrev pub AreBehind : List ℕ → List Candidate → List BoundedClass → Type 0
AreBehind costs candidates bounded = (k : ℕ) → k < length bounded → HasLess costs candidates (bound_at bounded k)

-- the search where the first candidate comes before all other paths that are not found
abbrev pub IsDueSearch : Network → ℕ → Ways → List (List ℕ) → List Candidate → List BoundedClass → Type 0
IsDueSearch net s ways found candidates bounded = IsPathSearch net s ways found candidates bounded × AreBehind ways.costs candidates bounded
