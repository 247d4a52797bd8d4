-- The pairs of which a path holds a link.
use Rattle.std.specs.Prelude.{◌≡◌, ℕ, ◌<◌, ◌==◌, Bool, ◌&&◌, ◌||◌, List, [], All, IsTrue, length, slice_index_or}
use Rattle.std.specs.List.{list_any}
use Rattle.std.specs.List.Sorted.{IsStrictlyIncreasing}
use Rattle.te_model.specs.declared.route.PathShare.{PathShare}
use Rattle.te_model.specs.declared.route.PairRoutes.{PairRoutes}
use Rattle.te_model.specs.Path.{has_number, routes_at}

-- one of the paths holds link e
abbrev pub some_holds : List PathShare → ℕ → Bool
some_holds paths e = list_any (λ s. has_number s.links e) paths

-- a path of pair p holds link e
abbrev pub holds : List PairRoutes → ℕ → ℕ → Bool
holds routes p e = some_holds (routes_at routes p).paths e

-- the pairs at link e
abbrev pub pairs_on : List (List ℕ) → ℕ → List ℕ
pairs_on table e = slice_index_or table e []

-- the pairs of which a path of either routing holds link e, ascending
pub record ArePairsOn (routes others : List PairRoutes) (e : ℕ) (list : List ℕ) : Type 0 where
  pub ascending : IsStrictlyIncreasing list
  pub exact : (p : ℕ) → has_number list p ≡ (holds routes p e || holds others p e)

-- these pairs at each of n links
pub record ArePairsOnLinks (n : ℕ) (routes others : List PairRoutes) (table : List (List ℕ)) : Type 0 where
  pub count : length table ≡ n
  pub each : (e : ℕ) → e < n → ArePairsOn routes others e (pairs_on table e)

-- pairs of the routing, with each of which a path holds link e
pub record HasHolders (routes : List PairRoutes) (e : ℕ) (list : List ℕ) : Type 0 where
  pub inside : All (λ p. p < length routes) list
  pub holders : (p : ℕ) → IsTrue (holds routes p e) → IsTrue (has_number list p)

-- such pairs at each of n links
pub record HaveHolders (n : ℕ) (routes : List PairRoutes) (table : List (List ℕ)) : Type 0 where
  pub count : length table ≡ n
  pub each : (e : ℕ) → e < n → HasHolders routes e (pairs_on table e)

-- paths over the first n links
abbrev pub HaveLinksBelow : ℕ → List PathShare → Type 0
HaveLinksBelow n paths = All (λ s. All (λ h. h < n) s.links) paths

-- pairs below n, which strictly ascend
pub record IsPairList (n : ℕ) (list : List ℕ) : Type 0 where
  pub ascending : IsStrictlyIncreasing list
  pub below : All (λ p. p < n) list

-- pair p is entered at each of these links, and nothing else changes
pub record IsPairEntered (old new : List (List ℕ)) (p : ℕ) (at : ℕ → Bool) : Type 0 where
  pub count : length new ≡ length old
  pub each : (e q : ℕ) → e < length old → has_number (pairs_on new e) q ≡ (has_number (pairs_on old e) q || (p == q && at e))
