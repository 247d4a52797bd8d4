-- Some move improves a routing, or it is stable.
use Rattle.std.proofs.Common.{inl, inr, ◌⊎◌, ◌≡◌, ℕ, ◌*◌, ◌<◌, ◌≤◌, Bool, true, false, List, [], ◌∷◌, length, slice_index, arith, refl, sym, ◌∙◌, subst}
use Rattle.std.specs.Prelude.{Contains, bytes_eq}
use Rattle.std.proofs.lemmas.Bool.{false≢true}
use Rattle.std.proofs.lemmas.Slice.Eq.{bytes_eq-Decides}
use Rattle.std.proofs.lemmas.List.{get_or_default}
use Rattle.std.proofs.lemmas.List.Elements.{All-cons, All-contains, All-nil, Contains-get_or}
use Rattle.te_model.specs.declared.network.Network.{Network}
use Rattle.te_model.specs.declared.route.PairRoutes.{PairRoutes}
use Rattle.te_model.specs.Path.{routes_at}
use Rattle.te_model.specs.PathRouting.{IsPathRouting}
use Rattle.te_model.proofs.Searches.{both_or_not, first_or_all}
use Rattle.routing.specs.Merge.{HasLinks, links_at}
use Rattle.routing.specs.Utilisation.{parts}
use Rattle.local_search.specs.Moves.{CanMove, ImprovesBy1024th, IsMoved, IsStable, sizes}
use Rattle.local_search.proofs.MadeMoves.{move_exists, moved_parts}

-- a move that improves the routing
pub record Improvement (net : Network) (demand : List ℕ) (candidates routes : List PairRoutes) : Type 0 where
  pub p : ℕ
  pub k : ℕ
  pub to : List ℕ
  pub size : ℕ
  pub moved : List PairRoutes
  pub can : CanMove routes candidates p k to size
  pub is : IsMoved routes p k to size moved
  pub improves : ImprovesBy1024th (parts net routes demand) (parts net moved demand)

-- no move of this size from the path at place k of pair p to these links improves it
abbrev pub NoneOf : Network → List ℕ → List PairRoutes → List PairRoutes → ℕ → ℕ → List ℕ → ℕ → Type 0
NoneOf net demand candidates routes p k to size =
    (moved : List PairRoutes) → CanMove routes candidates p k to size → IsMoved routes p k to size moved →
    ImprovesBy1024th (parts net routes demand) (parts net moved demand) → ⊥

-- no move of any size, to any candidate, from any path of the pair
abbrev pub NoneOfSizes : Network → List ℕ → List PairRoutes → List PairRoutes → ℕ → ℕ → List ℕ → Type 0
NoneOfSizes net demand candidates routes p k to = (size : ℕ) → Contains sizes size → NoneOf net demand candidates routes p k to size

abbrev pub NoneOfTargets : Network → List ℕ → List PairRoutes → List PairRoutes → ℕ → ℕ → Type 0
NoneOfTargets net demand candidates routes p k =
    (to : List ℕ) → HasLinks (routes_at candidates p).paths to → NoneOfSizes net demand candidates routes p k to

abbrev pub NoneOfPaths : Network → List ℕ → List PairRoutes → List PairRoutes → ℕ → Type 0
NoneOfPaths net demand candidates routes p = (k : ℕ) → k < length (routes_at routes p).paths → NoneOfTargets net demand candidates routes p k

same_links : (xs ys : List ℕ) → (xs ≡ ys) ⊎ (xs ≡ ys → ⊥)
same_links xs ys = go (bytes_eq xs ys) refl
  where
    go : (b : Bool) → bytes_eq xs ys ≡ b → (xs ≡ ys) ⊎ (xs ≡ ys → ⊥)
    go true is = inl ((bytes_eq-Decides xs ys).0 is)
    go false is = inr (λ e. false≢true (sym is ∙ (bytes_eq-Decides xs ys).1 e))

sizes_positive : (size : ℕ) → Contains sizes size → 1 ≤ size
sizes_positive size has =
    All-contains (λ x. 1 ≤ x) sizes size (All-cons (λ x. 1 ≤ x) 1000000 (100000 ∷ 10000 ∷ []) (omega arith)
    (All-cons (λ x. 1 ≤ x) 100000 (10000 ∷ []) (omega arith) (All-cons (λ x. 1 ≤ x) 10000 [] (omega arith) (All-nil (λ x. 1 ≤ x))))) has

-- one move is tried
try_move : (net : Network) (demand : List ℕ) (candidates routes : List PairRoutes) (p k : ℕ) (to : List ℕ) (size : ℕ) →
    IsPathRouting net routes → p < length routes → k < length (routes_at routes p).paths → HasLinks (routes_at candidates p).paths to → Contains sizes size →
    Improvement net demand candidates routes ⊎ NoneOf net demand candidates routes p k to size
try_move net demand candidates routes p k to size routing below inside has allowed = go (same_links (links_at (routes_at routes p).paths k) to)
  where
    judge : (links_at (routes_at routes p).paths k ≡ to → ⊥) → (moved : List PairRoutes) → IsMoved routes p k to size moved →
        ImprovesBy1024th (parts net routes demand) (parts net moved demand) ⊎ (ImprovesBy1024th (parts net routes demand) (parts net moved demand) → ⊥) →
        Improvement net demand candidates routes ⊎ NoneOf net demand candidates routes p k to size
    judge other moved is (inl improves) = inl (record {
      p = p;
      k = k;
      to = to;
      size = size;
      moved = moved;
      can = record { pair = below; path = inside; candidate = has; other = other; allowed = allowed };
      is = is;
      improves = improves;
    })
    judge other moved is (inr not) = inr (λ also can is_also improves.
        not (subst (ImprovesBy1024th (parts net routes demand)) (moved_parts net demand routes also moved p k size to below is_also is) improves))

    go : (links_at (routes_at routes p).paths k ≡ to) ⊎ (links_at (routes_at routes p).paths k ≡ to → ⊥) →
        Improvement net demand candidates routes ⊎ NoneOf net demand candidates routes p k to size
    go (inl same) = inr (λ moved can is improves. can.other same)
    go (inr other) =
        let (moved, is) = move_exists net routes p k size to routing below inside (sizes_positive size allowed) in
        judge other moved is (both_or_not (parts net moved demand) (parts net routes demand) (1024 * parts net moved demand) (1023 * parts net routes demand))

try_sizes : (net : Network) (demand : List ℕ) (candidates routes : List PairRoutes) (p k : ℕ) (to : List ℕ) →
    IsPathRouting net routes → p < length routes → k < length (routes_at routes p).paths → HasLinks (routes_at candidates p).paths to →
    Improvement net demand candidates routes ⊎ NoneOfSizes net demand candidates routes p k to
try_sizes net demand candidates routes p k to routing below inside has =
    elim (first_or_all (λ i. Improvement net demand candidates routes) (λ i. NoneOf net demand candidates routes p k to (slice_index sizes i)) (length sizes)
    (λ i here. try_move net demand candidates routes p k to (slice_index sizes i) routing below inside has (Contains-get_or sizes i 0 here))) [
      | inl found ↦ inl found.2
      | inr none ↦ inr (λ size (i, here, is).
          subst (NoneOf net demand candidates routes p k to) (get_or_default sizes i 0 size here ∙ is) (none i here))
    ]

try_targets : (net : Network) (demand : List ℕ) (candidates routes : List PairRoutes) (p k : ℕ) →
    IsPathRouting net routes → p < length routes → k < length (routes_at routes p).paths →
    Improvement net demand candidates routes ⊎ NoneOfTargets net demand candidates routes p k
try_targets net demand candidates routes p k routing below inside =
    let others = (routes_at candidates p).paths in
    elim (first_or_all (λ j. Improvement net demand candidates routes) (λ j. NoneOfSizes net demand candidates routes p k (links_at others j)) (length others)
    (λ j here. try_sizes net demand candidates routes p k (links_at others j) routing below inside (j, here, refl))) [
      | inl found ↦ inl found.2
      | inr none ↦ inr (λ to (j, here, is). subst (NoneOfSizes net demand candidates routes p k) is (none j here))
    ]

try_paths : (net : Network) (demand : List ℕ) (candidates routes : List PairRoutes) (p : ℕ) → IsPathRouting net routes → p < length routes →
    Improvement net demand candidates routes ⊎ NoneOfPaths net demand candidates routes p
try_paths net demand candidates routes p routing below =
    elim (first_or_all (λ k. Improvement net demand candidates routes) (NoneOfTargets net demand candidates routes p) (length (routes_at routes p).paths)
    (λ k inside. try_targets net demand candidates routes p k routing below inside)) [
      | inl found ↦ inl found.2
      | inr none ↦ inr none
    ]

pub improvement_or_stable : (net : Network) (demand : List ℕ) (candidates routes : List PairRoutes) → IsPathRouting net routes →
    Improvement net demand candidates routes ⊎ IsStable net demand candidates routes
improvement_or_stable net demand candidates routes routing =
    elim (first_or_all (λ p. Improvement net demand candidates routes) (NoneOfPaths net demand candidates routes) (length routes)
    (λ p below. try_paths net demand candidates routes p routing below)) [
      | inl found ↦ inl found.2
      | inr none ↦ inr (λ p k to size moved can is improves. none p can.pair k can.path to can.candidate size can.allowed moved can is improves)
    ]
