-- The class of all paths, and the first of the candidates.
use Rattle.std.proofs.Common.{◌⊎◌, inl, inr, ◌≡◌, ℕ, ◌<◌, ◌≤◌, Bool, true, List, [], ◌∷◌, ◌++◌, Some, None, length, arith, refl, sym, subst, slice_index}
use Rattle.std.proofs.lemmas.Bool.{eqb-true}
use Rattle.std.proofs.lemmas.List.Elements.{All-nil, All-get_or, Contains-push, Contains-push_cases}
use Rattle.te_model.specs.declared.network.Network.{Network}
use Rattle.te_model.specs.Network.{link_count}
use Rattle.te_model.specs.Path.{is_path}
use Rattle.te_model.proofs.Chains.{chains_of_path}
use Rattle.shortest_path.specs.Paths.{IsBelow}
use Rattle.shortest_path.specs.Least.{IsLeastWalk}
use Rattle.shortest_path.proofs.Walks.{AllOpen, walk_of_chains}
use Rattle.shortest_path.proofs.LeastSums.{path_of_walk}
use Rattle.shortest_path.proofs.Tight.{least_walk_apart}
use Rattle.k_paths.specs.declared.candidate.Candidate.{Candidate}
use Rattle.k_paths.specs.Classes.{InClass}
use Rattle.shortest_path.specs.Costs.{HasCosts, IsBefore}
use Rattle.shortest_path.specs.declared.ways.Ways.{Ways}
use Rattle.k_paths.specs.Search.{IsLeastCandidate, IsDueSearch}
use Rattle.k_paths.proofs.Ordering.{below-trans, below-cases}

-- the first so far after one that comes before it
pub first_changed : (costs x y z : List ℕ) → IsBelow costs x y → (z ≡ y) ⊎ IsBelow costs y z → (z ≡ x) ⊎ IsBelow costs x z
first_changed costs x y z below other = elim other [
  | inl e ↦ inr (subst (λ l. IsBelow costs x l) (sym e) below)
  | inr later ↦ inr (below-trans costs x y z below later)
]

pub first_kept : (costs x y : List ℕ) → (IsBelow costs x y → ⊥) → (x ≡ y) ⊎ IsBelow costs y x
first_kept costs x y not_below = elim (below-cases costs x y) [
  | inl e ↦ inl e
  | inr other ↦ elim other [ inl below ↦ absurd (not_below below) | inr above ↦ inr above ]
]

pub search_none : (net : Network) (marks : List Bool) (costs : List ℕ) (s : ℕ) (ways : Ways) → AllOpen net marks →
    IsLeastWalk net costs marks s ways.dst None → IsDueSearch net s ways [] [] []
search_none net marks costs s ways open_all none = (
  record {
    least = λ c has. absurd (omega (arith, has.1));
    bounds = λ c has. absurd (omega (arith, has.1));
    after = λ c has q of_c. All-nil (λ f. IsBefore net f q);
    later = λ c has q of_c. All-nil (λ f. IsBefore net f q);
    cover = λ q path. absurd (none q (walk_of_chains net marks s ways.dst q open_all (chains_of_path net s ways.dst q path)));
  },
  λ k below. absurd (omega (arith, below)),
)

in_whole : (net : Network) (s t : ℕ) (q : List ℕ) → (s ≡ t → ⊥) → is_path net s t q ≡ true → InClass net s t [] [] q
in_whole net s t [] apart path = absurd (apart (eqb-true s t (chains_of_path net s t [] path)))
in_whole net s t (h ∷ hs) apart path = record { sound = path; next = h; rest = hs; is = refl; allowed = refl }

some_links : (net : Network) (s t : ℕ) (q : List ℕ) → (s ≡ t → ⊥) → is_path net s t q ≡ true → 0 < length q
some_links net s t [] apart path = absurd (apart (eqb-true s t (chains_of_path net s t [] path)))
some_links net s t (h ∷ hs) apart path = omega arith

pub search_some : (net : Network) (marks : List Bool) (costs : List ℕ) (s : ℕ) (ways : Ways) (p : List ℕ) → AllOpen net marks → HasCosts net costs → (s ≡ ways.dst → ⊥) →
    IsLeastWalk net costs marks s ways.dst (Some p) → IsDueSearch net s ways [] ([] ++ (record { links = p; fixed = 0; excluded = [] }) ∷ []) []
search_some net marks costs s ways p open_all has apart least =
    let t = ways.dst in
    let only : Candidate = record { links = p; fixed = 0; excluded = [] } in
    let long : (h : ℕ) → h < link_count net → 1 ≤ slice_index costs h = λ h below. All-get_or (λ c. 1 ≤ c) costs h 0 (omega (arith, has.count)) has.positive in
    let path : is_path net s t p ≡ true = path_of_walk net marks s t p least.0 (least_walk_apart net costs marks s t p long least) in
    let mine : IsLeastCandidate net s t only = record {
      inside = some_links net s t p apart path;
      member = in_whole net s t p apart path;
      least = λ q in'. elim (least.1 q (walk_of_chains net marks s t q open_all (chains_of_path net s t q in'.sound))) [
        | inl e ↦ inl e
        | inr below ↦ inr (subst (λ c. IsBelow c p q) has.are below)
      ];
    }
    in (
      record {
        least = λ c has_c. elim (Contains-push_cases [] only c has_c) [
          | inl never ↦ absurd (omega (arith, never.1))
          | inr is ↦ subst (λ x. IsLeastCandidate net s t x) is mine
        ];
        bounds = λ c has_c. absurd (omega (arith, has_c.1));
        after = λ c has_c q of_c. All-nil (λ f. IsBefore net f q);
        later = λ c has_c q of_c. All-nil (λ f. IsBefore net f q);
        cover = λ q path_q. inr (inl (only, Contains-push [] only, in_whole net s t q apart path_q));
      },
      λ k below. absurd (omega (arith, below)),
    )
