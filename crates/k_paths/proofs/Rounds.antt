-- One round of the search, and its end.
use Rattle.std.proofs.Common.{◌⊎◌, inl, inr, ◌≡◌, ℕ, ◌+◌, ◌<◌, ◌≤◌, List, [], ◌∷◌, ◌++◌, length, get_or, arith, ap, sym, ◌∙◌, subst}
use Rattle.std.specs.Prelude.{All, IsTrue}
use Rattle.std.specs.List.{Contains, AllPairs}
use Rattle.std.proofs.lemmas.Bool.{cases_lt}
use Rattle.std.proofs.lemmas.List.{get_or_read, length-append}
use Rattle.std.proofs.lemmas.List.Elements.{All-nil, All-push, All-weaker, Contains-append_left, Contains-get_or, Contains-push}
use Rattle.std.proofs.lemmas.List.Quantifiers.{all_pairs_push}
use Rattle.te_model.specs.declared.network.Network.{Network}
use Rattle.te_model.specs.Network.{link_count}
use Rattle.te_model.specs.Path.{is_path}
use Rattle.te_model.proofs.Chains.{path_links}
use Rattle.shortest_path.specs.Paths.{IsBelow}
use Rattle.k_paths.specs.declared.candidate.Candidate.{Candidate}
use Rattle.k_paths.specs.Classes.{AreLeast}
use Rattle.shortest_path.specs.Costs.{costs_of, HasCosts, IsBefore}
use Rattle.shortest_path.specs.declared.ways.Ways.{Ways}
use Rattle.shortest_path.specs.Ways.{AreWays}
use Rattle.k_paths.specs.declared.candidate.BoundedClass.{BoundedClass}
use Rattle.k_paths.specs.Search.{IsDueSearch, IsOf, IsLeastCandidate, AreFirst, AreLeastCandidates, candidate_links, no_candidate}
use Rattle.k_paths.proofs.Bounds.{before_bounded}
use Rattle.k_paths.proofs.Ordering.{below-trans}

-- what holds of the found paths, and the search as long as paths are missing
pub record FoundSoFar (net : Network) (s : ℕ) (ways : Ways) (k : ℕ) (found : List (List ℕ)) (candidates : List Candidate) (bounded : List BoundedClass) : Type 0 where
  pub few : length found ≤ k
  pub sound : All (λ p. IsTrue (is_path net s ways.dst p)) found
  pub ascending : AllPairs (IsBefore net) found
  pub others : (q : List ℕ) → IsTrue (is_path net s ways.dst q) → Contains found q ⊎ All (λ f. IsBefore net f q) found
  pub search' : length found < k → IsDueSearch net s ways found candidates bounded

pub found_none : (net : Network) (s : ℕ) (ways : Ways) (k : ℕ) (candidates : List Candidate) → IsDueSearch net s ways [] candidates [] → FoundSoFar net s ways k [] candidates []
found_none net s ways k candidates search' = record {
  few = omega arith;
  sound = All-nil (λ p. IsTrue (is_path net s ways.dst p));
  ascending = λ i j d lt below. absurd (omega arith);
  others = λ q path. inr (All-nil (λ f. IsBefore net f q));
  search' = λ room. search';
}

-- the candidate at a place
candidate_at : (candidates : List Candidate) (i : ℕ) → i < length candidates → Contains candidates (get_or candidates i no_candidate)
candidate_at candidates i below = Contains-get_or candidates i no_candidate below

-- the links of a candidate are those at some place
pub at_some_place : (candidates : List Candidate) (c : Candidate) → Contains candidates c → (k : ℕ) × (k < length candidates) × (c.links ≡ candidate_links candidates k)
at_some_place candidates c (k, below, is) = (k, below, ap (λ (d : Candidate). d.links) (get_or_read candidates k c below (sym is) no_candidate))

pub are_first : (net : Network) (costs : List ℕ) (candidates : List Candidate) (i : ℕ) → HasCosts net costs →
    ((k : ℕ) → k < length candidates → (candidate_links candidates k ≡ candidate_links candidates i) ⊎ IsBelow costs (candidate_links candidates i) (candidate_links candidates k)) →
    AreFirst net (candidate_links candidates i) candidates
are_first net costs candidates i has first c has_c =
    let (k, below, is) = at_some_place candidates c has_c in
    elim (first k below) [
      | inl e ↦ inl (is ∙ e)
      | inr later ↦ inr (subst (λ l. IsBefore net (candidate_links candidates i) l) (sym is) (subst (λ x. IsBelow x (candidate_links candidates i) (candidate_links candidates k)) has.are later))
    ]

pub links_inside : (net : Network) (s t : ℕ) (costs : List ℕ) (candidates : List Candidate) → HasCosts net costs →
    AreLeastCandidates net s t candidates → (k : ℕ) → k < length candidates → All (λ h. h < length costs) (candidate_links candidates k)
links_inside net s t costs candidates has are_least k below =
    let least = are_least (get_or candidates k no_candidate) (candidate_at candidates k below) in
    All-weaker (λ h. h < link_count net) (λ h. h < length costs) (λ h lt. omega (arith, lt, has.count)) (candidate_links candidates k)
    (path_links net s t (candidate_links candidates k) least.member.sound)

-- a path of a candidate's class is the best of all candidates or comes after it
best_or_after : (net : Network) (s t : ℕ) (best q : List ℕ) (candidates : List Candidate) (c : Candidate) → AreFirst net best candidates →
    Contains candidates c → IsLeastCandidate net s t c → IsOf net s t c q → (q ≡ best) ⊎ IsBefore net best q
best_or_after net s t best q candidates c first has least of_c = elim (first c has) [
  | inl is ↦ elim (least.least q of_c) [
    | inl e ↦ inl (e ∙ is)
    | inr below ↦ inr (subst (λ l. IsBefore net l q) is below)
  ]
  | inr later ↦ elim (least.least q of_c) [
    | inl e ↦ inr (subst (λ l. IsBefore net best l) (sym e) later)
    | inr below ↦ inr (below-trans (costs_of net) best c.links q later below)
  ]
]

pub found_more : (net : Network) (s : ℕ) (ways : Ways) (k : ℕ) (found : List (List ℕ)) (candidates next : List Candidate) (bounded rest : List BoundedClass) (i : ℕ) → AreWays net ways →
    FoundSoFar net s ways k found candidates bounded → i < length candidates → length found < k → AreFirst net (candidate_links candidates i) candidates →
    (length found + 1 < k → IsDueSearch net s ways (found ++ candidate_links candidates i ∷ []) next rest) →
    FoundSoFar net s ways k (found ++ candidate_links candidates i ∷ []) next rest
found_more net s ways k found candidates next bounded rest i are so below room first then_search =
    let t = ways.dst in
    let best = get_or candidates i no_candidate in
    let has = candidate_at candidates i below in
    let (now, behind) = so.search' room in
    let least = now.least best has in
    let after : All (λ f. IsBefore net f best.links) found = now.after best has best.links least.member in
    record {
      few = omega (arith, length-append found (best.links ∷ []));
      sound = All-push (λ p. IsTrue (is_path net s t p)) found best.links so.sound least.member.sound;
      ascending = all_pairs_push (IsBefore net) found best.links so.ascending (λ j d lt. after j d lt);
      others = λ q path. elim (now.cover q path) [
        | inl in_found ↦ inl (Contains-append_left found (best.links ∷ []) q in_found)
        | inr open' ↦ elim open' [
          | inl (c, has_c, of_c) ↦ elim (best_or_after net s t best.links q candidates c first has_c (now.least c has_c) of_c) [
            | inl e ↦ inl (subst (λ l. Contains (found ++ best.links ∷ []) l) (sym e) (Contains-push found best.links))
            | inr later ↦ inr (All-push (λ f. IsBefore net f q) found best.links (now.after c has_c q of_c) later)
          ]
          | inr (d, has_d, of_d) ↦ inr (All-push (λ f. IsBefore net f q) found best.links (now.later d has_d q of_d)
              (before_bounded net s ways best.links candidates bounded d q are first behind has_d (now.bounds d has_d) of_d))
        ]
      ];
      search' = λ more. then_search (omega (arith, more, length-append found (best.links ∷ [])));
    }

pub found_end : (net : Network) (s : ℕ) (ways : Ways) (k : ℕ) (found : List (List ℕ)) (candidates : List Candidate) (bounded : List BoundedClass) →
    FoundSoFar net s ways k found candidates bounded → (length found ≡ k) ⊎ (candidates ≡ []) → AreLeast net s ways.dst k found
found_end net s ways k found candidates bounded so done = record {
  few = so.few;
  sound = so.sound;
  ascending = so.ascending;
  others = λ q path. elim (cases_lt (length found) k) [
    | inl room ↦
        let (now, behind) = so.search' room in
        elim (now.cover q path) [
          | inl there ↦ inl there
          | inr open' ↦ elim done [
            | inl full ↦ absurd (omega (arith, full, room))
            | inr empty ↦
                let none : length candidates ≡ 0 = ap (λ (l : List Candidate). length l) empty in
                elim open' [
                  | inl (c, has, of_c) ↦ absurd (omega (arith, none, has.1))
                  | inr (d, has, of_d) ↦ absurd (let (j, below, less) = behind has.0 has.1 in omega (arith, none, below))
                ]
          ]
        ]
    | inr enough ↦ elim (so.others q path) [
      | inl there ↦ inl there
      | inr all ↦ inr (omega (arith, enough, so.few), all)
    ]
  ];
}
