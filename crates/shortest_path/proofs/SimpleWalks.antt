-- The walks that visit no node twice are finitely many.
use Rattle.std.proofs.Common.{◌⊎◌, inl, inr, ◌≡◌, ℕ, ◌<◌, Bool, true, List, [], ◌∷◌, arith, sym, ◌∙◌}
use Rattle.std.specs.Prelude.{All}
use Rattle.std.specs.List.{AllPairs, Contains}
use Rattle.std.proofs.lemmas.Bool.{cases_eq, cases_lt, cases_Bool, true≢false}
use Rattle.std.proofs.lemmas.List.Elements.{All-contains}
use Rattle.te_model.specs.declared.network.Network.{Network}
use Rattle.te_model.specs.Network.{node_count, link_count, tail_of, head_of}
use Rattle.te_model.specs.Laws.{LinksJoinNodes}
use Rattle.te_model.specs.Path.{is_distinct, nodes_visited}
use Rattle.te_model.proofs.Chains.{walk_links}
use Rattle.shortest_path.specs.Links.{Walk, is_open}
use Rattle.shortest_path.specs.Paths.{IsBelow}
use Rattle.shortest_path.proofs.Enumeration.{lists_exist}
use Rattle.shortest_path.proofs.LeastSums.{path_of_walk}
use Rattle.shortest_path.proofs.Ordered.{ascending-head, contains_cases, ordered_exists}
use Rattle.shortest_path.proofs.PathLengths.{path_short}
use Rattle.shortest_path.proofs.Walks.{chains_of_walk}
use Rattle.shortest_path.proofs.Order.{below-cases, below-trans}

-- a walk over open links that visits no node twice
abbrev pub IsSimpleWalk : Network → List Bool → ℕ → ℕ → List ℕ → Type 0
IsSimpleWalk net marks s t links = Walk net marks s t links × (is_distinct (nodes_visited net s links) ≡ true)

walk_decided : (net : Network) (marks : List Bool) (s t : ℕ) (links : List ℕ) → Walk net marks s t links ⊎ (Walk net marks s t links → ⊥)
walk_decided net marks s t [] = cases_eq s t
walk_decided net marks s t (h ∷ hs) = elim (cases_lt h (link_count net)) [
  | inr past ↦ inr (λ walk. omega (arith, past, walk.0))
  | inl below ↦ elim (cases_eq (tail_of net h) s) [
    | inr apart ↦ inr (λ walk. apart walk.1)
    | inl starts ↦ elim (cases_Bool (is_open marks h)) [
      | inr shut ↦ inr (λ walk. true≢false (sym walk.2 ∙ shut))
      | inl opens ↦ elim (walk_decided net marks (head_of net h) t hs) [
        | inl rest ↦ inl (below, starts, opens, rest)
        | inr none ↦ inr (λ walk. none walk.3)
      ]
    ]
  ]
]

simple_decided : (net : Network) (marks : List Bool) (s t : ℕ) (links : List ℕ) → IsSimpleWalk net marks s t links ⊎ (IsSimpleWalk net marks s t links → ⊥)
simple_decided net marks s t links = elim (walk_decided net marks s t links) [
  | inr none ↦ inr (λ simple. none simple.0)
  | inl walk ↦ elim (cases_Bool (is_distinct (nodes_visited net s links))) [
    | inl apart ↦ inl (walk, apart)
    | inr twice ↦ inr (λ simple. true≢false (sym simple.1 ∙ twice))
  ]
]

-- all simple walks over open links, in order
pub record AreSimpleWalks (net : Network) (lengths : List ℕ) (marks : List Bool) (s t : ℕ) (walks : List (List ℕ)) : Type 0 where
  pub ascending : AllPairs (IsBelow lengths) walks
  pub sound : All (IsSimpleWalk net marks s t) walks
  pub complete : (p : List ℕ) → IsSimpleWalk net marks s t p → Contains walks p

pub simple_walks_exist : (net : Network) (lengths : List ℕ) (marks : List Bool) (s t : ℕ) → LinksJoinNodes net → s < node_count net →
    (walks : List (List ℕ)) × AreSimpleWalks net lengths marks s t walks
simple_walks_exist net lengths marks s t joins inside =
    let (lists, all) = lists_exist (link_count net) (node_count net) in
    let (walks, are) = ordered_exists (IsBelow lengths) (below-cases lengths) (below-trans lengths) (IsSimpleWalk net marks s t) (simple_decided net marks s t) lists in (
      walks,
      record {
        ascending = are.ascending;
        sound = are.sound;
        complete = λ p simple.
            are.complete p (all p (walk_links net s t p (chains_of_walk net marks s t p simple.0))
            (path_short net s t p joins inside (path_of_walk net marks s t p simple.0 simple.1))) simple;
      },
    )

-- no simple walk comes before the first of all
pub first_least : (net : Network) (lengths : List ℕ) (marks : List Bool) (s t : ℕ) (p : List ℕ) (rest : List (List ℕ)) →
    AreSimpleWalks net lengths marks s t (p ∷ rest) → (q : List ℕ) → IsSimpleWalk net marks s t q → (q ≡ p) ⊎ IsBelow lengths p q
first_least net lengths marks s t p rest are q simple = elim (contains_cases p rest q (are.complete q simple)) [
  | inl same ↦ inl (sym same)
  | inr later ↦ inr (All-contains (IsBelow lengths p) rest q (ascending-head (IsBelow lengths) p rest are.ascending) later)
]
