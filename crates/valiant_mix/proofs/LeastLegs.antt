-- Legs are walks, and the least ways to a node are the legs to it.
use Rattle.std.proofs.Common.{◌≡◌, ◌⊎◌, ℕ, ◌<◌, true, List, [], ◌∷◌, Option, Some, None, arith, refl, sym, subst, inl, inr}
use Rattle.std.proofs.lemmas.Bool.{cases_eq, cases_lt, eq-eqb, false≢true}
use Rattle.te_model.specs.declared.network.Network.{Network}
use Rattle.te_model.specs.Network.{is_well_formed, node_count}
use Rattle.te_model.specs.Path.{chains}
use Rattle.te_model.proofs.Chains.{chains_of_path}
use Rattle.shortest_path.specs.Costs.{costs_of}
use Rattle.shortest_path.specs.Links.{every_link}
use Rattle.shortest_path.specs.Paths.{IsBelow, IsLeastPath}
use Rattle.shortest_path.specs.Ways.{AreWays, IsLeastWay}
use Rattle.shortest_path.specs.declared.ways.Ways.{Ways}
use Rattle.shortest_path.proofs.Existence.{least_paths_exist}
use Rattle.shortest_path.proofs.LeastSums.{all_open}
use Rattle.shortest_path.proofs.Sound.{has_costs}
use Rattle.shortest_path.proofs.Walks.{walk_of_chains}
use Rattle.scheme.proofs.LeastSplit.{least_way_path}
use Rattle.valiant_mix.specs.Valiant.{IsLeg}

-- a leg is a walk
pub leg_chains : (net : Network) (s t : ℕ) (links : List ℕ) → IsLeg net s t links → chains net s t links ≡ true
leg_chains net s t links (inl (same, none)) = subst (λ l. chains net s t l ≡ true) (sym none) (eq-eqb s t same)
leg_chains net s t links (inr (other, least)) = chains_of_path net s t links least.0

-- there is a leg, or no links lead there
pub leg_or_none : (net : Network) → is_well_formed net ≡ true → (s t : ℕ) → s < node_count net → t < node_count net →
    ((links : List ℕ) × IsLeg net s t links) ⊎ ((links : List ℕ) → chains net s t links ≡ true → ⊥)
leg_or_none net formed s t s_in t_in = elim (cases_eq s t) [
  | inl same ↦ inl ([], inl (same, refl))
  | inr other ↦
      let costs = has_costs net formed in
      let (p, least) = least_paths_exist net (costs_of net) formed costs.count costs.positive s t s_in t_in in
      go other p least
]
  where
    go : (s ≡ t → ⊥) → (p : Option (List ℕ)) → IsLeastPath net (costs_of net) s t p →
        ((links : List ℕ) × IsLeg net s t links) ⊎ ((links : List ℕ) → chains net s t links ≡ true → ⊥)
    go other None none = inr none
    go other (Some links) least = inl (links, inr (other, least))

-- no list of links comes before that without links
nothing_below : (lengths links : List ℕ) → (([] ≡ links) ⊎ IsBelow lengths links []) → links ≡ []
nothing_below lengths links (inl same) = sym same
nothing_below lengths links (inr (inl less)) = absurd (omega (arith, less))
nothing_below lengths [] (inr (inr below)) = refl
nothing_below lengths (h ∷ hs) (inr (inr below)) = absurd (false≢true below.1)

-- the least way is a leg
pub leg_of_way : (net : Network) (ways : Ways) (s : ℕ) (links : List ℕ) → AreWays net ways → IsLeastWay net ways s (Some links) → IsLeg net s ways.dst links
leg_of_way net ways s links are least = elim (cases_eq s ways.dst) [
  | inl same ↦ inl (same, nothing_below ways.costs links (least.1 [] same))
  | inr other ↦ inr (other, least_way_path net ways s ways.dst (Some links) are refl least)
]

-- where there is no least way there is no leg
pub no_leg_of_way : (net : Network) (ways : Ways) (s : ℕ) → IsLeastWay net ways s None → (links : List ℕ) → IsLeg net s ways.dst links → ⊥
no_leg_of_way net ways s none links leg =
    none links (walk_of_chains net (every_link net) s ways.dst links (all_open net) (leg_chains net s ways.dst links leg))
