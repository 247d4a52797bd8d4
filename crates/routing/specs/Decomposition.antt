-- Flows taken apart into weighted paths (flow decomposition; Ford and Fulkerson, 1962).
use Rattle.std.specs.Prelude.{◌≡◌, ℕ, ◌+◌, ◌<◌, ◌≤◌, List, [], ◌∷◌, IsTrue}
use Rattle.te_model.specs.declared.network.Network.{Network}
use Rattle.te_model.specs.declared.route.PathShare.{PathShare}
use Rattle.te_model.specs.Network.{node_count, link_count, tail_of, head_of}
use Rattle.te_model.specs.Path.{amount_on, has_number}
use Rattle.te_model.specs.Flow.{IsFlow}

-- numbers of the nodes, below their count, that rise along each link with flow (a topological numbering)
pub record IsNumbering (net : Network) (flow number : ℕ → ℕ) : Type 0 where
  pub below : (v : ℕ) → v < node_count net → number v < node_count net
  pub rises : (h : ℕ) → h < link_count net → 0 < flow h → number (tail_of net h) < number (head_of net h)

-- a flow of this amount from s to t that goes round no cycle
pub record IsAcyclicFlow (net : Network) (flow : ℕ → ℕ) (amount s t : ℕ) : Type 0 where
  pub balance : IsFlow net flow amount s t
  pub acyclic : (number : ℕ → ℕ) × IsNumbering net flow number

-- some link from v has flow
abbrev pub HasFlowOut : Network → (ℕ → ℕ) → ℕ → Type 0
HasFlowOut net flow v = (h : ℕ) × (h < link_count net) × (tail_of net h ≡ v) × (0 < flow h)

-- h is the lowest of the links from v that have flow
pub record IsLowestLink (net : Network) (flow : ℕ → ℕ) (v h : ℕ) : Type 0 where
  pub inside : h < link_count net
  pub leaves : tail_of net h ≡ v
  pub some : 0 < flow h
  pub lowest : (k : ℕ) → k < h → tail_of net k ≡ v → flow k ≡ 0

-- the links from v to t, at each node the lowest that has flow
abbrev pub IsLowestPath : Network → (ℕ → ℕ) → ℕ → ℕ → List ℕ → Type 0
IsLowestPath net flow v t [] = v ≡ t
IsLowestPath net flow v t (h ∷ hs) = (v ≡ t → ⊥) × IsLowestLink net flow v h × IsLowestPath net flow (head_of net h) t hs

-- the least flow on a link of the path
pub record IsLeastOn (flow : ℕ → ℕ) (path : List ℕ) (weight : ℕ) : Type 0 where
  pub least : (h : ℕ) → IsTrue (has_number path h) → weight ≤ flow h
  pub reached : (h : ℕ) × IsTrue (has_number path h) × (flow h ≡ weight)

-- the path that the lowest links give, with the least flow on it, and the flow that is left
pub record IsTakenOff (net : Network) (s t : ℕ) (flow : ℕ → ℕ) (p : PathShare) (left : ℕ → ℕ) : Type 0 where
  pub path : IsLowestPath net flow s t p.links
  pub weight : IsLeastOn flow p.links p.weight
  pub rest : (h : ℕ) → h < link_count net → flow h ≡ left h + amount_on p.links p.weight h

-- path by path, until no flow is left
abbrev pub IsDecomposition : Network → ℕ → ℕ → (ℕ → ℕ) → List PathShare → Type 0
IsDecomposition net s t flow [] = (h : ℕ) → h < link_count net → flow h ≡ 0
IsDecomposition net s t flow (p ∷ ps) = (left : ℕ → ℕ) × IsTakenOff net s t flow p left × IsDecomposition net s t left ps
