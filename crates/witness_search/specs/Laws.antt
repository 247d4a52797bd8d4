-- An attack has a witness to choose.
use Rattle.std.specs.Prelude.{ℕ, List, IsTrue, length}
use Rattle.te_model.specs.declared.certificate.Head.{Head}
use Rattle.te_model.specs.declared.network.Network.{Network}
use Rattle.te_model.specs.declared.route.Pair.{Pair}
use Rattle.te_model.specs.declared.route.PairRoutes.{PairRoutes}
use Rattle.te_model.specs.Network.{is_well_formed}
use Rattle.te_model.specs.Validity.{IsValidHead}
use Rattle.routing.specs.Routes.{AreDemands, HasFewPaths, IsRoutingOf}
use Rattle.scheme.specs.Reach.{AllReached, ArePairsOf}
use Rattle.witness_search.specs.Attack.{IsAttackFile}

-- there is a plan for pairs that all have a path, and by it a routing of each matrix with at most 32 paths of a pair, and a note
pub record HasRivals {Plan Note : Type 0} (is_plan : Network → List Pair → Plan → Type 0) (relates : Network → List Pair → Plan → List ℕ → List PairRoutes → Note → Type 0) (net : Network) (pairs : List Pair) : Type 0 where
  pub plan : Plan
  pub planned : is_plan net pairs plan
  pub routings : (demand : List ℕ) → AreDemands (length pairs) demand →
      (routes : List PairRoutes) × (note : Note) × IsRoutingOf net pairs routes × HasFewPaths 32 routes × relates net pairs plan demand routes note

-- Where pairs that all have a path have such a plan, an attack on a valid head writes a file.
abbrev pub AttacksExist : {Plan Note : Type 0} → (Network → List Pair → Plan → Type 0) →
    (Network → List Pair → Plan → List ℕ → List PairRoutes → Note → Type 0) → Type 0
AttacksExist is_plan relates =
    ((net : Network) (pairs : List Pair) → IsTrue (is_well_formed net) → ArePairsOf net pairs → AllReached net pairs → HasRivals is_plan relates net pairs) →
    (h : Head) → IsValidHead h → (text : List ℕ) × IsAttackFile is_plan relates h text
