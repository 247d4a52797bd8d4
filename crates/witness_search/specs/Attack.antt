-- The file that an attack writes.
use Rattle.std.specs.Prelude.{◌≡◌, ℕ, List}
use Rattle.te_model.specs.declared.certificate.Head.{Head}
use Rattle.te_model.specs.declared.network.Network.{Network}
use Rattle.te_model.specs.declared.route.Pair.{Pair}
use Rattle.te_model.specs.declared.route.PairRoutes.{PairRoutes}
use Rattle.ratio_witness.specs.declared.witness.Witness.{Witness}
use Rattle.ratio_witness.specs.Text.{witness_text, IsWitnessOf}
use Rattle.witness_search.specs.Attempts.{RoutesBy, pairs_of}
use Rattle.witness_search.specs.Candidates.{IsChosen}

-- a witness of the head that is chosen by a scheme's plan of the head's network and pairs, and by its routings
pub record IsAttack {Plan Note : Type 0} (is_plan : Network → List Pair → Plan → Type 0) (relates : Network → List Pair → Plan → List ℕ → List PairRoutes → Note → Type 0) (h : Head) (w : Witness) : Type 0 where
  pub of_head : IsWitnessOf h w
  pub plan : Plan
  pub planned : is_plan h.network (pairs_of h) plan
  pub chosen : IsChosen h (RoutesBy (relates h.network (pairs_of h) plan)) w

-- the file of such a witness
abbrev pub IsAttackFile : {Plan Note : Type 0} → (Network → List Pair → Plan → Type 0) →
    (Network → List Pair → Plan → List ℕ → List PairRoutes → Note → Type 0) → Head → List ℕ → Type 0
IsAttackFile is_plan relates h text = (w : Witness) × IsAttack is_plan relates h w × (text ≡ witness_text w)
