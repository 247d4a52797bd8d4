-- The witness of a challenge: that of an attack, or one whose bound is greater.
use Rattle.std.specs.Prelude.{◌≡◌, ◌⊎◌, ℕ, ◌-◌, ◌^◌, ◌<◌, ◌≤◌, List, None, min}
use Rattle.te_model.specs.declared.certificate.Head.{Head}
use Rattle.te_model.specs.declared.network.Network.{Network}
use Rattle.te_model.specs.declared.route.Pair.{Pair}
use Rattle.te_model.specs.declared.route.PairRoutes.{PairRoutes}
use Rattle.ratio_witness.specs.declared.witness.Witness.{Witness}
use Rattle.ratio_witness.specs.Text.{witness_text, IsWitnessOf}
use Rattle.ratio_witness.specs.Verdict.{ratio_shown, verdict_fault}
use Rattle.worst_matrices.specs.declared.members.ScaledMatrix.{ScaledMatrix}
use Rattle.witness_search.specs.declared.attempt.Attempt.{Attempt}
use Rattle.witness_search.specs.declared.attempt.Tried.{Tried}
use Rattle.witness_search.specs.Attack.{IsAttack}
use Rattle.witness_search.specs.Attempts.{IsAttempt, RoutesBy, pairs_of}
use Rattle.witness_search.specs.Candidates.{paths_by, witness_by}

-- what is tried of a matrix that is found
abbrev pub found_tried : ScaledMatrix → Tried
found_tried m = record { place = 0; demand = m.demand; x = m.x; y = m.y }

-- the attempt of a matrix that is found
abbrev pub IsAttemptOf : Head → (List ℕ → List PairRoutes → Type 0) → ScaledMatrix → Attempt → Type 0
IsAttemptOf h Routes m a = IsAttempt h Routes (found_tried m) a

-- the witness of the attempt where its bound is greater, and else the other
abbrev pub IsGreaterOf : Witness → Attempt → Witness → Type 0
IsGreaterOf w a greater =
    ((w.bound < min a.ratio (10 ^ 19 - 1)) × (greater ≡ witness_by a)) ⊎ ((min a.ratio (10 ^ 19 - 1) ≤ w.bound) × (greater ≡ w))

-- its rival is the scheme's routing of its matrix, and its bound the ratio that it shows
pub record IsRouted (h : Head) (Routes : List ℕ → List PairRoutes → Type 0) (w : Witness) : Type 0 where
  pub routes : List PairRoutes
  pub routed : Routes w.demand.demand routes
  pub rival : w.rival ≡ paths_by routes
  pub bound : w.bound ≡ min (ratio_shown h w) (10 ^ 19 - 1)

-- a witness to which the verdict is yes, whose bound is no less than that of another: that one, or one of the scheme's routing
pub record IsRaised (h : Head) (Routes : List ℕ → List PairRoutes → Type 0) (own w : Witness) : Type 0 where
  pub of_head : IsWitnessOf h w
  pub yes : verdict_fault h w ≡ None
  pub no_less : own.bound ≤ w.bound
  pub which : (w ≡ own) ⊎ IsRouted h Routes w

-- such a witness, no less than one that an attack chooses by the scheme's plans and routings
pub record IsChallenge {Plan Note : Type 0} (is_plan : Network → List Pair → Plan → Type 0) (relates : Network → List Pair → Plan → List ℕ → List PairRoutes → Note → Type 0) (h : Head) (w : Witness) : Type 0 where
  pub own : Witness
  pub attack : IsAttack is_plan relates h own
  pub raised : IsRaised h (RoutesBy (relates h.network (pairs_of h) attack.plan)) own w

-- the file of such a witness
abbrev pub IsChallengeFile : {Plan Note : Type 0} → (Network → List Pair → Plan → Type 0) →
    (Network → List Pair → Plan → List ℕ → List PairRoutes → Note → Type 0) → Head → List ℕ → Type 0
IsChallengeFile is_plan relates h text = (w : Witness) × IsChallenge is_plan relates h w × (text ≡ witness_text w)
