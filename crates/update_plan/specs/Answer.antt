-- What is answered of two certificates and a matrix: a plan, or why there is none.
use Rattle.std.specs.Prelude.{◌≡◌, ◌≢◌, ◌⊎◌, ◌<◌, ℕ, List, length, [], ◌∷◌, ◌++◌, codes, map}
use Rattle.std.specs.Fmt.{decimal}
use Rattle.te_model.specs.declared.certificate.Head.{Head}
use Rattle.te_model.specs.declared.route.Pair.{Pair}
use Rattle.te_model.specs.PathRouting.{IsPathRouting}
use Rattle.te_model.specs.Validity.{IsValidHead}
use Rattle.update_plan.specs.declared.path.UpdatePlan.{UpdatePlan}
use Rattle.update_plan.specs.Plan.{IsPlanOf, LacksSlackOn}
use Rattle.update_plan.specs.Text.{plan_text}

-- the line of two networks, which differ in names or links
abbrev pub no_network_line : List ℕ
no_network_line = codes "no network" ++ 10 ∷ []

-- the line of pairs that differ
abbrev pub no_pairs_line : List ℕ
no_pairs_line = codes "no pairs" ++ 10 ∷ []

-- the line of a link that lacks slack
abbrev pub no_slack_line : ℕ → List ℕ
no_slack_line e = codes "no slack at link " ++ (decimal e ++ 10 ∷ [])

-- the pairs of both heads are the declared ones, in order
abbrev pub HavePairs : Head → Head → List Pair → Type 0
HavePairs old new pairs = (map (λ r. r.pair) old.routes ≡ pairs) × (map (λ r. r.pair) new.routes ≡ pairs)

-- the text of a plan of the two routings at status 0
pub record IsPlanText (old new : Head) (demand : List ℕ) (status : ℕ) (text : List ℕ) : Type 0 where
  pub plan : UpdatePlan
  pub is_plan : IsPlanOf old.network old.routes new.routes demand plan
  pub status_is : status ≡ 0
  pub text_is : text ≡ plan_text plan

-- the line of a link that lacks slack at status 1
pub record IsNoSlackText (old new : Head) (demand : List ℕ) (status : ℕ) (text : List ℕ) : Type 0 where
  pub link : ℕ
  pub lacks : LacksSlackOn old.network old.routes new.routes demand link
  pub status_is : status ≡ 1
  pub text_is : text ≡ no_slack_line link

-- One network and one list of pairs, and then a plan or a link that lacks slack; else a line that names the first that is not one.
abbrev pub IsUpdateText : Head → Head → List Pair → List ℕ → ℕ → List ℕ → Type 0
IsUpdateText old new pairs demand status text =
    ((old.network ≢ new.network) × (status ≡ 1) × (text ≡ no_network_line))
    ⊎ ((old.network ≡ new.network) × (¬ HavePairs old new pairs) × (status ≡ 1) × (text ≡ no_pairs_line))
    ⊎ ((old.network ≡ new.network) × HavePairs old new pairs
    × (IsPlanText old new demand status text ⊎ IsNoSlackText old new demand status text))

-- The text of a plan of two valid heads is short.
abbrev pub PlanTextsAreShort : Type 0
PlanTextsAreShort =
    (old new : Head) (demand : List ℕ) (plan : UpdatePlan) → IsValidHead old → IsValidHead new → old.network ≡ new.network →
    length new.routes ≡ length old.routes → IsPlanOf old.network old.routes new.routes demand plan → length (plan_text plan) < 700000000

-- There is an answer.
abbrev pub SomeUpdateText : Type 0
SomeUpdateText =
    (old new : Head) (pairs : List Pair) (demand : List ℕ) → IsPathRouting old.network old.routes → IsPathRouting new.network new.routes →
    (status : ℕ) × (text : List ℕ) × IsUpdateText old new pairs demand status text

-- There is one answer.
abbrev pub OneUpdateText : Type 0
OneUpdateText =
    (old new : Head) (pairs : List Pair) (demand : List ℕ) (status other : ℕ) (text more : List ℕ) →
    IsUpdateText old new pairs demand status text → IsUpdateText old new pairs demand other more → (status ≡ other) × (text ≡ more)
