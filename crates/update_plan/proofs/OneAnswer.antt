-- There is one answer on an update.
use Rattle.std.proofs.Common.{inl, inr, ◌≡◌, ℕ, List, length, ap, sym, ◌∙◌, subst}
use Rattle.std.proofs.lemmas.Bool.{cases_order}
use Rattle.te_model.specs.declared.network.Network.{Network}
use Rattle.te_model.specs.declared.route.PairRoutes.{PairRoutes}
use Rattle.update_plan.specs.declared.path.UpdatePlan.{UpdatePlan}
use Rattle.update_plan.specs.Answer.{OneUpdateText, no_slack_line}
use Rattle.update_plan.specs.Paths.{update_of}
use Rattle.update_plan.specs.Plan.{IsLeastSafe, IsPlanOf, LacksSlack, LacksSlackOn}
use Rattle.update_plan.specs.Text.{plan_text}
use Rattle.update_plan.specs.Update.{Update}
use Rattle.update_plan.proofs.OneList.{same_paths}

-- the least number of steps is one
one_least : (x : Update) (K L : ℕ) → IsLeastSafe x K → IsLeastSafe x L → K ≡ L
one_least x K L here there = elim (cases_order K L) [
  | inl same ↦ same
  | inr other ↦ elim other [
    | inl lt ↦ absurd (there.least K here.some lt here.safe)
    | inr gt ↦ absurd (here.least L there.some gt there.safe)
  ]
]

-- the link that lacks slack is one
one_link : (x : Update) (e h : ℕ) → LacksSlack x e → LacksSlack x h → e ≡ h
one_link x e h here there = elim (cases_order e h) [
  | inl same ↦ same
  | inr other ↦ elim other [ inl lt ↦ absurd (here.fails (there.first e lt)) | inr gt ↦ absurd (there.fails (here.first h gt)) ]
]

one_plan : (net : Network) (before after : List PairRoutes) (demand : List ℕ) (plan other : UpdatePlan) → IsPlanOf net before after demand plan →
    IsPlanOf net before after demand other → plan_text plan ≡ plan_text other
one_plan net before after demand plan other (are, least) (are', least') =
    let paths = same_paths before after (length before) plan.paths other.paths are are' in
    let steps = one_least (update_of net demand other.paths) plan.steps other.steps (subst (λ l. IsLeastSafe (update_of net demand l) plan.steps) paths least) least' in
    ap (λ s. plan_text (record { steps = s; paths = plan.paths })) steps ∙ ap (λ l. plan_text (record { steps = other.steps; paths = l })) paths

one_lack : (net : Network) (before after : List PairRoutes) (demand : List ℕ) (e h : ℕ) → LacksSlackOn net before after demand e →
    LacksSlackOn net before after demand h → e ≡ h
one_lack net before after demand e h (paths, are, lacks) (others, are', lacks') =
    let same = same_paths before after (length before) paths others are are' in
    one_link (update_of net demand others) e h (subst (λ l. LacksSlack (update_of net demand l) e) same lacks) lacks'

plan_or_lack : (net : Network) (before after : List PairRoutes) (demand : List ℕ) (plan : UpdatePlan) (e : ℕ) → IsPlanOf net before after demand plan →
    LacksSlackOn net before after demand e → ⊥
plan_or_lack net before after demand plan e (are, least) (paths, are', lacks) =
    let same = same_paths before after (length before) plan.paths paths are are' in
    lacks.none plan.steps least.some least.few (subst (λ l. IsLeastSafe (update_of net demand l) plan.steps) same least).safe

pub one_answer : OneUpdateText
one_answer old new pairs demand s s' t t' (inl (apart, is, text)) (inl (apart', is', text')) = (is ∙ sym is', text ∙ sym text')
one_answer old new pairs demand s s' t t' (inl (apart, is, text)) (inr (inl (same, differ, is', text'))) = absurd (apart same)
one_answer old new pairs demand s s' t t' (inl (apart, is, text)) (inr (inr (same, have, rest))) = absurd (apart same)
one_answer old new pairs demand s s' t t' (inr (inl (same, differ, is', text'))) (inl (apart, is, text)) = absurd (apart same)
one_answer old new pairs demand s s' t t' (inr (inl (same, differ, is, text))) (inr (inl (same', differ', is', text'))) = (is ∙ sym is', text ∙ sym text')
one_answer old new pairs demand s s' t t' (inr (inl (same, differ, is, text))) (inr (inr (same', have, rest))) = absurd (differ have)
one_answer old new pairs demand s s' t t' (inr (inr (same, have, rest))) (inl (apart, is, text)) = absurd (apart same)
one_answer old new pairs demand s s' t t' (inr (inr (same, have, rest))) (inr (inl (same', differ, is, text))) = absurd (differ have)
one_answer old new pairs demand s s' t t' (inr (inr (same, have, inl a))) (inr (inr (same', have', inl b))) =
    (a.status_is ∙ sym b.status_is, a.text_is ∙ (one_plan old.network old.routes new.routes demand a.plan b.plan a.is_plan b.is_plan ∙ sym b.text_is))
one_answer old new pairs demand s s' t t' (inr (inr (same, have, inl a))) (inr (inr (same', have', inr b))) =
    absurd (plan_or_lack old.network old.routes new.routes demand a.plan b.link a.is_plan b.lacks)
one_answer old new pairs demand s s' t t' (inr (inr (same, have, inr a))) (inr (inr (same', have', inl b))) =
    absurd (plan_or_lack old.network old.routes new.routes demand b.plan a.link b.is_plan a.lacks)
one_answer old new pairs demand s s' t t' (inr (inr (same, have, inr a))) (inr (inr (same', have', inr b))) = (
  a.status_is ∙ sym b.status_is,
  a.text_is ∙ (ap no_slack_line (one_lack old.network old.routes new.routes demand a.link b.link a.lacks b.lacks) ∙ sym b.text_is),
)
