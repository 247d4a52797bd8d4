-- What was found of I1 to I3 is the answer of `bounds`, and of the inequalities of a repriced certificate that of `reprice`.
use Rattle.std.proofs.Common.{◌≡◌, ◌∙◌, ◌⊎◌, ℕ, List, Some, None, Result, Ok, Err, IfOk, inl, inr, sym}
use Rattle.te_model.specs.declared.certificate.Certificate.{Certificate}
use Rattle.te_model.specs.declared.memory.Memory.{Memory}
use Rattle.te_model.specs.declared.network.Network.{Network}
use Rattle.te_model.specs.Feasible.{first_infeasibility}
use Rattle.te_model.specs.Inequalities.{LinkFailure, first_failure}
use Rattle.te_model.specs.Text.{text as text_of}
use Rattle.te_model.specs.Validity.{IsValid}
use Rattle.ratio_checker.specs.Finding.{finding_of}
use Rattle.ratio_checker.specs.declared.finding.Finding.TheVariants.{No}
use Rattle.link_bounds.specs.Laws.{CanReprice}
use Rattle.link_bounds.specs.Repriced.{repriced}
use Rattle.ratio_checker.proofs.Verdicts.{failure_from_no}
use Rattle.link_bounds.proofs.RepricedHolds.{failures_kept}
use Rattle.command_frame.specs.declared.answer.Answer.{Answer}
use Rattle.command_frame.specs.Outcome.{answer_text, status_of}
use Rattle.certificate_commands.specs.Bounds.{IsBoundsAnswer}
use Rattle.command_files.specs.Check.{SaysNo, no_line}
use Rattle.certificate_commands.specs.Reprice.{IsRepricing}

-- the first of I1 to I3 that fails, in its line
pub says_infeasible : (c : Certificate) (link rule place : ℕ) (r : Result Answer Memory) →
    first_infeasibility c ≡ Some (record { link = link; rule = rule; place = place }) →
    IfOk r (λ answer. (status_of answer ≡ 1) × (answer_text answer ≡ no_line link rule place)) →
    IfOk r (λ answer. IsBoundsAnswer c (status_of answer) (answer_text answer))
says_infeasible c link rule place (Ok answer) found line =
    inr (line.0, record { failure = record { link = link; rule = rule; place = place }; fails = found; line_is = line.1 })
says_infeasible c link rule place (Err e) found line = line

-- the first inequality that fails, in its line
pub says_no : (c : Certificate) (link rule place : ℕ) (r : Result Answer Memory) → No link rule place ≡ finding_of (first_failure c) →
    IfOk r (λ answer. (status_of answer ≡ 1) × (answer_text answer ≡ no_line link rule place)) →
    IfOk r (λ answer. ((status_of answer ≡ 0) × (first_failure c ≡ None) × (answer_text answer ≡ text_of c)) ⊎ ((status_of answer ≡ 1) × SaysNo c (answer_text answer)))
says_no c link rule place (Ok answer) found line =
    let failure : LinkFailure = record { link = link; rule = rule; place = place } in
    inr (line.0, record { failure = failure; fails = failure_from_no (first_failure c) link rule place (sym found); line_is = line.1 })
says_no c link rule place (Err e) found line = line

-- the first inequality of the repriced certificate that fails is the first of I1 to I3 of the certificate
pub repricing_answer : (c : Certificate) (net : Network) (status : ℕ) (text : List ℕ) → IsValid c → CanReprice c net →
    ((status ≡ 0) × (first_failure (repriced c net) ≡ None) × (text ≡ text_of (repriced c net))) ⊎ ((status ≡ 1) × SaysNo (repriced c net) text) →
    IsRepricing c net status text
repricing_answer c net status text valid can (inl x) = inl (x.0, sym (failures_kept c net valid can) ∙ x.1, x.2)
repricing_answer c net status text valid can (inr x) =
    inr (x.0, record { failure = x.1.failure; fails = sym (failures_kept c net valid can) ∙ x.1.fails; line_is = x.1.line_is })
