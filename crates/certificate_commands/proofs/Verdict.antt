-- The line of what was found of a certificate is the answer on it.
use Rattle.std.proofs.Common.{◌≡◌, ◌↔◌, Bool, true, false, Option, Some, None, Result, Ok, Err, IfOk, inl, inr, refl}
use Rattle.std.specs.Bool.{IsTrue}
use Rattle.te_model.specs.declared.memory.Memory.{Memory}
use Rattle.te_model.specs.declared.certificate.Certificate.{Certificate}
use Rattle.te_model.specs.declared.network.Network.{Network}
use Rattle.te_model.specs.Inequalities.{LinkFailure, first_failure}
use Rattle.update_plan.specs.Answer.{no_network_line}
use Rattle.ratio_checker.specs.Finding.{finding_of}
use Rattle.ratio_checker.specs.declared.finding.Finding.{Finding}
use Rattle.command_frame.specs.declared.answer.Answer.{Answer}
use Rattle.command_files.specs.Check.{IsVerdict, IsNetworkVerdict}
use Rattle.certificate_commands.specs.Outcome.{IsLineOf}
use Rattle.command_frame.specs.Outcome.{status_of, answer_text}

-- what the first failure gives
line_of_failure : (c : Certificate) (failure : Option LinkFailure) (answer : Answer) → first_failure c ≡ failure →
    IsLineOf c (finding_of failure) answer → IsVerdict c (status_of answer) (answer_text answer)
line_of_failure c None answer is line = inl (line.0, record { holds = is; line_is = line.1 })
line_of_failure c (Some failure) answer is line = inr (line.0, record { failure = failure; fails = is; line_is = line.1 })

pub verdict_found : (c : Certificate) (finding : Finding) (r : Result Answer Memory) → finding ≡ finding_of (first_failure c) →
    IfOk r (IsLineOf c finding) → IfOk r (λ answer. IsVerdict c (status_of answer) (answer_text answer))
verdict_found c finding (Ok answer) is line = line_of_failure c (first_failure c) answer refl (rw is at line)
verdict_found c finding (Err e) is line = line

-- which is also that on a certificate of its network
pub network_found : (c : Certificate) (network : Network) (r : Result Answer Memory) → c.head.network ≡ network →
    IfOk r (λ answer. IsVerdict c (status_of answer) (answer_text answer)) →
    IfOk r (λ answer. IsNetworkVerdict c network (status_of answer) (answer_text answer))
network_found c network (Ok answer) same is = inl (same, is)
network_found c network (Err e) same is = is

-- and that on a certificate of another network
pub other_network : (c : Certificate) (network : Network) (same : Bool) (r : Result Answer Memory) → IsTrue same ↔ (c.head.network ≡ network) → same ≡ false →
    IfOk r (λ answer. (status_of answer ≡ 1) × (answer_text answer ≡ no_network_line)) →
    IfOk r (λ answer. IsNetworkVerdict c network (status_of answer) (answer_text answer))
other_network c network same (Ok answer) is other line = inr ((λ e. not_both same (is.1 e) other), line.0, line.1)
  where
    not_both : (b : Bool) → b ≡ true → b ≡ false → ⊥
    not_both b is other = cc
other_network c network same (Err e) is other line = line
