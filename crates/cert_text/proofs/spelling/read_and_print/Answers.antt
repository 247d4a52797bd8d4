-- Who prints what was read refuses as who reads does.
use Rattle.std.proofs.Common.{Vec, Global, ℕ}
use Rattle.te_model.specs.declared.certificate.Certificate.{Certificate}
use Rattle.cert_text.specs.declared.fault.CertFault.TheVariants as faults
use Rattle.cert_text.proofs.Laws.{spelled_or_ruled}
use Rattle.cert_text.proofs.Outcomes.{same_refusal}
use Rattle.cert_text.proofs.spelling.read_and_print.Goals as goal

pub returns-in-Ok-clause-invalid : goal.returns-in-Ok-clause-invalid
returns-in-Ok-clause-invalid c = λ f fault. absurd (spelled_or_ruled c.args.bytes.now c.in-Ok.cert f c.in-Ok.ensures.spelled fault)

pub returns-in-Err-clause-misshaped : goal.returns-in-Err-clause-misshaped
returns-in-Err-clause-misshaped c = λ k fault. same_refusal Certificate (Vec ℕ Global) c.in-Err.fault (faults.Shape k) (c.in-Err.ensures.misshaped k fault)

pub returns-in-Err-clause-invalid : goal.returns-in-Err-clause-invalid
returns-in-Err-clause-invalid c = λ f fault. same_refusal Certificate (Vec ℕ Global) c.in-Err.fault (faults.Rule f) (c.in-Err.ensures.invalid f fault)
