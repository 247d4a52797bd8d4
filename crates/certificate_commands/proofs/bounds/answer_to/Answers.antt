use Rattle.std.proofs.Common.{inl, refl, subst}
use Rattle.link_bounds.specs.Bounds.{AreBoundsOf}
use Rattle.certificate_commands.proofs.BoundsAnswers.{says_infeasible}
use Rattle.certificate_commands.proofs.bounds.answer_to.Goals as goal

-- the table is that of the certificate, of which none of I1 to I3 fails
pub returns-in-Table : goal.returns-in-Table
returns-in-Table c = λ certificate are.
    let is = subst (AreBoundsOf certificate) c.in-Table.is are in
    inl (refl, is.0, is.1)

pub returns-in-Infeasible : goal.returns-in-Infeasible
returns-in-Infeasible c = λ certificate are.
    says_infeasible certificate c.in-Infeasible.link c.in-Infeasible.rule c.in-Infeasible.place c.failure_answer.result
    (subst (AreBoundsOf certificate) c.in-Infeasible.is are) c.failure_answer.ensures
