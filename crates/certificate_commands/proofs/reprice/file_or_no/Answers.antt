use Rattle.certificate_commands.proofs.BoundsAnswers.{says_no}
use Rattle.certificate_commands.proofs.reprice.file_or_no.Goals as goal

pub returns-in-No : goal.returns-in-No
returns-in-No c = says_no c.args.certificate.now c.in-No.link c.in-No.rule c.in-No.place c.failure_answer.result c.in-No.ensures.finding c.failure_answer.ensures
