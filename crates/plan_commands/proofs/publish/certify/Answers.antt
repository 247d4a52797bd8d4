use Rattle.std.proofs.Common.{rules}
use Rattle.plan_commands.proofs.publish.certify.Goals as goal

pub returns-in_ok-line-in-Err-NoPath-clause-answer : goal.returns-in_ok-line-in-Err-NoPath-clause-answer
returns-in_ok-line-in-Err-NoPath-clause-answer c = search rules
