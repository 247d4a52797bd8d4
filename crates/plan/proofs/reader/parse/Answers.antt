use Rattle.plan.proofs.PlanLemmas.{json-of-text}
use Rattle.plan.proofs.reader.parse.Goals as goal

pub returns-in-Ok-from_str-clause-value : goal.returns-in-Ok-from_str-clause-value
returns-in-Ok-from_str-clause-value c = json-of-text c.args.bytes.now c.in-Ok.ensures.cases.1 _ (rw c.in-Ok.ensures.cases.0 at c.in-Ok-from_str.ensures.ok)
