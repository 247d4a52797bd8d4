use Rattle.std.proofs.Common.{false, sym}
use Rattle.std.proofs.lemmas.Bool.{false≢true}
use Rattle.serde_json.specs.View.{view}
use Rattle.plan.specs.Values.{envelope_value}
use Rattle.plan.proofs.PlanLemmas.{absent}
use Rattle.plan.proofs.reader.asks_for_envelope.Goals as goal

pub returns-in-None-clause-envelope : goal.returns-in-None-clause-envelope
returns-in-None-clause-envelope c =
    sym (absent false (envelope_value c.args.margin) c.word.result.now _ (view c.args.value.now) c.word.ensures c.in-None.ensures)

pub returns-in-None-clause-alone : goal.returns-in-None-clause-alone
returns-in-None-clause-alone c = λ asked. absurd (false≢true asked)
