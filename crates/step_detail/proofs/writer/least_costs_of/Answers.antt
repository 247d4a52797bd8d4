use Rattle.std.proofs.Common.{◌≡◌, ◌∙◌, ap, sym}
use Rattle.std.proofs.lemmas.Bool.{false≢true}
use Rattle.std.proofs.lemmas.Result.{IfOk-weaker}
use Rattle.step_detail.specs.declared.breakdown.Breakdown.TheVariants.{Pairs}
use Rattle.step_detail.specs.Pairs.{AreLeastCosts}
use Rattle.step_detail.proofs.Steps.{has_least_costs}
use Rattle.step_detail.proofs.writer.least_costs_of.Goals as goal

pub returns-in-Links : goal.returns-in-Links
returns-in-Links c = λ by_pairs. absurd (false≢true (sym (ap has_least_costs c.in-Links.is) ∙ ap has_least_costs by_pairs))

pub returns-in-Pairs : goal.returns-in-Pairs
returns-in-Pairs c =
    let net = c.args.network.now in
    let pairs = c.args.pairs.now in
    IfOk-weaker c.least_costs.result (λ least. AreLeastCosts net pairs least.items) (λ least. c.args.breakdown ≡ Pairs → AreLeastCosts net pairs least.items)
    (λ least are by_pairs. are) c.least_costs.ensures

pub returns-in-Paths : goal.returns-in-Paths
returns-in-Paths c = λ by_pairs. absurd (false≢true (sym (ap has_least_costs c.in-Paths.is) ∙ ap has_least_costs by_pairs))
