use Rattle.std.proofs.Common.{sym, subst, ap}
use Rattle.std.specs.Prelude.{IfSome}
use Rattle.std.proofs.Common.{Option, List}
use Rattle.std.proofs.lemmas.Result.{IfOk-weaker}
use Rattle.traffic_matrix.specs.declared.series.Series.{Series}
use Rattle.traffic_matrix.specs.Limits.{IsSeries}
use Rattle.traffic_matrix.specs.Traffic.{IsTraffic}
use Rattle.traffic_matrix.proofs.TrafficLemmas.{predicted-limits}
use Rattle.traffic_matrix.proofs.traffic.Traffic.of.Goals as goal

pub returns-in-Some-clause-in_range : goal.returns-in-Some-clause-in_range
returns-in-Some-clause-in_range c =
    let n = c.args.nodes in
    let are : IsSeries n c.in-Some.predictions = subst (λ (o : Option Series). IfSome o (IsSeries n)) c.in-Some.is c.requires.predictions in
    IfOk-weaker c.with_predictions.result _ (IsTraffic n)
    (λ t is. subst (IsTraffic n) (sym is) (predicted-limits n c.args.sent c.in-Some.predictions c.requires.sent are)) c.with_predictions.ensures.traffic
