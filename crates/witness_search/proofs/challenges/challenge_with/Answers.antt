use Rattle.std.proofs.lemmas.Result.{IfOk-weaker}
use Rattle.witness_search.specs.Attempts.{RoutesBy, pairs_of}
use Rattle.witness_search.specs.Challenge.{IsChallenge, IsRaised}
use Rattle.witness_search.proofs.challenges.challenge_with.Goals as goal

pub returns : goal.returns
returns g c =
    let h = c.args.head.now in
    let is_plan = g.S.Scheme.is_plan c.args.rival.now in
    let relates = g.S.Scheme.relates c.args.rival.now in
    let own = c.in_ok-own.own in
    IfOk-weaker c.raise.result (IsRaised h (RoutesBy (relates h.network (pairs_of h) c.in_ok-plan.plan)) own) (IsChallenge is_plan relates h)
    (λ w raised. record {
      own = own;
      attack = record { of_head = c.in_ok-own.ensures.witness; plan = c.in_ok-plan.plan; planned = c.in_ok-plan.ensures; chosen = c.in_ok-own.ensures.chosen };
      raised = raised;
    }) c.raise.ensures
