use Rattle.witness_search.specs.Attempts.{RoutesBy, pairs_of}
use Rattle.witness_search.proofs.Raising.{raised_self}
use Rattle.witness_search.proofs.challenges.raise.Goals as goal

pub loop-matrix-init : goal.loop-matrix-init
loop-matrix-init g c =
    let h = c.args.head.now in
    raised_self h (RoutesBy (g.S.Scheme.relates c.args.rival.now h.network (pairs_of h) c.args.plan.now)) c.args.own c.requires.own c.requires.yes
