use Rattle.std.proofs.Common.{◌∙◌, List, ap}
use Rattle.te_model.specs.declared.route.PairRoutes.{PairRoutes}
use Rattle.hose_bound.specs.Verdict.{first_hose_failure, verdict_of}
use Rattle.hose_bound.proofs.Verdicts.{yes_is_holds, yes_is_bound, no_is_first}
use Rattle.hose_bound.proofs.verdict.judge.Goals as goal

pub returns-clause-verdict : goal.returns-clause-verdict
returns-clause-verdict c = c.first_verdict.ensures ∙ ap (λ (rs : List PairRoutes). verdict_of (first_hose_failure c.args.net.now rs c.args.cert.now)) c.as_slice.ensures

pub returns-clause-yes : goal.returns-clause-yes
returns-clause-yes c = yes_is_holds c.args.net.now c.args.routing.now.routes c.args.cert.now c.first_verdict.result (returns-clause-verdict c)

pub returns-clause-bounded : goal.returns-clause-bounded
returns-clause-bounded c =
    yes_is_bound c.args.net.now c.args.routing.now.routes c.args.cert.now c.first_verdict.result c.requires.pairs (returns-clause-verdict c)

pub returns-clause-no : goal.returns-clause-no
returns-clause-no c = no_is_first c.args.net.now c.args.routing.now.routes c.args.cert.now c.first_verdict.result (returns-clause-verdict c)
