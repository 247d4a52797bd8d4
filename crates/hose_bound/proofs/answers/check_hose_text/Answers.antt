use Rattle.std.proofs.Common.{◌∙◌, List, ap, sym}
use Rattle.te_model.specs.declared.route.PairRoutes.{PairRoutes}
use Rattle.hose_bound.specs.Answers.{hose_verdict}
use Rattle.hose_bound.proofs.Answered.{answered_bound}
use Rattle.hose_bound.proofs.answers.check_hose_text.Goals as goal

pub returns-clause-proves : goal.returns-clause-proves
returns-clause-proves c = λ none.
    let net = c.args.head.now.network in
    let is = c.first_verdict-verdict.ensures ∙ ap (λ (rs : List PairRoutes). hose_verdict net rs c.args.cert.now) c.as_slice.ensures in
    answered_bound net c.args.head.now.routes c.args.cert.now c.first_verdict-verdict.result c.requires.pairs is (sym c.verdict_status.ensures ∙ none)
