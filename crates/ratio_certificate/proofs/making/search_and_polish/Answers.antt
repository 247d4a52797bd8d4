use Rattle.ratio_certificate.proofs.Searched.{own_weightings, weightings_after}
use Rattle.ratio_certificate.proofs.making.search_and_polish.Goals as goal

pub polish-requires-clause-list : goal.polish-requires-clause-list
polish-requires-clause-list c =
    let p = c.args.problem.now in
    own_weightings p.net.now p.routing.now.routes p.set.now c.args.links.now c.args.weightings.now c.search.new.list c.in_ok-search.ensures

pub returns-clause-weightings : goal.returns-clause-weightings
returns-clause-weightings c =
    let p = c.args.problem.now in
    weightings_after p.net.now p.routing.now.routes p.set.now c.args.links.now c.args.weightings.now c.search.new.list c.polish.new.list c.in_ok-search.ensures
    c.in_ok-polish.ensures.list

pub returns-clause-done : goal.returns-clause-done
returns-clause-done c = c.in_ok-polish.ensures.done
