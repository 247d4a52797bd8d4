use Rattle.ratio_certificate.proofs.rounds.best_round.Goals as goal

pub make_rounds-requires-clause-rounds : goal.make_rounds-requires-clause-rounds
make_rounds-requires-clause-rounds c = c.in_ok-rounds.ensures

pub returns-clause-link : goal.returns-clause-link
returns-clause-link c = c.in_ok-make_rounds.ensures.link

pub returns-clause-weighting : goal.returns-clause-weighting
returns-clause-weighting c = c.in_ok-make_rounds.ensures.weighting

pub returns-clause-least : goal.returns-clause-least
returns-clause-least c = c.in_ok-make_rounds.ensures.least

pub returns-clause-small : goal.returns-clause-small
returns-clause-small c = c.in_ok-make_rounds.ensures.small
