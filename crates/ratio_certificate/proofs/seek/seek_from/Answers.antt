use Rattle.ratio_certificate.proofs.seek.seek_from.Goals as goal

pub finish-requires-clause-search : goal.finish-requires-clause-search
finish-requires-clause-search c = c.in_ok-search.ensures

pub returns-clause-link : goal.returns-clause-link
returns-clause-link c = c.in_ok-finish.ensures.link

pub returns-clause-weighting : goal.returns-clause-weighting
returns-clause-weighting c = c.in_ok-finish.ensures.best
