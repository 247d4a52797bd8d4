use Rattle.semi_oblivious.proofs.semi.SemiAdaptive.adapt_rates.Goals as goal

pub returns-clause-routing : goal.returns-clause-routing
returns-clause-routing g c = λ pairs is. c.in_ok-routing.ensures.routing pairs is

pub returns-clause-few : goal.returns-clause-few
returns-clause-few g c = c.in_ok-routing.ensures.few 32 c.requires.few

pub returns-clause-keeps : goal.returns-clause-keeps
returns-clause-keeps g c = c.in_ok-routing.ensures.adapted.fixed_paths

pub returns-clause-adapted : goal.returns-clause-adapted
returns-clause-adapted g c = (c.in_ok-routing.note, c.in_ok-routing.ensures.adapted, c.low-low.ensures)
