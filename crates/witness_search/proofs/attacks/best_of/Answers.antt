use Rattle.witness_search.proofs.attacks.best_of.Goals as goal

pub returns-in_ok-best_of_all-in-All : goal.returns-in_ok-best_of_all-in-All
returns-in_ok-best_of_all-in-All g c = c.in_ok-best_of_all-in-All.ensures

pub returns-in_ok-best_of_margin-in-Margin : goal.returns-in_ok-best_of_margin-in-Margin
returns-in_ok-best_of_margin-in-Margin g c = c.in_ok-best_of_margin-in-Margin.ensures
