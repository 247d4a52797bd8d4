use Rattle.best_blocks.proofs.quotient.dearest_pair.Goals as goal

pub returns : goal.returns
returns c = (c.greatest_quotient.result.share, c.greatest_quotient.result.distance, c.greatest_quotient.ensures)
