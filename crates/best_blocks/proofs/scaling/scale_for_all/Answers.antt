use Rattle.best_blocks.proofs.scaling.scale_for_all.Goals as goal

pub returns-clause-some : goal.returns-clause-some
returns-clause-some c = record { apart = c.has_free_share.ensures.none c.if-has_free_share.false; quotient = c.greatest_quotient-best.ensures.0 }
