use Rattle.te_model.specs.Demand.{lower_of, upper_of}
use Rattle.best_blocks.proofs.AllowedUse.{used_by-small}
use Rattle.best_blocks.proofs.balance.used_by.Goals as goal

pub returns-clause-value : goal.returns-clause-value
returns-clause-value c =
    rw (c.upper.ensures, c.lower.ensures, c.saturating_sub-more.ensures, c.min-within.ensures, c.weighed_share-wanted.ensures.value)

pub returns-clause-small : goal.returns-clause-small
returns-clause-small c =
    rw (c.upper.ensures, c.lower.ensures, c.saturating_sub-more.ensures, c.min-within.ensures)
    (used_by-small (lower_of c.args.set.now c.args.entry.pair) (upper_of c.args.set.now c.args.entry.pair) c.args.distance c.weighed_share-wanted.result c.requires.lower
    c.requires.upper c.requires.distance c.weighed_share-wanted.ensures.small)
