use Rattle.tree_embed.proofs.chain.cross.Goals as goal

pub climb-requires-clause-table : goal.climb-requires-clause-table
climb-requires-clause-table c = (c.requires.table.0, c.requires.table.1, c.requires.table.2)

pub descend-requires-clause-table : goal.descend-requires-clause-table
descend-requires-clause-table c = (c.requires.table.0, c.requires.table.1, c.requires.table.3)
