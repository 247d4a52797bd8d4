use Rattle.worst_matrices.proofs.UsedBlocks.{found_is_used, none_is_unused}
use Rattle.worst_matrices.proofs.worst.worst_matrices.Goals as goal

pub returns-in-Some-clause-unused : goal.returns-in-Some-clause-unused
returns-in-Some-clause-unused c = λ unused.
    absurd (unused (found_is_used c.args.net.now c.args.routing.now.routes _ c.args.blocks.now _ c.in_ok-shares.ensures c.requires.blocks c.in-Some.ensures.neediest))

pub returns-clause-used : goal.returns-clause-used
returns-clause-used c = λ used.
    absurd (none_is_unused c.args.net.now c.args.routing.now.routes _ c.args.blocks.now c.in_ok-shares.ensures c.requires.blocks c.in-None.ensures.neediest used)
