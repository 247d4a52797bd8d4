use Rattle.std.proofs.Common.{subst}
use Rattle.std.proofs.lemmas.Result.{err_from_is_err_and}
use Rattle.block_reader.specs.Blocks.{IsFaultOf}
use Rattle.block_reader.proofs.Handing.{block_refused}
use Rattle.block_reader.proofs.Advancing.{fault_is, next_handed}
use Rattle.block_reader.proofs.Reading.{reads_as, reads_err}
use Rattle.block_reader.proofs.blocks.Blocks.read_next.Goals as goal

pub returns-in_err-take_next-clause-refused : goal.returns-in_err-take_next-clause-refused
returns-in_err-take_next-clause-refused g c =
    let p = err_from_is_err_and c.from_residual.result c.from_residual.ensures.1 in
    rw (p.1, p.2) (λ fault is before head blocks are.
    subst (IsFaultOf _) (fault_is c.in_err-take_next.field-0.0 fault is)
    (block_refused _ _ c.args.self.now head blocks c.in_err-take_next.field-0.0 c.requires.some are (c.in_err-take_next.ensures.answers before)))

pub returns-in_err-take_next-clause-reads : goal.returns-in_err-take_next-clause-reads
returns-in_err-take_next-clause-reads g c =
    let p = err_from_is_err_and c.from_residual.result c.from_residual.ensures.1 in
    rw (p.1, p.2) (reads_err _ _ _ c.in_err-take_next.field-0.0 c.in_err-take_next.ensures.reads)

pub returns-clause-handed : goal.returns-clause-handed
returns-clause-handed g c = λ before head blocks are.
    let take = c.in_ok-take_next.ensures in
    let count = c.count.ensures in
    next_handed _ _ c.args.self.now c.take_next.new.self c.count.new.self head blocks (take.answers before) take.room take.left take.place
    count.lines count.room count.block count.left count.place count.before are

pub returns-clause-reads : goal.returns-clause-reads
returns-clause-reads g c = reads_as _ _ _ tt c.count.result c.in_ok-take_next.ensures.reads
