use Rattle.std.proofs.Common.{Ok, Err}
use Rattle.std.proofs.lemmas.Result.{err_from_is_err_and}
use Rattle.block_reader.proofs.Answering.{behind_begun}
use Rattle.block_reader.proofs.PartLaws.{block_count_part}
use Rattle.block_reader.proofs.Reading.{reads_then, reads_as, reads_err, reads_short}
use Rattle.block_reader.proofs.Starting.{count_of_head}
use Rattle.block_reader.proofs.block_reader.BlockReader.behind.Goals as goal

pub read_part-requires-clause-part : goal.read_part-requires-clause-part
read_part-requires-clause-part g c = block_count_part c.limits_of-limits.result

pub returns-in_err-left-clause-counts : goal.returns-in_err-left-clause-counts
returns-in_err-left-clause-counts g c = λ before.
    let p = err_from_is_err_and c.from_residual.result c.from_residual.ensures.1 in
    rw (p.1, p.2) (count_of_head _ _ c.args.lines c.read_part.new.lines c.limits_of-limits.result c.args.head.now (Err c.in_err-left.field-0.0) c.limits_of-limits.ensures (c.in_err-left.ensures.answers before))

pub returns-in_err-left-clause-reads : goal.returns-in_err-left-clause-reads
returns-in_err-left-clause-reads g c =
    let p = err_from_is_err_and c.from_residual.result c.from_residual.ensures.1 in
    rw (p.1, p.2) (reads_err _ _ _ c.in_err-left.field-0.0 c.in_err-left.ensures.reads)

pub returns-in_err-name-clause-counts : goal.returns-in_err-name-clause-counts
returns-in_err-name-clause-counts g c = λ before.
    let p = err_from_is_err_and c.from_residual-in_err-name.result c.from_residual-in_err-name.ensures.1 in
    rw (p.1, p.2) (λ passed b. behind_begun _ c.read_part.new.lines _ ((c.in_ok-left.ensures.answers before passed b).1))

pub returns-in_err-name-clause-reads : goal.returns-in_err-name-clause-reads
returns-in_err-name-clause-reads g c =
    let p = err_from_is_err_and c.from_residual-in_err-name.result c.from_residual-in_err-name.ensures.1 in
    rw p.1 (reads_then _ _ _ _ c.in_ok-left.left (Err p.0) c.in_ok-left.ensures.reads (reads_short _ c.args.name.now p.0 p.2))

pub returns-in_err-room-clause-counts : goal.returns-in_err-room-clause-counts
returns-in_err-room-clause-counts g c = λ before.
    let p = err_from_is_err_and c.from_residual-in_err-room.result c.from_residual-in_err-room.ensures.1 in
    rw (p.1, p.2) (λ passed b. behind_begun _ c.read_part.new.lines _ ((c.in_ok-left.ensures.answers before passed b).1))

pub returns-in_err-room-clause-reads : goal.returns-in_err-room-clause-reads
returns-in_err-room-clause-reads g c =
    let p = err_from_is_err_and c.from_residual-in_err-room.result c.from_residual-in_err-room.ensures.1 in
    rw p.1 (reads_then _ _ _ _ c.in_ok-left.left (Err p.0) c.in_ok-left.ensures.reads (reads_short _ c.args.name.now p.0 p.2))

pub returns-clause-counts : goal.returns-clause-counts
returns-clause-counts g c = λ before. count_of_head _ _ c.args.lines c.read_part.new.lines c.limits_of-limits.result c.args.head.now (Ok c.in_ok-left.left) c.limits_of-limits.ensures (c.in_ok-left.ensures.answers before)

pub returns-clause-reads : goal.returns-clause-reads
returns-clause-reads g c = reads_as _ _ _ c.in_ok-left.left _ c.in_ok-left.ensures.reads
