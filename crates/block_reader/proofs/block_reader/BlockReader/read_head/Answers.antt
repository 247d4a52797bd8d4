use Rattle.std.proofs.Common.{[], Ok, Err, subst}
use Rattle.std.proofs.lemmas.Result.{err_from_is_err_and}
use Rattle.block_reader.specs.Blocks.{IsFaultOf}
use Rattle.block_reader.proofs.Handing.{count_refused, head_refused}
use Rattle.block_reader.proofs.Advancing.{fault_is}
use Rattle.block_reader.proofs.Starting.{opened_reader}
use Rattle.block_reader.proofs.Reading.{reads_then, reads_as, reads_err}
use Rattle.block_reader.proofs.block_reader.BlockReader.read_head.Goals as goal

pub returns-in_err-head-clause-refused : goal.returns-in_err-head-clause-refused
returns-in_err-head-clause-refused g c =
    let p = err_from_is_err_and c.from_residual-in_err-head.result c.from_residual-in_err-head.ensures.1 in
    let f = c.in_err-head.field-0.0 in
    let lines = c.in_ok-lines.ensures in
    rw (p.1, p.2) (λ fault is.
    subst (IsFaultOf _) (fault_is f fault is) (head_refused _ c.in_ok-lines.lines f lines.line (c.in_err-head.ensures.answers _ [] lines.behind)))

pub returns-in_err-reader-clause-refused : goal.returns-in_err-reader-clause-refused
returns-in_err-reader-clause-refused g c =
    let p = err_from_is_err_and c.from_residual-in_err-reader.result c.from_residual-in_err-reader.ensures.1 in
    let f = c.in_err-reader.field-0.0 in
    let lines = c.in_ok-lines.ensures in
    rw (p.1, p.2) (λ fault is.
    subst (IsFaultOf _) (fault_is f fault is)
    (count_refused _ _ _ c.in_ok-lines.lines c.format_and_head.new.lines c.in_ok-head.head f lines.line lines.behind (c.in_ok-head.ensures.answers _) (c.in_err-reader.ensures.counts _)))

pub returns-clause-stands : goal.returns-clause-stands
returns-clause-stands g c =
    let lines = c.in_ok-lines.ensures in
    opened_reader _ _ _ c.in_ok-lines.lines c.format_and_head.new.lines c.in_ok-reader.reader _ c.in_ok-head.head lines.line lines.behind
    (c.in_ok-head.ensures.answers _) c.in_ok-head.ensures.fits c.in_ok-reader.ensures.behind (c.in_ok-reader.ensures.counts _)

pub returns-in_err-lines-clause-reads : goal.returns-in_err-lines-clause-reads
returns-in_err-lines-clause-reads g c =
    let p = err_from_is_err_and c.from_residual.result c.from_residual.ensures.1 in
    rw (p.1, p.2) (reads_err _ _ _ c.in_err-lines.field-0.0 c.in_err-lines.ensures.reads)

pub returns-in_err-head-clause-reads : goal.returns-in_err-head-clause-reads
returns-in_err-head-clause-reads g c =
    let p = err_from_is_err_and c.from_residual-in_err-head.result c.from_residual-in_err-head.ensures.1 in
    rw (p.1, p.2) (reads_then _ _ _ _ c.in_ok-lines.lines (Err c.in_err-head.field-0.0) c.in_ok-lines.ensures.reads (reads_err _ _ _ c.in_err-head.field-0.0 c.in_err-head.ensures.reads))

pub returns-in_err-reader-clause-reads : goal.returns-in_err-reader-clause-reads
returns-in_err-reader-clause-reads g c =
    let p = err_from_is_err_and c.from_residual-in_err-reader.result c.from_residual-in_err-reader.ensures.1 in
    let f = c.in_err-reader.field-0.0 in
    rw (p.1, p.2)
    (reads_then _ _ _ _ c.in_ok-lines.lines (Err f) c.in_ok-lines.ensures.reads
    (reads_then _ _ _ _ c.in_ok-head.head (Err f) c.in_ok-head.ensures.reads (reads_err _ _ _ f c.in_err-reader.ensures.reads)))

pub returns-clause-reads : goal.returns-clause-reads
returns-clause-reads g c =
    reads_then _ _ _ _ c.in_ok-lines.lines (Ok _) c.in_ok-lines.ensures.reads
    (reads_then _ _ _ _ c.in_ok-head.head (Ok _) c.in_ok-head.ensures.reads (reads_as _ _ _ c.in_ok-reader.reader _ c.in_ok-reader.ensures.reads))
