use Rattle.std.proofs.Common.{Err, ap, refl, subst}
use Rattle.std.proofs.lemmas.Result.{err_from_is_err_and}
use Rattle.cert_text.specs.Reading.{narrow_number}
use Rattle.cert_text.specs.Grammar.{read_block}
use Rattle.cert_text.specs.declared.fault.Stop.TheVariants as stops
use Rattle.block_reader.specs.Answers.{HasEnough}
use Rattle.block_reader.specs.Sizes.{block_size}
use Rattle.block_reader.proofs.Sizes.{block_ahead}
use Rattle.block_reader.proofs.Answering.{part_gives, part_stops, fill_stops}
use Rattle.block_reader.specs.declared.stream_fault.StreamFault.TheVariants as faults
use Rattle.block_reader.proofs.Advancing.{stop_is, fault_is}
use Rattle.block_reader.proofs.Reading.{reads_then, reads_err}
use Rattle.block_reader.proofs.blocks.Blocks.take_next.Goals as goal

pub returns-in_err-fill-clause-answers : goal.returns-in_err-fill-clause-answers
returns-in_err-fill-clause-answers g c =
    let room = c.args.self.now.room in
    let p = err_from_is_err_and c.from_residual.result c.from_residual.ensures.1 in
    rw (p.1, p.2)
    (λ before. fill_stops _ _ c.args.self.now.lines c.fill.new.self (read_block room.limits narrow_number room.counts) c.in_err-fill.field-0.0 ((rw c.as_str.ensures.value at c.in_err-fill.ensures.behind) before)
    (c.in_err-fill.ensures.closed c.in_err-fill.field-0.0 refl))

pub returns-in_err-fill-clause-reads : goal.returns-in_err-fill-clause-reads
returns-in_err-fill-clause-reads g c =
    let p = err_from_is_err_and c.from_residual.result c.from_residual.ensures.1 in
    rw (p.1, p.2) (reads_err _ _ _ c.in_err-fill.field-0.0 (rw c.as_str.ensures.value at c.in_err-fill.ensures.reads))

pub returns-in-Ok-clause-answers : goal.returns-in-Ok-clause-answers
returns-in-Ok-clause-answers g c = λ before.
    let room = c.args.self.now.room in
    let fill = c.in_ok-fill.ensures in
    let took = c.in-Ok.ensures.took in
    part_gives _ _ c.args.self.now.lines c.fill.new.self c.take_block.new.lines (block_size room.limits.nodes room.counts) (read_block room.limits narrow_number room.counts) c.take_block.new.room.block took.0
    (block_ahead room.limits narrow_number room.counts) ((rw c.as_str.ensures.value at fill.behind) before) ((rw c.as_str.ensures.value at fill.stood) before) (subst (HasEnough c.fill.new.self.window) c.args.self.now.sized fill.enough) fill.line took.1 took.2

pub returns-in-Err-clause-answers : goal.returns-in-Err-clause-answers
returns-in-Err-clause-answers g c = λ before.
    let room = c.args.self.now.room in
    let fill = c.in_ok-fill.ensures in
    part_stops _ _ _ c.args.self.now.lines c.fill.new.self (block_size room.limits.nodes room.counts) (read_block room.limits narrow_number room.counts) c.in-Err.stop c.stopped.result
    (block_ahead room.limits narrow_number room.counts) ((rw c.as_str.ensures.value at fill.behind) before) ((rw c.as_str.ensures.value at fill.stood) before) (subst (HasEnough c.fill.new.self.window) c.args.self.now.sized fill.enough) fill.line
    (λ line is. c.in-Err.ensures.stops line (stop_is c.in-Err.stop (stops.Shape line) is))
    ((rw (c.in-Err.ensures.same, c.as_str-in-Err.ensures.value) at c.stopped.ensures.drained) before)

pub returns-in-Err-clause-reads : goal.returns-in-Err-clause-reads
returns-in-Err-clause-reads g c = reads_then _ _ _ _ tt (Err c.stopped.result) (rw c.as_str.ensures.value at c.in_ok-fill.ensures.reads) (reads_err _ _ _ c.stopped.result (rw c.as_str-in-Err.ensures.value at c.stopped.ensures.reads))

pub returns-in-Ok-clause-reads : goal.returns-in-Ok-clause-reads
returns-in-Ok-clause-reads g c = rw c.as_str.ensures.value at c.in_ok-fill.ensures.reads

pub returns-in-Err-clause-memory : goal.returns-in-Err-clause-memory
returns-in-Err-clause-memory g c = λ is.
    c.in-Err.ensures.room (ap (λ s. Err s) (c.stopped.ensures.memory (fault_is c.stopped.result faults.Memory is)))
