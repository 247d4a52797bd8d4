use Rattle.std.proofs.Common.{Err, refl, ap, subst}
use Rattle.cert_text.specs.declared.fault.Stop.{Stop}
use Rattle.std.proofs.lemmas.Result.{err_from_is_err_and}
use Rattle.block_reader.specs.Answers.{HasEnough}
use Rattle.block_reader.proofs.Answering.{part_gives, part_stops, fill_stops}
use Rattle.block_reader.proofs.Reading.{reads_then, reads_as, reads_err}
use Rattle.block_reader.proofs.parts.read_part.Goals as goal

pub returns-in_err-fill-clause-answers : goal.returns-in_err-fill-clause-answers
returns-in_err-fill-clause-answers g c =
    let p = err_from_is_err_and c.from_residual.result c.from_residual.ensures.1 in
    rw (p.1, p.2)
    (λ before. fill_stops _ _ c.args.lines.now c.fill.new.self (g.P.Part.at c.args.part.now) c.in_err-fill.field-0.0 (c.in_err-fill.ensures.behind before)
    (c.in_err-fill.ensures.closed c.in_err-fill.field-0.0 refl))

pub returns-in_err-fill-clause-reads : goal.returns-in_err-fill-clause-reads
returns-in_err-fill-clause-reads g c =
    let p = err_from_is_err_and c.from_residual.result c.from_residual.ensures.1 in
    rw (p.1, p.2) (reads_err _ _ _ c.in_err-fill.field-0.0 c.in_err-fill.ensures.reads)

pub returns-in-Ok-clause-answers : goal.returns-in-Ok-clause-answers
returns-in-Ok-clause-answers g c = λ before.
    let fill = c.in_ok-fill.ensures in
    let took = c.in-Ok.ensures.took in
    part_gives _ _ c.args.lines.now c.fill.new.self c.take_part.new.lines (g.P.Part.looked c.args.part.now) (g.P.Part.at c.args.part.now) c.in-Ok.value took.0
    c.requires.part.ahead (fill.behind before) (fill.stood before) (subst (HasEnough c.fill.new.self.window) c.size.ensures fill.enough) fill.line took.1 took.2

pub returns-in-Ok-clause-reads : goal.returns-in-Ok-clause-reads
returns-in-Ok-clause-reads g c = reads_as _ _ _ tt c.in-Ok.value c.in_ok-fill.ensures.reads

pub returns-in-Err-clause-answers : goal.returns-in-Err-clause-answers
returns-in-Err-clause-answers g c = λ before.
    let fill = c.in_ok-fill.ensures in
    part_stops _ _ _ c.args.lines.now c.fill.new.self (g.P.Part.looked c.args.part.now) (g.P.Part.at c.args.part.now) c.in-Err.stop c.stopped.result
    c.requires.part.ahead (fill.behind before) (fill.stood before) (subst (HasEnough c.fill.new.self.window) c.size.ensures fill.enough) fill.line
    (λ line is. c.in-Err.ensures.stops line (ap (λ (s : Stop). Err s) is))
    ((rw c.in-Err.ensures.same at c.stopped.ensures.drained) before)

pub returns-in-Err-clause-reads : goal.returns-in-Err-clause-reads
returns-in-Err-clause-reads g c = reads_then _ _ _ _ tt (Err c.stopped.result) c.in_ok-fill.ensures.reads (reads_err _ _ _ c.stopped.result c.stopped.ensures.reads)
