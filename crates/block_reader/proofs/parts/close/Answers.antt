use Rattle.std.proofs.Common.{◌≡◌, Err, refl, ap, subst}
use Rattle.te_ports.specs.Record.{pass}
use Rattle.cert_text.specs.declared.fault.Stop.{Stop}
use Rattle.block_reader.specs.Answers.{StopsAs, place_of}
use Rattle.std.proofs.lemmas.Result.{err_from_is_err_and}
use Rattle.cert_text.specs.Grammar.{read_closing}
use Rattle.block_reader.specs.Ahead.{with_no_value}
use Rattle.block_reader.specs.Sizes.{closing_size}
use Rattle.block_reader.proofs.Sizes.{closing_ahead}
use Rattle.block_reader.proofs.Advancing.{fault_is}
use Rattle.block_reader.proofs.Answering.{part_stops, fill_stops}
use Rattle.block_reader.proofs.Closing.{closes, closing_stops}
use Rattle.block_reader.proofs.Reading.{reads_then, reads_err}
use Rattle.block_reader.proofs.parts.close.Goals as goal

pub returns-in_err-fill-clause-reads : goal.returns-in_err-fill-clause-reads
returns-in_err-fill-clause-reads g c =
    let p = err_from_is_err_and c.from_residual.result c.from_residual.ensures.1 in
    rw (p.1, p.2) (reads_err _ _ _ c.in_err-fill.field-0.0 c.in_err-fill.ensures.reads)

pub returns-in-Ok-clause-closes : goal.returns-in-Ok-clause-closes
returns-in-Ok-clause-closes g c = λ before.
    let fill = c.in_ok-fill.ensures in
    closes _ _ c.args.lines.now c.fill.new.self c.in-Ok.ensures.closes.0 (fill.behind before) (fill.stood before) fill.enough fill.line c.in-Ok.ensures.closes.1

pub returns-in-Err-clause-closes : goal.returns-in-Err-clause-closes
returns-in-Err-clause-closes g c = tt

pub returns-in-Err-clause-reads : goal.returns-in-Err-clause-reads
returns-in-Err-clause-reads g c = reads_then _ _ _ _ tt (Err c.stopped.result) c.in_ok-fill.ensures.reads (reads_err _ _ _ c.stopped.result c.stopped.ensures.reads)

pub returns-in-Err-clause-stops : goal.returns-in-Err-clause-stops
returns-in-Err-clause-stops g c = λ fault is before passed b.
    let fill = c.in_ok-fill.ensures in
    let same : c.stopped.result ≡ fault = cc in
    subst (StopsAs (pass c.args.name.now before (g.D.Depot.gave c.stopped.new.depot)) c.args.lines.now passed (with_no_value read_closing)) same
    (part_stops _ _ _ c.args.lines.now c.fill.new.self closing_size (with_no_value read_closing) c.in-Err.misread c.stopped.result closing_ahead (fill.behind before) (fill.stood before) fill.enough fill.line
    (λ line stop. closing_stops (place_of c.fill.new.self) line (c.in-Err.ensures.stops line (ap (λ (s : Stop). Err s) stop)))
    (c.stopped.ensures.drained before) passed b)

pub returns-in_err-fill-clause-stops : goal.returns-in_err-fill-clause-stops
returns-in_err-fill-clause-stops g c =
    let p = err_from_is_err_and c.from_residual.result c.from_residual.ensures.1 in
    let f = c.in_err-fill.field-0.0 in
    rw (p.1, p.2) (λ fault is before passed b.
    subst (StopsAs (pass c.args.name.now before (g.D.Depot.gave c.fill.new.depot)) c.args.lines.now passed (with_no_value read_closing)) (fault_is f fault is)
    (fill_stops _ _ c.args.lines.now c.fill.new.self (with_no_value read_closing) f (c.in_err-fill.ensures.behind before) (c.in_err-fill.ensures.closed f refl) passed b))
