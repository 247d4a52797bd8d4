use Rattle.std.proofs.lemmas.Result.{err_from_is_err_and}
use Rattle.hose_bound.proofs.TakenLines.{hose_taken, received_fails, sent_fails}
use Rattle.hose_bound.proofs.reader.take_hose.Goals as goal

pub returns-in_err-sent : goal.returns-in_err-sent
returns-in_err-sent c = λ ls is.
    let p = err_from_is_err_and c.from_residual.result c.from_residual.ensures.1 in
    rw (p.1, p.2) (sent_fails c.args.nodes c.in_err-sent.field-0.0 c.args.lines.now c.numbers.new.self ls (c.in_err-sent.ensures.takes ls is))

pub returns-in_err-received : goal.returns-in_err-received
returns-in_err-received c = λ ls is.
    let t = c.in_ok-sent.ensures.takes ls is in
    let p = err_from_is_err_and c.from_residual-in_err-received.result c.from_residual-in_err-received.ensures.1 in
    rw (p.1, p.2)
    (received_fails c.args.nodes c.in_ok-sent.sent c.in_err-received.field-0.0 c.args.lines.now c.numbers.new.self c.numbers-2.new.self ls t
    (c.in_err-received.ensures.takes t.0 t.2))

pub returns : goal.returns
returns c = λ ls is.
    let t = c.in_ok-sent.ensures.takes ls is in
    let u = c.in_ok-received.ensures.takes t.0 t.2 in
    hose_taken c.args.nodes (record { sent = c.in_ok-sent.sent; received = c.in_ok-received.received }) c.args.lines.now c.numbers.new.self c.numbers-2.new.self ls is t u
