use Rattle.std.proofs.lemmas.Result.{err_from_is_err_and}
use Rattle.hose_bound.proofs.TakenLines.{block_taken, heads_fail, link_fails, tails_fail}
use Rattle.hose_bound.proofs.reader.take_block.Goals as goal

pub returns-in_err-link : goal.returns-in_err-link
returns-in_err-link c = λ ls is.
    let p = err_from_is_err_and c.from_residual.result c.from_residual.ensures.1 in
    rw (p.1, p.2) (link_fails c.args.nodes c.in_err-link.field-0.0 c.args.lines.now c.number.new.self ls (c.in_err-link.ensures ls is))

pub returns-in_err-tails : goal.returns-in_err-tails
returns-in_err-tails c = λ ls is.
    let t = c.in_ok-link.ensures ls is in
    let p = err_from_is_err_and c.from_residual-in_err-tails.result c.from_residual-in_err-tails.ensures.1 in
    rw (p.1, p.2)
    (tails_fail c.args.nodes c.in_ok-link.link c.in_err-tails.field-0.0 c.args.lines.now c.number.new.self c.numbers.new.self ls t (c.in_err-tails.ensures.takes t.0 t.2))

pub returns-in_err-heads : goal.returns-in_err-heads
returns-in_err-heads c = λ ls is.
    let t = c.in_ok-link.ensures ls is in
    let u = c.in_ok-tails.ensures.takes t.0 t.2 in
    let p = err_from_is_err_and c.from_residual-in_err-heads.result c.from_residual-in_err-heads.ensures.1 in
    rw (p.1, p.2)
    (heads_fail c.args.nodes c.in_ok-link.link c.in_ok-tails.tails c.in_err-heads.field-0.0 c.args.lines.now c.number.new.self c.numbers.new.self c.numbers-2.new.self ls t u
    (c.in_err-heads.ensures.takes u.0 u.2))

pub returns : goal.returns
returns c = λ ls is.
    let t = c.in_ok-link.ensures ls is in
    let u = c.in_ok-tails.ensures.takes t.0 t.2 in
    let v = c.in_ok-heads.ensures.takes u.0 u.2 in
    block_taken c.args.nodes c.in_ok-link.link (record { link = c.narrow.result; tails = c.in_ok-tails.tails; heads = c.in_ok-heads.heads })
    c.args.lines.now c.number.new.self c.numbers.new.self c.numbers-2.new.self ls is
    (λ i. record { link = c.narrow.ensures i; tails = c.in_ok-tails.tails; heads = c.in_ok-heads.heads }) t u v
