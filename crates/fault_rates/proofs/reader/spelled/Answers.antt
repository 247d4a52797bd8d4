use Rattle.std.proofs.Common.{◌∙◌}
use Rattle.std.proofs.lemmas.Result.{err_from_is_err_and}
use Rattle.fault_rates.proofs.ReadRates.{StandsAtRates, end_spells, number_spells, pairs_spell, rates_spelled, table_spells, took_number}
use Rattle.fault_rates.proofs.reader.spelled.Goals as goal

pub returns-in_err-lines : goal.returns-in_err-lines
returns-in_err-lines c =
    let p = err_from_is_err_and c.from_residual.result c.from_residual.ensures.1 in
    rw (p.1, p.2) (table_spells c.args.routes.now c.args.bytes.now c.in_err-lines.field-0.0 c.in_err-lines.ensures.shape)

pub returns-in_err-number : goal.returns-in_err-number
returns-in_err-number c =
    let table = c.in_ok-lines.ensures.table in
    let at : StandsAtRates c.args.bytes.now c.in_ok-lines.lines table.0 = record { file = table.1; before = table.2; second = c.in_ok-lines.ensures.next } in
    let p = err_from_is_err_and c.from_residual-in_err-number.result c.from_residual-in_err-number.ensures.1 in
    rw (p.1, p.2) (number_spells c.args.routes.now c.args.bytes.now c.in_ok-lines.lines c.number.new.self table.0 c.in_err-number.field-0.0 at (c.in_err-number.ensures table.0 table.2))

pub returns-in_err-plan : goal.returns-in_err-plan
returns-in_err-plan c =
    let table = c.in_ok-lines.ensures.table in
    let at : StandsAtRates c.args.bytes.now c.in_ok-lines.lines table.0 = record { file = table.1; before = table.2; second = c.in_ok-lines.ensures.next } in
    let took = took_number c.in_ok-lines.lines c.number.new.self c.in_ok-number.field-0 table.0 (c.in_ok-number.ensures table.0 table.2) in
    let p = err_from_is_err_and c.from_residual-in_err-plan.result c.from_residual-in_err-plan.ensures.1 in
    rw (p.1, p.2)
    (pairs_spell c.args.routes.now c.args.bytes.now c.in_ok-lines.lines c.number.new.self c.take_pairs.new.lines c.in_ok-number.field-0 table.0 c.in_err-plan.field-0.0 at took
    (c.in_err-plan.ensures.takes took.more took.before))

pub returns-in_err-end : goal.returns-in_err-end
returns-in_err-end c =
    let table = c.in_ok-lines.ensures.table in
    let at : StandsAtRates c.args.bytes.now c.in_ok-lines.lines table.0 = record { file = table.1; before = table.2; second = c.in_ok-lines.ensures.next } in
    let took = took_number c.in_ok-lines.lines c.number.new.self c.in_ok-number.field-0 table.0 (c.in_ok-number.ensures table.0 table.2) in
    let pairs = c.in_ok-plan.ensures.takes took.more took.before in
    let p = err_from_is_err_and c.from_residual-in_err-end.result c.from_residual-in_err-end.ensures.1 in
    rw (p.1, p.2)
    (end_spells c.args.routes.now c.args.bytes.now c.in_ok-lines.lines c.number.new.self c.take_pairs.new.lines c.end.new.self c.in_ok-number.field-0 c.in_ok-plan.plan table.0
    c.in_err-end.field-0.0 at took pairs (c.in_err-end.ensures pairs.0 pairs.2))

pub returns : goal.returns
returns c =
    let table = c.in_ok-lines.ensures.table in
    let at : StandsAtRates c.args.bytes.now c.in_ok-lines.lines table.0 = record { file = table.1; before = table.2; second = c.in_ok-lines.ensures.next } in
    let took = took_number c.in_ok-lines.lines c.number.new.self c.in_ok-number.field-0 table.0 (c.in_ok-number.ensures table.0 table.2) in
    let pairs = c.in_ok-plan.ensures.takes took.more took.before in
    rates_spelled c.args.routes.now c.args.bytes.now c.in_ok-lines.lines c.number.new.self c.take_pairs.new.lines c.end.new.self c.in_ok-number.field-0 c.in_ok-plan.plan table.0
    at took (c.in_ok-plan.ensures.failures ∙ c.kept_failures-failures.ensures) pairs (c.in_ok-end.ensures pairs.0 pairs.2)
