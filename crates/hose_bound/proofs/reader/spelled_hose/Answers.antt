use Rattle.std.proofs.lemmas.Result.{err_from_is_err_and}
use Rattle.hose_bound.specs.Files.{bounds_due}
use Rattle.hose_bound.proofs.ReadHoses.{behind_hose, hose_first, hose_spells, no_end, no_hose}
use Rattle.hose_bound.proofs.Taking.{no_table, stands_first}
use Rattle.hose_bound.proofs.reader.spelled_hose.Goals as goal

pub returns-in_err-lines : goal.returns-in_err-lines
returns-in_err-lines c =
    let p = err_from_is_err_and c.from_residual.result c.from_residual.ensures.1 in
    rw (p.1, p.2) (no_table hose_first (bounds_due c.args.nodes) c.args.bytes.now c.in_err-lines.field-0.0 c.in_err-lines.ensures.shape)

pub returns-in_err-hose : goal.returns-in_err-hose
returns-in_err-hose c =
    let nodes = c.args.nodes in
    let bytes = c.args.bytes.now in
    let table = c.in_ok-lines.ensures.table in
    let at = stands_first hose_first (bounds_due nodes) bytes c.in_ok-lines.lines table.0 table.1 table.2 c.in_ok-lines.ensures.next in
    let p = err_from_is_err_and c.from_residual-in_err-hose.result c.from_residual-in_err-hose.ensures.1 in
    rw (p.1, p.2) (no_hose nodes bytes c.in_ok-lines.lines c.take_hose.new.lines table.0 c.in_err-hose.field-0.0 at (c.in_err-hose.ensures table.0 table.2))

pub returns-in_err-end : goal.returns-in_err-end
returns-in_err-end c =
    let nodes = c.args.nodes in
    let bytes = c.args.bytes.now in
    let table = c.in_ok-lines.ensures.table in
    let at = stands_first hose_first (bounds_due nodes) bytes c.in_ok-lines.lines table.0 table.1 table.2 c.in_ok-lines.ensures.next in
    let t = c.in_ok-hose.ensures table.0 table.2 in
    let behind = behind_hose nodes bytes c.in_ok-lines.lines c.take_hose.new.lines c.in_ok-hose.hose table.0 at t in
    let p = err_from_is_err_and c.from_residual-in_err-end.result c.from_residual-in_err-end.ensures.1 in
    rw (p.1, p.2) (no_end nodes bytes c.take_hose.new.lines c.end.new.self _ t.0 c.in_err-end.field-0.0 behind (c.in_err-end.ensures t.0 t.2))

pub returns : goal.returns
returns c =
    let nodes = c.args.nodes in
    let bytes = c.args.bytes.now in
    let table = c.in_ok-lines.ensures.table in
    let at = stands_first hose_first (bounds_due nodes) bytes c.in_ok-lines.lines table.0 table.1 table.2 c.in_ok-lines.ensures.next in
    let t = c.in_ok-hose.ensures table.0 table.2 in
    let behind = behind_hose nodes bytes c.in_ok-lines.lines c.take_hose.new.lines c.in_ok-hose.hose table.0 at t in
    hose_spells nodes bytes c.take_hose.new.lines c.end.new.self c.in_ok-hose.hose t.0 t.1.0 behind (c.in_ok-end.ensures t.0 t.2)
