use Rattle.std.specs.declared.alloc.Global.{Global}
use Rattle.std.proofs.lemmas.Result.{err_from_is_err_and}
use Rattle.number_tables.specs.Leaving.{place_of}
use Rattle.number_tables.specs.Table.{table_lines}
use Rattle.number_tables.proofs.PassingLines.{same_fault, passes_after_first}
use Rattle.number_tables.proofs.Whole.{first_stops, first_end_stops}
use Rattle.number_tables.proofs.lines.pass_table.Goals as goal

pub returns-in_err-word : goal.returns-in_err-word
returns-in_err-word c =
    let p = err_from_is_err_and c.from_residual.result c.from_residual.ensures.1 in
    let e = c.in_err-word.field-0.0 in
    rw (p.1, p.2) (same_fault (Unit {0}) (table_lines c.args.first.now) e (place_of c.args.r.now) (first_stops Global c.args.first.now (place_of c.args.r.now) e (c.in_err-word.ensures.takes.reads tt)))

pub returns-in_err-end_line : goal.returns-in_err-end_line
returns-in_err-end_line c =
    let p = err_from_is_err_and c.from_residual-in_err-end_line.result c.from_residual-in_err-end_line.ensures.1 in
    let e = c.in_err-end_line.field-0.0 in
    rw (p.1, p.2) (same_fault (Unit {0}) (table_lines c.args.first.now) e (place_of c.args.r.now) (first_end_stops Global c.args.first.now (place_of c.args.r.now) (place_of c.word.new.self) e (c.in_ok-word.ensures.takes.reads tt) (c.in_err-end_line.ensures.takes.reads tt)))

pub returns : goal.returns
returns c =
    passes_after_first c.args.first.now (place_of c.args.r.now) (place_of c.word.new.self) (place_of c.end_line.new.self) c.pass_lines.result (c.in_ok-word.ensures.takes.reads tt) (c.in_ok-end_line.ensures.takes.reads tt) c.pass_lines.ensures
