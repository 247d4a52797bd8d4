use Rattle.std.proofs.Common.{◌≡◌, ◌∙◌, ℕ, List, Bool, length, length-drop, drop, ap, arith, sym, subst}
use Rattle.std.proofs.lemmas.Result.{IfOk-weaker}
use Rattle.csv_records.specs.Rows.{records_of}
use Rattle.csv_records.specs.Table.{Table}
use Rattle.csv_records.proofs.RecordLemmas.{few-records}
use Rattle.traffic_matrix.specs.Outside.{first_outside_of}
use Rattle.traffic_matrix.specs.Shows.{AreMarksOf}
use Rattle.traffic_matrix.proofs.OutsideRows.{after-first, marks-are, read-below}
use Rattle.traffic_matrix.proofs.outside.first_row_outside.Goals as goal

pub first_unmarked_row-requires-clause-rows : goal.first_unmarked_row-requires-clause-rows
first_unmarked_row-requires-clause-rows c =
    let rows = records_of c.args.bytes.now in
    let left : c.advance.new.self.rest ≡ drop 1 rows =
    after-first c.new-rows.result.rest c.advance.new.self.rest c.advance.new.self.current c.in_ok-advance.field-0 c.in_ok-advance.ensures.found
    c.in_ok-advance.ensures.ended c.in_ok-advance.ensures.stays_ended ∙ ap (λ (t : Table). drop 1 t.rest) c.new-rows.ensures
    in
    omega (arith, ap length left, length-drop 1 rows, few-records c.args.bytes.now)

pub returns : goal.returns
returns c =
    let pairs = c.args.pairs.now in
    let nodes = c.in_ok-nodes.nodes in
    let rows = records_of c.args.bytes.now in
    let left : c.advance.new.self.rest ≡ drop 1 rows =
    after-first c.new-rows.result.rest c.advance.new.self.rest c.advance.new.self.current c.in_ok-advance.field-0 c.in_ok-advance.ensures.found
    c.in_ok-advance.ensures.ended c.in_ok-advance.ensures.stays_ended ∙ ap (λ (t : Table). drop 1 t.rest) c.new-rows.ensures
    in
    let (series, made) = c.requires.read in
    let (entries, reads, below) = read-below c.args.net.now nodes c.args.bytes.now series c.advance.new.self.rest c.in_ok-nodes.ensures made left in
    let marks = marks-are c.len-count.result pairs c.in_ok-none.none.items c.with_marks-marks.result.items c.as_slice.result.now
    (c.in_ok-none.ensures.items_if_clones_equal (λ y same. same)) c.with_marks-marks.ensures.marks c.as_slice.ensures.value
    in
    IfOk-weaker c.first_unmarked_row.result _ _ (λ row is. is ∙ ap (first_outside_of pairs) (sym reads))
    (c.first_unmarked_row.ensures pairs (subst (λ (n : ℕ). AreMarksOf n c.as_slice.result.now pairs) c.len-count.ensures marks) entries below)
