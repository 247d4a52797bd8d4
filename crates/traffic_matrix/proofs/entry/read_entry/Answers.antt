use Rattle.std.proofs.Common.{◌^◌, sym}
use Rattle.csv_records.specs.Field.{is_number, is_number_within, digits_from}
use Rattle.csv_records.proofs.FieldFacts.{number-some, number-none}
use Rattle.traffic_matrix.specs.Rows.{number_named}
use Rattle.traffic_matrix.proofs.RowLemmas.{other-fields, four-fields, no-source, no-target, bad-step, bad-demand, good}
use Rattle.traffic_matrix.proofs.entry.read_entry.Goals as goal

pub returns-in_default-clause-refused : goal.returns-in_default-clause-refused
returns-in_default-clause-refused c = other-fields _ _ _ c.in_default.ensures.none

pub returns-in_default-find-clause-refused : goal.returns-in_default-find-clause-refused
returns-in_default-find-clause-refused c =
    four-fields _ _ _ _ _ _ _ _ c.in-Some.ensures.some (no-source c.args.row c.in-Some.step.now c.in-Some.demand.now _ _ (sym c.in_default-find.ensures.number))

pub returns-in_default-find-2-clause-refused : goal.returns-in_default-find-2-clause-refused
returns-in_default-find-2-clause-refused c =
    four-fields _ _ _ _ _ _ _ _ c.in-Some.ensures.some (no-target c.args.row c.in-Some.step.now c.in-Some.demand.now _ _ (sym c.in_default-find-2.ensures.number))

pub returns-in_default-number-clause-refused : goal.returns-in_default-number-clause-refused
returns-in_default-number-clause-refused c =
    let nodes = c.args.nodes.now in
    four-fields _ _ _ _ _ _ _ _ c.in-Some.ensures.some
    (bad-step c.args.row c.in-Some.step.now c.in-Some.demand.now (number_named nodes c.in-Some.source.now) (number_named nodes c.in-Some.target.now) c.in-Some-find.src c.in-Some-find-2.dst
    (sym c.in-Some-find.ensures.number) (sym c.in-Some-find-2.ensures.number) (number-none _ _ c.in_default-number.ensures))

pub returns-in_default-number_within-clause-refused : goal.returns-in_default-number_within-clause-refused
returns-in_default-number_within-clause-refused c =
    let nodes = c.args.nodes.now in
    four-fields _ _ _ _ _ _ _ _ c.in-Some.ensures.some
    (bad-demand c.args.row c.in-Some.step.now c.in-Some.demand.now (number_named nodes c.in-Some.source.now) (number_named nodes c.in-Some.target.now) c.in-Some-find.src c.in-Some-find-2.dst
    (sym c.in-Some-find.ensures.number) (sym c.in-Some-find-2.ensures.number) (number-none _ _ c.in_default-number_within.ensures))

pub returns-clause-entry : goal.returns-clause-entry
returns-clause-entry c =
    let nodes = c.args.nodes.now in
    let step = c.in-Some.step.now in
    let demand = c.in-Some.demand.now in
    four-fields _ _ _ _ _ _ _ _ c.in-Some.ensures.some
    (good c.args.row step demand (number_named nodes c.in-Some.source.now) (number_named nodes c.in-Some.target.now) c.in-Some-find.src c.in-Some-find-2.dst
    (sym c.in-Some-find.ensures.number) (sym c.in-Some-find-2.ensures.number) c.in-Some-number.step c.in-Some-number_within.demand
    (number-some (is_number step) (digits_from 0 step) c.in-Some-number.step c.in-Some-number.ensures)
    (number-some (is_number_within 0 (2 ^ 32) demand) (digits_from 0 demand) c.in-Some-number_within.demand c.in-Some-number_within.ensures))
