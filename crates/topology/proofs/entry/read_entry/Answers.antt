use Rattle.std.proofs.Common.{sym}
use Rattle.csv_records.specs.Field.{is_number_within, digits_from}
use Rattle.csv_records.proofs.FieldFacts.{number-some, number-none}
use Rattle.topology.proofs.EntryLemmas.{no-four, four-fields, bad-source, bad-target, bad-capacity, bad-cost, same-names, good}
use Rattle.topology.proofs.entry.read_entry.Goals as goal

pub returns-in_default-clause-refused : goal.returns-in_default-clause-refused
returns-in_default-clause-refused c = no-four c.args.row c.args.rows.now.current c.in_default.ensures.none

pub returns-in_default-as_name-clause-refused : goal.returns-in_default-as_name-clause-refused
returns-in_default-as_name-clause-refused c =
    let s = c.in-Some.source.now in
    let t = c.in-Some.target.now in
    let q = c.in-Some.capacity.now in
    let k = c.in-Some.cost.now in
    four-fields c.args.row c.args.rows.now.current s t q k _ c.in-Some.ensures.some
    (bad-source c.args.row s t q k c.in_default-as_name.ensures)

pub returns-in_default-as_name-2-clause-refused : goal.returns-in_default-as_name-2-clause-refused
returns-in_default-as_name-2-clause-refused c =
    let s = c.in-Some.source.now in
    let t = c.in-Some.target.now in
    let q = c.in-Some.capacity.now in
    let k = c.in-Some.cost.now in
    four-fields c.args.row c.args.rows.now.current s t q k _ c.in-Some.ensures.some
    (bad-target c.args.row s t q k c.in_default-as_name-2.ensures)

pub returns-in_default-number_within-clause-refused : goal.returns-in_default-number_within-clause-refused
returns-in_default-number_within-clause-refused c =
    let s = c.in-Some.source.now in
    let t = c.in-Some.target.now in
    let q = c.in-Some.capacity.now in
    let k = c.in-Some.cost.now in
    four-fields c.args.row c.args.rows.now.current s t q k _ c.in-Some.ensures.some
    (bad-capacity c.args.row s t q k c.in-Some-as_name.ensures.0 c.in-Some-as_name-2.ensures.0 (number-none _ _ c.in_default-number_within.ensures))

pub returns-in_default-number_within-2-clause-refused : goal.returns-in_default-number_within-2-clause-refused
returns-in_default-number_within-2-clause-refused c =
    let s = c.in-Some.source.now in
    let t = c.in-Some.target.now in
    let q = c.in-Some.capacity.now in
    let k = c.in-Some.cost.now in
    four-fields c.args.row c.args.rows.now.current s t q k _ c.in-Some.ensures.some
    (bad-cost c.args.row s t q k c.in-Some-as_name.ensures.0 c.in-Some-as_name-2.ensures.0 (number-none _ _ c.in_default-number_within-2.ensures))

pub returns-then-eq-clause-refused : goal.returns-then-eq-clause-refused
returns-then-eq-clause-refused c =
    let s = c.in-Some.source.now in
    let t = c.in-Some.target.now in
    let q = c.in-Some.capacity.now in
    let k = c.in-Some.cost.now in
    let first = number-some (is_number_within 1 4294967296 q) (digits_from 0 q) c.in-Some-number_within.capacity c.in-Some-number_within.ensures in
    let second = number-some (is_number_within 1 65535 k) (digits_from 0 k) c.in-Some-number_within-2.cost c.in-Some-number_within-2.ensures in
    four-fields c.args.row c.args.rows.now.current s t q k _ c.in-Some.ensures.some
    (same-names c.args.row s t q k c.in-Some-as_name.ensures.0 c.in-Some-as_name-2.ensures.0 first.0 second.0 (rw (c.in-Some-as_name.ensures.1, c.in-Some-as_name-2.ensures.1) at (sym c.if-eq.ensures)))

pub returns-then-eq-clause-entry : goal.returns-then-eq-clause-entry
returns-then-eq-clause-entry c = tt

pub returns-clause-entry : goal.returns-clause-entry
returns-clause-entry c =
    let s = c.in-Some.source.now in
    let t = c.in-Some.target.now in
    let q = c.in-Some.capacity.now in
    let k = c.in-Some.cost.now in
    let first = number-some (is_number_within 1 4294967296 q) (digits_from 0 q) c.in-Some-number_within.capacity c.in-Some-number_within.ensures in
    let second = number-some (is_number_within 1 65535 k) (digits_from 0 k) c.in-Some-number_within-2.cost c.in-Some-number_within-2.ensures in
    four-fields c.args.row c.args.rows.now.current s t q k _ c.in-Some.ensures.some
    (rw (c.in-Some-as_name.ensures.1, c.in-Some-as_name-2.ensures.1, first.1, second.1)
    (good c.args.row s t q k c.in-Some-as_name.ensures.0 c.in-Some-as_name-2.ensures.0 first.0 second.0 (rw (c.in-Some-as_name.ensures.1, c.in-Some-as_name-2.ensures.1) at (sym c.if-eq.ensures))))
