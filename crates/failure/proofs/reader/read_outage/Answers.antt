use Rattle.std.proofs.Common.{arith}
use Rattle.csv_records.specs.Field.{is_number, digits_from}
use Rattle.csv_records.proofs.FieldFacts.{number-some, number-none}
use Rattle.failure.proofs.RowLemmas.{other-fields, three-fields, bad-from, bad-to, bad-link, numbers, no-link, wrong-order, too-late, in-range}
use Rattle.failure.proofs.reader.read_outage.Goals as goal
use Rattle.failure.proofs.reader.read_outage.Goals.{then-from-to-via-then-from-to, then-from-to-via-else-from-to+then-to-from}

pub returns-in_default-clause-refused : goal.returns-in_default-clause-refused
returns-in_default-clause-refused c = other-fields _ _ _ _ c.in_default.ensures.none

pub returns-in_default-number-clause-refused : goal.returns-in_default-number-clause-refused
returns-in_default-number-clause-refused c =
    three-fields _ _ _ _ _ _ _ _ c.in-Some.ensures.some
    (bad-from c.args.links c.args.steps c.args.row c.in-Some.from.now c.in-Some.to.now c.in-Some.link.now (number-none _ _ c.in_default-number.ensures))

pub returns-in_default-number-2-clause-refused : goal.returns-in_default-number-2-clause-refused
returns-in_default-number-2-clause-refused c =
    three-fields _ _ _ _ _ _ _ _ c.in-Some.ensures.some
    (bad-to c.args.links c.args.steps c.args.row c.in-Some.from.now c.in-Some.to.now c.in-Some.link.now (number-none _ _ c.in_default-number-2.ensures))

pub returns-in_default-number-3-clause-refused : goal.returns-in_default-number-3-clause-refused
returns-in_default-number-3-clause-refused c =
    three-fields _ _ _ _ _ _ _ _ c.in-Some.ensures.some
    (bad-link c.args.links c.args.steps c.args.row c.in-Some.from.now c.in-Some.to.now c.in-Some.link.now (number-none _ _ c.in_default-number-3.ensures))

pub returns-then-link-links-clause-refused : goal.returns-then-link-links-clause-refused
returns-then-link-links-clause-refused c =
    let f = number-some (is_number c.in-Some.from.now) (digits_from 0 c.in-Some.from.now) c.in-Some-number.from c.in-Some-number.ensures in
    let t = number-some (is_number c.in-Some.to.now) (digits_from 0 c.in-Some.to.now) c.in-Some-number-2.to c.in-Some-number-2.ensures in
    let l = number-some (is_number c.in-Some.link.now) (digits_from 0 c.in-Some.link.now) c.in-Some-number-3.link c.in-Some-number-3.ensures in
    three-fields _ _ _ _ _ _ _ _ c.in-Some.ensures.some
    (numbers c.args.links c.args.steps c.args.row c.in-Some.from.now c.in-Some.to.now c.in-Some.link.now _ _ _ f t l _
    (no-link c.args.links c.args.steps c.args.row (record { from = c.in-Some-number.from; to = c.in-Some-number-2.to; link = c.in-Some-number-3.link }) c.if-link-links.true))

pub returns-then-from-to-clause-refused : goal.returns-then-from-to-clause-refused
returns-then-from-to-clause-refused c =
    let f = number-some (is_number c.in-Some.from.now) (digits_from 0 c.in-Some.from.now) c.in-Some-number.from c.in-Some-number.ensures in
    let t = number-some (is_number c.in-Some.to.now) (digits_from 0 c.in-Some.to.now) c.in-Some-number-2.to c.in-Some-number-2.ensures in
    let l = number-some (is_number c.in-Some.link.now) (digits_from 0 c.in-Some.link.now) c.in-Some-number-3.link c.in-Some-number-3.ensures in
    three-fields _ _ _ _ _ _ _ _ c.in-Some.ensures.some
    (numbers c.args.links c.args.steps c.args.row c.in-Some.from.now c.in-Some.to.now c.in-Some.link.now _ _ _ f t l _
    (elim c.then-from-to.branch [
      | then-from-to-via-then-from-to w ↦ wrong-order c.args.links c.args.steps c.args.row (record { from = c.in-Some-number.from; to = c.in-Some-number-2.to; link = c.in-Some-number-3.link }) c.if-link-links.false w.if-from-to.true
      | then-from-to-via-else-from-to+then-to-from w ↦ too-late c.args.links c.args.steps c.args.row (record { from = c.in-Some-number.from; to = c.in-Some-number-2.to; link = c.in-Some-number-3.link }) c.if-link-links.false w.if-from-to.false (omega arith)
    ]))

pub returns-clause-outage : goal.returns-clause-outage
returns-clause-outage c =
    let f = number-some (is_number c.in-Some.from.now) (digits_from 0 c.in-Some.from.now) c.in-Some-number.from c.in-Some-number.ensures in
    let t = number-some (is_number c.in-Some.to.now) (digits_from 0 c.in-Some.to.now) c.in-Some-number-2.to c.in-Some-number-2.ensures in
    let l = number-some (is_number c.in-Some.link.now) (digits_from 0 c.in-Some.link.now) c.in-Some-number-3.link c.in-Some-number-3.ensures in
    three-fields _ _ _ _ _ _ _ _ c.in-Some.ensures.some
    (numbers c.args.links c.args.steps c.args.row c.in-Some.from.now c.in-Some.to.now c.in-Some.link.now _ _ _ f t l _ (in-range c.args.links c.args.steps c.args.row (record { from = c.in-Some-number.from; to = c.in-Some-number-2.to; link = c.in-Some-number-3.link }) c.if-link-links.false c.if-from-to.false (omega arith)))
