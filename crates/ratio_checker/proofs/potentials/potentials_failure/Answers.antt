use Rattle.std.proofs.Common.{◌≡◌, ◌<◌, ◌≤◌, length, sym, arith, Some}
use Rattle.te_model.specs.Inequalities.{row_failure}
use Rattle.ratio_checker.proofs.RowFailures.{row_of_own, rows_failure_found, rows_failure_none}
use Rattle.ratio_checker.proofs.potentials.potentials_failure.Goals as goal

pub row_failure-requires-clause-row : goal.row_failure-requires-clause-row
row_failure-requires-clause-row c =
    let r = c.row-item.result in
    let read = rw c.as_slice-row-items.ensures at c.row-item.is in
    let below : c.loop-row.row-index < length c.args.block.now.rows = rw c.as_slice-row-items.ensures at c.loop-row-test.true in
    row_of_own c.args.block.now.rows c.loop-row.row-index r c.requires.ascend below read

pub returns-in-Some : goal.returns-in-Some
returns-in-Some c =
    let r = c.row-item.result in
    let read = rw c.as_slice-row-items.ensures at c.row-item.is in
    let below : c.loop-row.row-index < length c.args.block.now.rows = rw c.as_slice-row-items.ensures at c.loop-row-test.true in
    let fails : row_failure c.args.network.now c.args.block.now r.source ≡ Some c.in-Some.failure = sym c.in-Some.ensures in
    sym (rows_failure_found c.args.network.now c.args.block.now c.loop-row.row-index r c.in-Some.failure
    c.requires.ascend c.requires.sources below read c.loop-row.invariant fails)

pub returns : goal.returns
returns c =
    let all : length c.args.block.now.rows ≤ c.loop-row.row-index = rw c.as_slice-row-items.ensures at c.loop-row-test.false in
    sym (rows_failure_none c.args.network.now c.args.block.now (λ j below. c.loop-row.invariant j (omega arith)))
