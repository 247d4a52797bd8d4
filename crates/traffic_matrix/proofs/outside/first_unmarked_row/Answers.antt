use Rattle.std.proofs.Common.{◌≡◌, refl, ap, arith, [], length}
use Rattle.traffic_matrix.proofs.OutsideRows.{row-found, row-inside, rows-inside}
use Rattle.traffic_matrix.proofs.outside.first_unmarked_row.Goals as goal

pub loop-rows-init : goal.loop-rows-init
loop-rows-init c = record {
  so_far = λ all makes. record { entries = []; goes = makes; count = omega arith; none = λ pairs are. refl };
  row = omega arith;
}

pub returns-then-is_unmarked : goal.returns-then-is_unmarked
returns-then-is_unmarked c = λ pairs are all makes.
    row-found c.args.nodes.now c.args.marks.now all c.loop-rows.row _ (c.loop-rows.invariant.so_far all makes) _ _ c.is_unmarked.result
    (c.in_ok-advance.ensures.found c.if-branch.true) c.is_unmarked.ensures c.if-is_unmarked.true pairs are

pub overflow_add-row : goal.overflow_add-row
overflow_add-row c =
    let i = c.loop-rows.invariant in
    let e = ap length (c.in_ok-advance.ensures.found c.if-branch.true) in
    omega (arith, i.row)

pub loop-rows-preserved : goal.loop-rows-preserved
loop-rows-preserved c =
    let i = c.loop-rows.invariant in
    let found = c.in_ok-advance.ensures.found c.if-branch.true in
    record {
      so_far = λ all makes.
          row-inside c.args.nodes.now c.args.marks.now all c.loop-rows.row _ (i.so_far all makes) _ _ c.is_unmarked.result found c.is_unmarked.ensures
          c.if-is_unmarked.false;
      row = (let e = ap length found in omega (arith, i.row));
    }

pub returns : goal.returns
returns c = λ pairs are all makes.
    rows-inside c.args.nodes.now c.args.marks.now all c.loop-rows.row _ (c.loop-rows.invariant.so_far all makes)
    (c.in_ok-advance.ensures.ended c.if-branch.false) pairs are
