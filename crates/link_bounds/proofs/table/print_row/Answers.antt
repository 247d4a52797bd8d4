use Rattle.link_bounds.proofs.Rows.{row_after}
use Rattle.link_bounds.proofs.table.print_row.Goals as goal

pub returns : goal.returns
returns c =
    rw (
      c.in_ok-push.ensures.items,
      c.in_ok-print_number-2.ensures,
      c.in_ok-print_number.ensures,
      c.in_ok-print_field-2.ensures,
      c.in_ok-print_field.ensures,
      c.in_ok-extend_from_slice.ensures.items,
      c.as_bytes.ensures.value,
      c.format.ensures.text,
    )
    (row_after c.args.text.now.items c.args.source.now c.args.target.now c.args.capacity c.args.row)
