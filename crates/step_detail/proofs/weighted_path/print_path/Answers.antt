use Rattle.step_detail.proofs.Lines.{path_put}
use Rattle.step_detail.proofs.weighted_path.print_path.Goals as goal

pub returns : goal.returns
returns c =
    rw (
      c.in_ok-push-2.ensures.items,
      c.in_ok-print_link_numbers.ensures,
      c.in_ok-push.ensures.items,
      c.in_ok-print_number.ensures,
      c.in_ok-print_field-2.ensures,
      c.in_ok-print_field.ensures,
      c.in_ok-extend_from_slice.ensures.items,
      c.as_bytes.ensures.value,
    )
    (path_put c.args.text.now.items c.args.word.now c.args.source.now c.args.target.now c.as_slice.result.now c.args.path.now c.from.result c.from.ensures
    c.as_slice.ensures)
