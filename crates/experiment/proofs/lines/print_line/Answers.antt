use Rattle.experiment.proofs.JoinedFields.{line_after}
use Rattle.experiment.proofs.lines.print_line.Goals as goal

pub returns : goal.returns
returns c =
    rw (
      c.in_ok-push.ensures.items,
      c.in_ok-print_number_or_dash.ensures,
      c.in_ok-print_number-7.ensures,
      c.in_ok-print_number-6.ensures,
      c.in_ok-print_number-5.ensures,
      c.in_ok-print_number-4.ensures,
      c.in_ok-print_number-3.ensures,
      c.in_ok-print_number-2.ensures,
      c.in_ok-print_number.ensures,
      c.in_ok-print_field.ensures,
      c.in_ok-extend_from_slice.ensures.items,
      c.as_bytes.ensures.value,
    )
    (line_after c.args.text.now.items c.args.word.now c.args.step.now c.args.figures.now c.args.low)
