use Rattle.std.specs.Fmt.{decimal}
use Rattle.traffic_matrix.proofs.TextLemmas.{row-put}
use Rattle.traffic_matrix.proofs.writer.print_row.Goals as goal

pub returns : goal.returns
returns c =
    row-put c.args.text.now.items (decimal c.args.step) c.args.source.now c.args.target.now (decimal c.args.demand) (rw (c.as_bytes.ensures.value, c.format.ensures.text) at c.in_ok-extend_from_slice.ensures.items)
    c.in_ok-push.ensures.items (rw (c.as_bytes-2.ensures.value, c.as_str.ensures) at c.in_ok-extend_from_slice-2.ensures.items) c.in_ok-push-2.ensures.items
    (rw (c.as_bytes-3.ensures.value, c.as_str-2.ensures) at c.in_ok-extend_from_slice-3.ensures.items) c.in_ok-push-3.ensures.items
    (rw (c.as_bytes-4.ensures.value, c.format-2.ensures.text) at c.in_ok-extend_from_slice-4.ensures.items) c.in_ok-push-4.ensures.items
