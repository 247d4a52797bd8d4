use Rattle.std.proofs.Common.{◌∙◌, refl}
use Rattle.te_model.specs.Pairs.{no_pair}
use Rattle.traffic_matrix.specs.Text.{line_at}
use Rattle.traffic_matrix.proofs.TextLemmas.{line-of}
use Rattle.traffic_matrix.proofs.writer.print_step.Goals as goal
use Rattle.te_model.proofs.Lists.{pieces_more}

pub loop-place-preserved : goal.loop-place-preserved
loop-place-preserved c =
    let names = c.args.names.now in
    let pairs = c.args.pairs.now in
    let k = c.loop-place.place in
    let within = c.requires.pairs k no_pair c.loop-place-test.true in
    let line = line-of names pairs c.args.step k _ c.args.demands.now c.index-names-pair.result c.index-names-pair-in-loop-place.result refl within.src_inside within.dst_inside c.index-names-pair.is c.index-names-pair-in-loop-place.is in
    c.in_ok-print_row.ensures ∙ rw (c.loop-place.invariant, line) (pieces_more c.args.text.now.items (line_at names pairs c.args.step c.args.demands.now) k)
