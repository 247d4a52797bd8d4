use Rattle.std.proofs.Common.{[], ◌∙◌, arith}
use Rattle.std.proofs.lemmas.List.{get_or_read}
use Rattle.series_simulation.proofs.Repeating.{row_in}
use Rattle.series_simulation.proofs.repeated_step.row_after.Goals as goal

pub returns-in_ok-simulated-in-None-repeated-clause-row : goal.returns-in_ok-simulated-in-None-repeated-clause-row
returns-in_ok-simulated-in-None-repeated-clause-row g c =
    let marks = c.args.marks.now in
    let read = c.as_slice.ensures ∙ get_or_read marks c.args.step c.index-marks-place.result (omega (arith, c.requires.step, c.requires.count)) c.index-marks-place.is [] in
    let made = c.in_ok-simulated-in-None-repeated.ensures.step in
    row_in g.S.Scheme.PATHS (g.S.Scheme.is_plan c.args.scheme.now) (g.S.Scheme.relates c.args.scheme.now) g.S.Note.LowNote.low
    (g.S.Adaptive.path_set_routes c.args.scheme.now) (g.S.Adaptive.adapts c.args.scheme.now)
    c.args.net.now marks c.args.traffic.now c.args.recovery c.args.prepared.now.plan c.in_ok-simulated-in-None-repeated.simulated.row c.args.step c.as_slice.result.now
    made.number c.requires.step read (c.in_ok-simulated-in-None-repeated.simulated.rates.routes, made.is_step) made.conserved
