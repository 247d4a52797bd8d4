use Rattle.std.proofs.Common.{arith}
use Rattle.std.proofs.lemmas.Bool.Decides.{Decides-and}
use Rattle.series_simulation.proofs.Repeating.{marks_alike}
use Rattle.series_simulation.proofs.repeated_step.are_alike.Goals as goal

pub returns : goal.returns
returns c =
    let count = c.requires.count in
    let failures = marks_alike c.args.marks.now c.args.one c.args.other c.index-marks-one.result c.index-marks-other.result c.eq-failures.result
    (omega (arith, c.requires.one, count)) (omega (arith, c.requires.other, count)) c.index-marks-one.is c.index-marks-other.is c.eq-failures.ensures in
    let all = Decides-and _ _ failures (Decides-and _ _ c.same_demands-sent.ensures c.same_predictions-predicted.ensures) in
    (λ passed. let alike = all.0 passed in (alike.0, alike.1.0, alike.1.1), λ alike. all.1 (alike.0, (alike.1, alike.2)))
