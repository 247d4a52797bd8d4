use Rattle.std.proofs.lemmas.Result.{err_from_is_err_and}
use Rattle.traffic_matrix.specs.declared.series.Series.{Series}
use Rattle.ratio_checker.proofs.FormedHeads.{head_formed}
use Rattle.command_frame.specs.Reading.{answers}
use Rattle.command_files.specs.MatrixFile.{matrices}
use Rattle.routing_commands.specs.Update.{update_between}
use Rattle.command_frame.proofs.Following.{ends_or_falls_short, goes_on, stops}
use Rattle.routing_commands.proofs.update.update_between.Goals as goal

pub value_in-requires : goal.value_in-requires
value_in-requires g c = head_formed c.args.before.now c.requires.before

pub returns-in_err-series : goal.returns-in_err-series
returns-in_err-series g c =
    let p = err_from_is_err_and c.from_residual.result c.from_residual.ensures.1 in
    let old = c.args.before.now in
    let new = c.args.after.now in
    rw (p.1, p.2)
    (stops Series (matrices old.network) c.args.matrices.now (λ series. answers (update_between old new series)) _ _
    c.in_err-series.field-0.0 c.in_err-series.ensures.reads)

pub returns : goal.returns
returns g c =
    let old = c.args.before.now in
    let new = c.args.after.now in
    let series = c.in_ok-series.series in
    goes_on Series (matrices old.network) c.args.matrices.now (λ series. answers (update_between old new series)) series _ _ _
    c.update_under.result c.in_ok-series.ensures.reads
    (ends_or_falls_short (update_between old new series) _ c.update_under.result c.update_under.ensures.answer c.update_under.ensures.memory)
