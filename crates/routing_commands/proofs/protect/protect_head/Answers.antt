use Rattle.std.proofs.lemmas.Result.{err_from_is_err_and}
use Rattle.traffic_matrix.specs.declared.series.Series.{Series}
use Rattle.ratio_checker.proofs.FormedHeads.{head_formed}
use Rattle.command_files.specs.MatrixFile.{matrices}
use Rattle.routing_commands.specs.Protect.{grants_for, grants_reading}
use Rattle.command_frame.proofs.Following.{ends_or_falls_short, goes_on, stops}
use Rattle.routing_commands.proofs.protect.protect_head.Goals as goal

pub value_in-requires : goal.value_in-requires
value_in-requires g c = head_formed c.args.head.now c.requires.head

pub returns-in_err-series : goal.returns-in_err-series
returns-in_err-series g c =
    let p = err_from_is_err_and c.from_residual.result c.from_residual.ensures.1 in
    let head = c.args.head.now in
    rw (p.1, p.2)
    (stops Series (matrices head.network) c.args.matrices.now (grants_reading c.args.failures head) _ _
    c.in_err-series.field-0.0 c.in_err-series.ensures.reads)

pub returns : goal.returns
returns g c =
    let head = c.args.head.now in
    let series = c.in_ok-series.series in
    goes_on Series (matrices head.network) c.args.matrices.now (grants_reading c.args.failures head) series _ _ _
    c.protect_under.result c.in_ok-series.ensures.reads
    (ends_or_falls_short (grants_for head series c.args.failures) _ c.protect_under.result c.protect_under.ensures.answer c.protect_under.ensures.memory)
