use Rattle.std.proofs.lemmas.Result.{err_from_is_err_and}
use Rattle.hose_bound.specs.declared.hose.Hose.{Hose}
use Rattle.ratio_checker.proofs.FormedHeads.{head_formed}
use Rattle.command_frame.specs.Reading.{answers}
use Rattle.routing_commands.specs.BoundHose.{bounding_of}
use Rattle.command_files.specs.HoseFile.{bounds_files}
use Rattle.command_frame.proofs.Following.{ends_or_falls_short, goes_on, stops}
use Rattle.routing_commands.proofs.bound_hose.bound_head.Goals as goal

pub value_in-requires : goal.value_in-requires
value_in-requires g c = head_formed c.args.head c.requires

pub returns-in_err-hose : goal.returns-in_err-hose
returns-in_err-hose g c =
    let p = err_from_is_err_and c.from_residual.result c.from_residual.ensures.1 in
    let head = c.args.head in
    rw (p.1, p.2)
    (stops Hose (bounds_files head.network) c.args.bounds.now (λ hose. answers (bounding_of head hose)) _ _
    c.in_err-hose.field-0.0 c.in_err-hose.ensures.reads)

pub returns : goal.returns
returns g c =
    let head = c.args.head in
    let hose = c.in_ok-hose.hose in
    goes_on Hose (bounds_files head.network) c.args.bounds.now (λ hose. answers (bounding_of head hose)) hose _ _ _
    c.bound_within.result c.in_ok-hose.ensures.reads
    (ends_or_falls_short (bounding_of head hose) _ c.bound_within.result c.bound_within.ensures.answer c.bound_within.ensures.memory)
