use Rattle.std.proofs.Common.{Ok, Err}
use Rattle.std.proofs.lemmas.Result.{err_from_is_err_and}
use Rattle.te_model.specs.declared.network.Network.{Network}
use Rattle.command_frame.specs.declared.answer.Fault.TheVariants.{Memory}
use Rattle.command_frame.specs.Reading.{answers}
use Rattle.command_files.specs.CapacityFile.{capacities}
use Rattle.certificate_commands.specs.Reprice.{repricing_of}
use Rattle.command_frame.proofs.Following.{ends, falls_short, goes_on, stops}
use Rattle.certificate_commands.proofs.reprice.answer_on.Goals as goal

pub returns-in_err-network : goal.returns-in_err-network
returns-in_err-network g c =
    let p = err_from_is_err_and c.from_residual.result c.from_residual.ensures.1 in
    let cert = c.args.certificate in
    rw (p.1, p.2)
    (stops Network (capacities cert) c.args.topology.now (λ network. answers (repricing_of cert network)) _ _ c.in_err-network.field-0.0 c.in_err-network.ensures.reads)

pub returns-in_err-repriced_answer : goal.returns-in_err-repriced_answer
returns-in_err-repriced_answer g c =
    let p = err_from_is_err_and c.from_residual-in_err-repriced_answer.result c.from_residual-in_err-repriced_answer.ensures.1 in
    let cert = c.args.certificate in
    let network = c.in_ok-network.network in
    rw (p.1, p.2)
    (goes_on Network (capacities cert) c.args.topology.now (λ network. answers (repricing_of cert network)) network _ _ _ (Err Memory)
    c.in_ok-network.ensures.reads (falls_short (answers (repricing_of cert network)) _))

pub returns : goal.returns
returns g c =
    let cert = c.args.certificate in
    let network = c.in_ok-network.network in
    goes_on Network (capacities cert) c.args.topology.now (λ network. answers (repricing_of cert network)) network _ _ _
    (Ok c.in_ok-repriced_answer.field-0) c.in_ok-network.ensures.reads
    (ends (repricing_of cert network) _ c.in_ok-repriced_answer.field-0 c.in_ok-repriced_answer.ensures)
