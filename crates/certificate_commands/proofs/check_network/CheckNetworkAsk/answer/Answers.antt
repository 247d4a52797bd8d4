use Rattle.std.proofs.Common.{◌≡◌, ◌∙◌, ◌↔◌, Ok, Err, subst}
use Rattle.std.specs.Bool.{IsTrue}
use Rattle.std.proofs.lemmas.Result.{err_from_is_err_and}
use Rattle.te_model.specs.declared.certificate.Certificate.{Certificate}
use Rattle.te_model.specs.declared.certificate.Head.{Head}
use Rattle.te_model.specs.declared.network.Network.{Network}
use Rattle.command_frame.specs.declared.answer.Fault.TheVariants.{Memory}
use Rattle.command_frame.specs.Reading.{answers, reads}
use Rattle.command_files.specs.CertificateFile.{certificates}
use Rattle.command_files.specs.TopologyFile.{topologies}
use Rattle.command_files.specs.Check.{network_verdict_on}
use Rattle.command_frame.proofs.Following.{goes_on, stops, ends, falls_short}
use Rattle.certificate_commands.proofs.check_network.CheckNetworkAsk.answer.Goals as goal

pub returns-in_err-same : goal.returns-in_err-same
returns-in_err-same g c =
    let p = err_from_is_err_and c.from_residual-in_err-same.result c.from_residual-in_err-same.ensures.1 in
    let topology = c.args.self.now.topology.now in
    let fed = c.in_ok-feed.ensures in
    let spelled : Certificate = record { head = fed.0; blocks = fed.1 } in
    rw (p.1, p.2)
    (goes_on Certificate certificates c.args.self.now.certificate.now (λ spelled. reads Network topologies topology (λ network. answers (network_verdict_on spelled network)))
    spelled _ _ _ (Err c.in_err-same.field-0.0) fed.3
    (stops Network topologies topology (λ network. answers (network_verdict_on spelled network)) _ _ c.in_err-same.field-0.0 c.in_err-same.ensures))

pub returns-in_err-judge_on : goal.returns-in_err-judge_on
returns-in_err-judge_on g c =
    let p = err_from_is_err_and c.from_residual-in_err-judge_on.result c.from_residual-in_err-judge_on.ensures.1 in
    let topology = c.args.self.now.topology.now in
    let fed = c.in_ok-feed.ensures in
    let read = c.in_ok-same.ensures in
    let spelled : Certificate = record { head = fed.0; blocks = fed.1 } in
    rw (p.1, p.2)
    (goes_on Certificate certificates c.args.self.now.certificate.now (λ spelled. reads Network topologies topology (λ network. answers (network_verdict_on spelled network)))
    spelled _ _ _ (Err Memory) fed.3
    (goes_on Network topologies topology (λ network. answers (network_verdict_on spelled network)) read.0 _ _ _
    (Err Memory) read.1 (falls_short (answers (network_verdict_on spelled read.0)) _)))

pub returns : goal.returns
returns g c =
    let topology = c.args.self.now.topology.now in
    let fed = c.in_ok-feed.ensures in
    let read = c.in_ok-same.ensures in
    let spelled : Certificate = record { head = fed.0; blocks = fed.1 } in
    let same = subst (λ (h : Head). IsTrue c.in_ok-same.same ↔ (h.network ≡ read.0)) (c.head.ensures ∙ fed.2.same) read.2 in
    goes_on Certificate certificates c.args.self.now.certificate.now (λ spelled. reads Network topologies topology (λ network. answers (network_verdict_on spelled network)))
    spelled _ _ _ (Ok c.in_ok-judge_on.field-0) fed.3
    (goes_on Network topologies topology (λ network. answers (network_verdict_on spelled network)) read.0 _ _ _
    (Ok c.in_ok-judge_on.field-0) read.1
    (ends (network_verdict_on spelled read.0) _ c.in_ok-judge_on.field-0 (c.in_ok-judge_on.ensures fed.0 fed.1 fed.2 read.0 same)))
