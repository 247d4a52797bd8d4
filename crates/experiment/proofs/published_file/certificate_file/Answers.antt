use Rattle.std.proofs.Common.{sym, subst}
use Rattle.std.proofs.lemmas.Result.{IfOk-weaker, IfErr-weaker}
use Rattle.scheme.specs.Fault.{IsFault}
use Rattle.experiment.proofs.published_file.certificate_file.Goals as goal

pub returns-clause-published : goal.returns-clause-published
returns-clause-published c =
    IfOk-weaker c.file_of.result _ _
    (λ file is. record { certificate = c.in_ok-certificate.certificate; best = c.in_ok-certificate.ensures.best; text_is = is })
    c.file_of.ensures.spelling

pub returns-clause-reached : goal.returns-clause-reached
returns-clause-reached c = IfOk-weaker c.file_of.result _ _ (λ file is. c.in_ok-certificate.ensures.reached) c.file_of.ensures.spelling

pub returns-clause-fault : goal.returns-clause-fault
returns-clause-fault c =
    IfErr-weaker c.file_of.result _ _ (λ fault is. subst (IsFault c.args.network.now c.args.series.now.pairs.list) (sym is) tt) c.file_of.ensures.memory
