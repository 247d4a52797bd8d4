use Rattle.te_model.specs.declared.certificate.Head.{Head}
use Rattle.command_files.proofs.Feeding.{refuses}
use Rattle.command_files.proofs.Streaming.{head_file, read_head_valid}
use Rattle.command_files.proofs.certificates.head_in.Goals as goal

pub returns-in-Ok-clause-file : goal.returns-in-Ok-clause-file
returns-in-Ok-clause-file g c = head_file _ _ _ _ c.in-Ok.ensures.reads c.in-Ok.ensures.whole

pub returns-in-Ok-clause-valid : goal.returns-in-Ok-clause-valid
returns-in-Ok-clause-valid g c = read_head_valid _ _ _ _ (head_file _ _ _ _ c.in-Ok.ensures.reads c.in-Ok.ensures.whole)

pub returns-in-Err-clause-file : goal.returns-in-Err-clause-file
returns-in-Err-clause-file g c = refuses {A = Head} _ _ _ c.in-Err.fault _ c.in-Err.ensures.reads c.answer_to.ensures
