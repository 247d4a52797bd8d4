use Rattle.std.proofs.Common.{Some, None, Ok, Err}
use Rattle.command_frame.specs.Run.{texts}
use Rattle.command_frame.proofs.Running.{none_run, some_run, failed_run, answers_same}
use Rattle.command_frame.proofs.top.run.Goals as goal

pub returns-in-None : goal.returns-in-None
returns-in-None g c =
    none_run g.T.Table.table c.requires (texts c.args.words.now) _ _ (g.O.Sink.written c.args.out.now) (g.O.Sink.faults c.args.out.now) _
    (answers_same g.T.Table.table _ c.args.words.now.items _ _ None c.deref.ensures.value c.in-None.ensures) c.say.ensures.said c.say.ensures.later

pub returns-in-Some-Ok : goal.returns-in-Some-Ok
returns-in-Some-Ok g c =
    some_run g.T.Table.table c.requires (texts c.args.words.now) _ _ c.in-Some-Ok.answer _ _ _
    (answers_same g.T.Table.table _ c.args.words.now.items _ _ (Some (Ok c.in-Some-Ok.answer)) c.deref.ensures.value
    (rw c.in-Some-Ok.field-0-is at c.in-Some-Ok.ensures)) c.deliver.ensures

pub returns-in-Some-Err : goal.returns-in-Some-Err
returns-in-Some-Err g c =
    failed_run g.T.Table.table c.requires (texts c.args.words.now) _ _ c.in-Some-Err.fault _ _ _ _
    (answers_same g.T.Table.table _ c.args.words.now.items _ _ (Some (Err c.in-Some-Err.fault)) c.deref.ensures.value
    (rw c.in-Some-Err.field-0-is at c.in-Some-Err.ensures))
    c.say_fault.ensures.status c.say_fault.ensures.said c.say_fault.ensures.later
