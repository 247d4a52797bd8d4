use Rattle.command_frame.proofs.writing.say_fault.Goals as goal

pub returns-in-Read-clause-said : goal.returns-in-Read-clause-said
returns-in-Read-clause-said g c = rw c.in-Read.is c.say-in-Read.ensures.said

pub returns-in-Memory-clause-said : goal.returns-in-Memory-clause-said
returns-in-Memory-clause-said g c = rw c.in-Memory.is c.say-in-Memory.ensures.said
