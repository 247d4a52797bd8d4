use Rattle.std.proofs.Common.{refl}
use Rattle.block_reader.proofs.Reading.{reads_err}
use Rattle.block_reader.proofs.blocks.Blocks.judge_rest.Goals as goal

pub returns-in-Err-clause-refused : goal.returns-in-Err-clause-refused
returns-in-Err-clause-refused g c = λ before head blocks are first. c.in-Err.ensures.refused c.in-Err.fault refl before head blocks are

pub returns-in-Err-clause-reads : goal.returns-in-Err-clause-reads
returns-in-Err-clause-reads g c = reads_err _ _ _ c.in-Err.fault c.in-Err.ensures.reads
