use Rattle.std.proofs.lemmas.Result.{on_ok_weaker}
use Rattle.block_reader.proofs.Handing.{end_shape, end_refused}
use Rattle.block_reader.proofs.blocks.Blocks.read_end.Goals as goal

pub returns-clause-whole : goal.returns-clause-whole
returns-clause-whole g c =
    on_ok_weaker c.close.result (λ closed before head blocks are. end_shape _ _ c.args.self.now head blocks c.requires.none are (closed before))
    (rw c.as_str.ensures.value at c.close.ensures.closes)

pub returns-clause-refused : goal.returns-clause-refused
returns-clause-refused g c = λ fault is before head blocks are.
    end_refused _ _ c.args.self.now head blocks fault c.requires.none are ((rw c.as_str.ensures.value at c.close.ensures.stops) fault is before)
