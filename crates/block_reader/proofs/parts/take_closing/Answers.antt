use Rattle.block_reader.proofs.Closing.{closes_after}
use Rattle.block_reader.proofs.parts.take_closing.Goals as goal

pub returns-clause-closes : goal.returns-clause-closes
returns-clause-closes c =
    closes_after c.reader-reader.result.line c.args.lines.now.line c.reader-reader.result.source.bytes.now _ _ _ c.at_end.result _ c.reader-reader.ensures.line c.reader-reader.ensures.bytes
    (c.in_ok-word.ensures.takes.reads tt) (c.in_ok-end_line.ensures.takes.reads tt) (c.at_end.ensures.takes.reads tt)
