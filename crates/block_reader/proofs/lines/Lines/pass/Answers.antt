use Rattle.std.proofs.Common.{ap, length, arith}
use Rattle.block_reader.proofs.Filling.{passes_by}
use Rattle.block_reader.proofs.lines.Lines.pass.Goals as goal

pub returns-clause-passes : goal.returns-clause-passes
returns-clause-passes c = λ front rest parts size.
    let pass = c.pass.ensures in
    passes_by c.args.self.now.window c.pass.new.self _ c.args.left front rest pass.ready pass.fetched pass.state pass.limit
    (omega (arith, ap length c.ready.ensures, c.requires.left)) parts size
