use Rattle.block_reader.proofs.Going.{at_begun}
use Rattle.block_reader.proofs.lines.Lines.stopped.Goals as goal

pub returns-in-Shape-clause-drained : goal.returns-in-Shape-clause-drained
returns-in-Shape-clause-drained g c = λ before passed b. rw c.in-Shape.is (c.misshaped.ensures.drained before passed b)

pub returns-in-Memory-clause-drained : goal.returns-in-Memory-clause-drained
returns-in-Memory-clause-drained g c = λ before passed b. at_begun _ c.args.self.now.window passed b.stands
