use Rattle.std.proofs.Common.{refl, take}
use Rattle.block_reader.specs.Standing.{ready}
use Rattle.block_reader.proofs.Bytes.{passed_by}
use Rattle.block_reader.proofs.Going.{in_pass}
use Rattle.block_reader.proofs.window.Window.pass.Goals as goal

pub returns-clause-ready : goal.returns-clause-ready
returns-clause-ready c =
    let w = c.args.self.now in
    passed_by (take w.end w.bytes.items) w.start c.args.count

pub returns-clause-told : goal.returns-clause-told
returns-clause-told c = λ content passed s.
    let w = c.args.self.now in
    in_pass content w _ passed (take c.args.count (ready w)) (passed_by (take w.end w.bytes.items) w.start c.args.count) refl refl refl s
