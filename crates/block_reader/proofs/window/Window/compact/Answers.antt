use Rattle.std.proofs.Common.{◌∙◌, List, ℕ, length, ap, arith}
use Rattle.std.specs.List.{copy_within}
use Rattle.block_reader.proofs.Bytes.{moved}
use Rattle.block_reader.proofs.window.Window.compact.Goals as goal

pub returns-clause-ready : goal.returns-clause-ready
returns-clause-ready c =
    let w = c.args.self.now in
    let same = c.as_mut_slice.ensures.value in
    moved w.bytes.items c.copy_within.new.self w.start w.end w.bytes.len w.ordered (omega arith) (omega arith)
    (c.copy_within.ensures.len ∙ ap length same)
    (c.copy_within.ensures.after ∙ ap (λ (xs : List ℕ). copy_within xs w.start w.end 0) same)
