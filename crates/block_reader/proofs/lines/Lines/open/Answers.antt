use Rattle.std.proofs.Common.{[], inl, inr, refl, sym}
use Rattle.std.proofs.lemmas.Result.{err_from_is_err_and}
use Rattle.te_model.specs.FileLimit.{file_limit}
use Rattle.te_ports.specs.Record.{nothing}
use Rattle.block_reader.specs.declared.stream_fault.StreamFault.TheVariants.{Memory}
use Rattle.block_reader.proofs.Advancing.{fault_is}
use Rattle.block_reader.proofs.Going.{at_part}
use Rattle.block_reader.proofs.Starting.{is_limit}
use Rattle.block_reader.proofs.lines.Lines.open.Goals as goal

pub at_start-requires-clause-limit : goal.at_start-requires-clause-limit
at_start-requires-clause-limit g c = is_limit

pub returns-in_err-window-clause-refused : goal.returns-in_err-window-clause-refused
returns-in_err-window-clause-refused g c =
    let p = err_from_is_err_and c.from_residual.result c.from_residual.ensures.1 in
    rw (p.1, p.2) (λ fault is. inr (sym (fault_is Memory fault is), nothing _ [] c.in_err-window.ensures.unread refl))

pub returns-clause-refused : goal.returns-clause-refused
returns-clause-refused g c = λ fault is.
    let failed = c.at_start-2.ensures.failed fault is in
    let window = c.in_ok-window.ensures in
    inl (failed.0, at_part _ file_limit c.in_ok-window.window [] window.stands window.limit failed.1)
