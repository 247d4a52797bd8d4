use Rattle.std.proofs.Common.{subst}
use Rattle.te_ports.specs.Shown.{shown_by}
use Rattle.command_frame.specs.Outcome.{ReadsBytesOf}
use Rattle.command_frame.proofs.Following.{loaded}
use Rattle.command_frame.proofs.files.value_in.Goals as goal

pub returns-in-Ok-clause-reads : goal.returns-in-Ok-clause-reads
returns-in-Ok-clause-reads g c =
    let seen = shown_by g.D.Depot.content g.D.Depot.gave g.D.Depot.faults in
    let load = c.in-Ok.ensures in
    loaded _ (g.K.FileKind.kind c.args.kind.now) c.args.file.now c.in-Ok.bytes.items (seen c.args.depot.now) (seen c.load_within.new.depot) c.value_of.result
    load.read load.within
    (subst (λ bytes. ReadsBytesOf (g.K.FileKind.kind c.args.kind.now) c.args.file.now bytes c.value_of.result) c.deref.ensures.value c.value_of.ensures.reads)
    (load.steady (λ e. cc)) (record { added = load.added; later = load.later; content = load.content })
