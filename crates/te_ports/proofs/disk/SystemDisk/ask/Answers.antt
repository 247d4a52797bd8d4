use Rattle.std.proofs.Common.{◌∙◌, refl, ap}
use Rattle.te_ports.specs.OpenFiles.{name_bytes}
use Rattle.te_ports.proofs.disk.SystemDisk.ask.Goals.{in-Ok, in-Err+then-eq, in-Err+else-eq}
use Rattle.te_ports.proofs.disk.SystemDisk.ask.Goals as goal

pub returns-clause-kept : goal.returns-clause-kept
returns-clause-kept g c =
    elim c.match-read_at.branch [
      | in-Ok w ↦ rw (w.self-is, w.result-is) (c.read_at.new.self, refl, ap name_bytes c.read_at.ensures.name ∙ c.in_ok-file.ensures.name, w.in-Ok.ensures.next)
      | in-Err+then-eq w ↦ rw w.result-is tt
      | in-Err+else-eq w ↦ rw w.result-is tt
    ]
