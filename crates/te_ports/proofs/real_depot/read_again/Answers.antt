use Rattle.std.proofs.Common.{rules, ◌≡◌, refl, subst, Err}
use Rattle.te_ports.specs.Trying.{IsCalled, once, again, NotesRead}
use Rattle.te_ports.specs.declared.system.SystemFault.TheVariants.{Interrupted}
use Rattle.te_ports.proofs.real_depot.read_again.Goals as goal

pub tries-init : goal.tries-init
tries-init g c = (c.read_once-answer.ensures.bound, once _ _ _ _ refl c.read_once-answer.ensures.called)

pub tries-preserved : goal.tries-preserved
tries-preserved g c =
    let interrupted : c.tries.answer ≡ Err Interrupted = search rules in (
      c.read_once-answer-in-tries.ensures.bound,
      again _ c.tries.counter _ _ _ _ refl
          (subst (λ answer. IsCalled (NotesRead g.D.Disk.calls c.args.name.now c.args.at) c.tries.counter (c.args.disk.now, c.args.buf.now) answer (c.tries.disk, c.tries.buf)) interrupted c.tries.invariant.1)
          c.read_once-answer-in-tries.ensures.called,
    )
