use Rattle.std.proofs.Common.{rules, ◌≡◌, refl, subst, Err}
use Rattle.std.specs.Io.KnownBytes.{WriteAppends}
use Rattle.te_ports.specs.Trying.{IsCalled, once, again, NotesWrite}
use Rattle.te_ports.specs.declared.system.SystemFault.TheVariants.{Interrupted}
use Rattle.te_ports.proofs.Trying.{appends_after_keeping}
use Rattle.te_ports.proofs.real_sink.write_again.Goals as goal

pub tries-init : goal.tries-init
tries-init g c =
    (c.write_once-answer.ensures.bound, c.write_once-answer.ensures.bytes, once _ _ _ _ refl c.write_once-answer.ensures.called)

pub tries-preserved : goal.tries-preserved
tries-preserved g c =
    let interrupted : c.tries.answer ≡ Err Interrupted = search rules in (
      c.write_once-answer-in-tries.ensures.bound,
      appends_after_keeping _ _ _ _ _
          (subst (λ answer. WriteAppends (g.W.Stream.contents c.args.stream.now) (g.W.Stream.contents c.tries.stream) answer c.args.bytes.now) interrupted c.tries.invariant.1)
          c.write_once-answer-in-tries.ensures.bytes,
      again _ c.tries.counter _ _ _ _ refl
          (subst (λ answer. IsCalled (NotesWrite g.W.Stream.calls c.args.bytes.now) c.tries.counter c.args.stream.now answer c.tries.stream) interrupted c.tries.invariant.2)
          c.write_once-answer-in-tries.ensures.called,
    )
