use Rattle.std.proofs.Common.{◌^◌, ℕ, List, length, arith, ap}
use Rattle.te_model.proofs.Choices.{pushed_count}
use Rattle.ratio_certificate.proofs.Seeking.{weights_more}
use Rattle.ratio_certificate.proofs.seek.halves_of.Goals as goal

pub loop-h-init : goal.loop-h-init
loop-h-init c =
    let none = ap (λ (l : List ℕ). length l) c.in_ok-halves.ensures.items in
    (none, record { some = λ h below. absurd (omega (arith, below, none)); small = λ h below. absurd (omega (arith, below, none)) })

pub loop-h-preserved : goal.loop-h-preserved
loop-h-preserved c =
    rw c.in_ok-push.ensures.items (
      pushed_count c.loop-h.halves.items c.half_of.result c.loop-h.h c.loop-h.invariant.0,
      weights_more (2 ^ 27) c.loop-h.halves.items c.half_of.result c.loop-h.invariant.1 c.half_of.ensures.0 c.half_of.ensures.1,
    )
