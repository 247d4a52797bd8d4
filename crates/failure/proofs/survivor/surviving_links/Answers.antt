use Rattle.std.proofs.Common.{ℕ, Bool, ◌∙◌, refl, sym, not, false, get_or}
use Rattle.failure.proofs.NetworkLemmas.{kept, left-out}
use Rattle.failure.proofs.survivor.surviving_links.Goals as goal
use Rattle.failure.proofs.survivor.surviving_links.Goals.{then-not-failed-link+in_ok-push, else-not-failed-link}

pub loop-link-preserved : goal.loop-link-preserved
loop-link-preserved c =
    let stands : ℕ → Bool = λ h. not (get_or c.args.failed.now h false) in
    elim c.if-not-failed-link.branch [
      | then-not-failed-link+in_ok-push w ↦
          rw w.origin-is (w.in_ok-push.ensures.items ∙ rw c.loop-link.invariant (sym (kept stands c.loop-link.link (rw w.if-not-failed-link.true refl))))
      | else-not-failed-link w ↦
          rw w.origin-is (c.loop-link.invariant ∙ sym (left-out stands c.loop-link.link (rw w.if-not-failed-link.false refl)))
    ]
