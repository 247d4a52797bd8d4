use Rattle.std.proofs.Common.{ℕ, List, inr, subst}
use Rattle.ratio_certificate.specs.Polished.{IsFine}
use Rattle.ratio_tightening.proofs.polishing.step_at.Goals as goal

pub returns-in-Some-clause-some : goal.returns-in-Some-clause-some
returns-in-Some-clause-some c =
    let fine = subst (λ (ws : List ℕ). IsFine ws c.args.block.now.b) c.as_slice.ensures (c.is_fine.ensures.fine c.if-not-is_fine.false) in
    inr (fine, rw c.in-Some.is at c.in_ok-block-2.ensures.better)
