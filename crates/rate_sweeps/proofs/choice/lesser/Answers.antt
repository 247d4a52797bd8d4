use Rattle.std.proofs.Common.{inl, inr, arith, refl}
use Rattle.rate_sweeps.proofs.choice.lesser.Goals as goal

pub returns-then-theirs-ours-clause-either : goal.returns-then-theirs-ours-clause-either
returns-then-theirs-ours-clause-either c = inr refl

pub returns-then-theirs-ours-clause-first : goal.returns-then-theirs-ours-clause-first
returns-then-theirs-ours-clause-first c = omega (arith, c.if-theirs-ours.true, c.in_ok-ours.ensures, c.in_ok-theirs.ensures)

pub returns-then-theirs-ours-clause-kept : goal.returns-then-theirs-ours-clause-kept
returns-then-theirs-ours-clause-kept c = λ le. absurd (omega (arith, le, c.if-theirs-ours.true, c.in_ok-ours.ensures, c.in_ok-theirs.ensures))

pub returns-else-theirs-ours-clause-either : goal.returns-else-theirs-ours-clause-either
returns-else-theirs-ours-clause-either c = inl refl

pub returns-else-theirs-ours-clause-second : goal.returns-else-theirs-ours-clause-second
returns-else-theirs-ours-clause-second c = omega (arith, c.if-theirs-ours.false, c.in_ok-ours.ensures, c.in_ok-theirs.ensures)

pub returns-else-theirs-ours-clause-kept : goal.returns-else-theirs-ours-clause-kept
returns-else-theirs-ours-clause-kept c = λ le. refl
