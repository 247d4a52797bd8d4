use Rattle.std.proofs.Common.{arith, refl}
use Rattle.best_blocks.proofs.quotient.greater.Goals as goal

pub returns-then-ours-theirs-clause-second : goal.returns-then-ours-theirs-clause-second
returns-then-ours-theirs-clause-second c = λ _. refl

pub returns-then-ours-theirs-clause-first : goal.returns-then-ours-theirs-clause-first
returns-then-ours-theirs-clause-first c = λ no. absurd (omega (arith, no))

pub returns-else-ours-theirs-clause-second : goal.returns-else-ours-theirs-clause-second
returns-else-ours-theirs-clause-second c = λ less. absurd (omega (arith, less))

pub returns-else-ours-theirs-clause-first : goal.returns-else-ours-theirs-clause-first
returns-else-ours-theirs-clause-first c = λ _. refl
