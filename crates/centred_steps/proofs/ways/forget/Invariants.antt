use Rattle.std.proofs.Common.{◌≡◌, ℕ, ◌<◌, None, get_or}
use Rattle.centred_steps.proofs.ways.forget.Given as goal

abbrev pub invariant-loop-last : goal.invariant-loop-last
invariant-loop-last l = (v : ℕ) → v < l.last-index → get_or l.lasts v None ≡ None
