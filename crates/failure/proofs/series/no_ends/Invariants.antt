use Rattle.std.proofs.Common.{◌≡◌, vec_len, All, replicate}
use Rattle.failure.proofs.series.no_ends.Given as goal

abbrev pub invariant-loop : goal.invariant-loop
invariant-loop l = (vec_len l.table ≡ l.counter) × All (λ ends. ends ≡ replicate l.links 0) l.table.items
