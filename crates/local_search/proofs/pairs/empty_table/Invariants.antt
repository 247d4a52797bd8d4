use Rattle.std.proofs.Common.{◌≡◌, vec_len, All, []}
use Rattle.local_search.proofs.pairs.empty_table.Given as goal

abbrev pub invariant-links : goal.invariant-links
invariant-links l = (vec_len l.table ≡ l.counter) × All (λ s. s ≡ []) l.table.items
