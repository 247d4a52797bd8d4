use Rattle.std.proofs.Common.{◌≡◌, vec_len, All, []}
use Rattle.shortest_path.proofs.rows.empty_rows.Given as goal

abbrev pub invariant-loop : goal.invariant-loop
invariant-loop l = (vec_len l.rows ≡ l.counter) × All (λ r. r ≡ []) l.rows.items
