use Rattle.std.proofs.Common.{◌≡◌, length, All}
use Rattle.te_model.specs.Network.{node_count}
use Rattle.robust_routing.proofs.rows.first_rows.Given as goal

abbrev pub invariant-loop : goal.invariant-loop
invariant-loop l = (length l.rows.items ≡ l.counter) × All (λ r. length r ≡ node_count l.net) l.rows.items
