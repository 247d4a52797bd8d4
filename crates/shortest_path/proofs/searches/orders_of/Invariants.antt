use Rattle.std.proofs.Common.{◌≡◌, length, All}
use Rattle.shortest_path.proofs.searches.orders_of.Given as goal

abbrev pub invariant-loop : goal.invariant-loop
invariant-loop l = (length l.orders.items ≡ l.counter) × All (λ k. k ≡ l.nodes) l.orders.items
