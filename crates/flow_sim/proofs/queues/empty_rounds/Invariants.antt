use Rattle.std.proofs.Common.{◌≡◌, vec_len, All, [], length}
use Rattle.flow_sim.proofs.queues.empty_rounds.Given as goal

abbrev pub invariant-loop : goal.invariant-loop
invariant-loop l = (vec_len l.list ≡ l.counter) × All (λ r. (length r ≡ l.links) × All (λ q. q ≡ []) r) l.list.items
