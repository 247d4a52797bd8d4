use Rattle.std.proofs.Common.{◌≡◌, vec_len, All, []}
use Rattle.flow_sim.proofs.queue.Round.empty.Given as goal

abbrev pub invariant-loop : goal.invariant-loop
invariant-loop l = (vec_len l.queues ≡ l.counter) × All (λ q. q ≡ []) l.queues.items
