use Rattle.std.proofs.Common.{◌≡◌, ℕ, List, [], All, arith, sym, subst}
use Rattle.std.proofs.lemmas.List.Elements.{All-push}
use Rattle.flow_sim.proofs.queue.Round.empty.Goals as goal

pub loop-preserved : goal.loop-preserved
loop-preserved c = (
  omega (arith, c.in_ok-push.ensures.len, c.loop.invariant.0),
  subst (All (λ (q : List ℕ). q ≡ [])) (sym c.in_ok-push.ensures.items)
      (All-push (λ (q : List ℕ). q ≡ []) c.loop.queues.items c.new.result c.loop.invariant.1 c.new.ensures),
)
