use Rattle.std.proofs.Common.{refl, sym, subst}
use Rattle.std.proofs.lemmas.Result.{IfOk-weaker}
use Rattle.mcf_lengths.specs.Ways.{MarksDestinations}
use Rattle.mcf_lengths.proofs.sweeps.sweep.Goals as goal

pub bounded_routing-requires-clause-commodities : goal.bounded_routing-requires-clause-commodities
bounded_routing-requires-clause-commodities c = record {
  network = c.requires.network;
  ends = c.requires.pairs;
  reached = c.requires.reached;
  marks = subst (MarksDestinations c.args.net.now c.args.pairs.now.list) (sym c.deref.ensures.value) c.in_ok-wanted.ensures;
  demands = c.requires.demands;
  limit = refl;
}

pub bounded_routing-requires-clause-start : goal.bounded_routing-requires-clause-start
bounded_routing-requires-clause-start c = record { routing = c.requires.start; few = c.requires.few }

pub returns-clause-routing : goal.returns-clause-routing
returns-clause-routing c = IfOk-weaker c.bounded_routing.result _ _ (λ r is. is.routing) c.bounded_routing.ensures.routing

pub returns-clause-few : goal.returns-clause-few
returns-clause-few c = IfOk-weaker c.bounded_routing.result _ _ (λ r is. is.few) c.bounded_routing.ensures.routing

pub returns-clause-no_greater : goal.returns-clause-no_greater
returns-clause-no_greater c = IfOk-weaker c.bounded_routing.result _ _ (λ r is. is.no_greater) c.bounded_routing.ensures.routing
