use Rattle.std.proofs.Common.{◌∙◌, true, List, length, replicate, ap, sym, subst}
use Rattle.te_model.specs.declared.network.Link.{Link}
use Rattle.shortest_path.specs.declared.rows.Direction.TheVariants.{Backward}
use Rattle.shortest_path.specs.Rows.{IsSearchGraph}
use Rattle.shortest_path.proofs.Sound.{sound}
use Rattle.robust_routing.proofs.joint.begin.Goals as goal

pub with_orders-requires : goal.with_orders-requires
with_orders-requires c = sound c.args.net.now c.requires.network

pub with_orders-requires-2 : goal.with_orders-requires-2
with_orders-requires-2 c = sound c.args.net.now c.requires.network

pub first_paths-requires-clause-every : goal.first_paths-requires-clause-every
first_paths-requires-clause-every c =
    c.deref.ensures.value
    ∙ (c.in_ok-every.ensures.items_if_clones_equal (λ y same. same) ∙ ap (λ (l : List Link). replicate (length l) true) c.as_slice-links.ensures)

pub first_paths-requires-clause-routing : goal.first_paths-requires-clause-routing
first_paths-requires-clause-routing c = c.requires.routing

pub returns : goal.returns
returns c = record {
  weights = c.in_ok-weights.ensures;
  paths = c.in_ok-rates.ensures.rates;
  along = c.in_ok-along.ensures;
  against = subst (IsSearchGraph c.args.net.now Backward) (sym c.first_paths.ensures.same) c.in_ok-against.ensures;
  every = c.in_ok-every.ensures.items_if_clones_equal (λ y same. same) ∙ ap (λ (l : List Link). replicate (length l) true) c.as_slice-links.ensures;
  routing = c.requires.routing;
  proving = c.in_ok-proving.ensures;
  few = c.requires.few;
}
