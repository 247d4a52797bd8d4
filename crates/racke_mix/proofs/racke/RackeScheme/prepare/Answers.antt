use Rattle.std.proofs.Common.{◌≡◌, ◌∙◌, All, List, sym, subst}
use Rattle.scheme.specs.Fixed.{IsRoutingBy}
use Rattle.racke_mix.specs.declared.round.Round.{Round}
use Rattle.racke_mix.specs.Mix.{IsMix, IsMixSplit}
use Rattle.racke_mix.proofs.Mixing.{own_trees}
use Rattle.racke_mix.proofs.racke.RackeScheme.prepare.Goals as goal

pub mix_routing-requires-clause-own : goal.mix_routing-requires-clause-own
mix_routing-requires-clause-own c =
    subst (All (λ (r : Round). r.tree.network ≡ c.args.net.now)) (sym c.deref.ensures.value)
    (own_trees c.args.net.now _ c.args.self.now.seed c.in_ok-rounds.rounds.items c.in_ok-rounds.ensures)

pub returns-clause-plan : goal.returns-clause-plan
returns-clause-plan c =
    let net = c.args.net.now in
    let routes = c.in_ok-routing.routing.routes in
    record {
      mix = subst (IsMix net c.args.self.now.trees c.args.self.now.seed) (sym c.new.ensures) c.in_ok-rounds.ensures;
      routing = subst (λ (rs : List Round). IsRoutingBy (IsMixSplit rs) 16 net c.args.pairs.now.list routes) (c.deref.ensures.value ∙ sym c.new.ensures)
          c.in_ok-routing.ensures.routing;
    }
