use Rattle.std.proofs.Common.{List, ℕ, length, filter, arith, ap, sym, subst, ◌∙◌}
use Rattle.std.specs.Option.{option_map}
use Rattle.routing.specs.Routes.{AreDemands}
use Rattle.routing.specs.Utilisation.{parts}
use Rattle.series_simulation.specs.Connected.{demands_of, connects}
use Rattle.series_simulation.specs.Rows.{bound_of_sent}
use Rattle.series_simulation.proofs.Demands.{demands_are}
use Rattle.routing.proofs.InOrder.{routes_count}
use Rattle.series_simulation.proofs.SeriesLemmas.{given_are, passing_pairs}
use Rattle.series_simulation.proofs.scheme_routing.route_connected.Goals as goal

pub connected_matrix-requires : goal.connected_matrix-requires
connected_matrix-requires g c =
    let count = length c.args.pairs.now.list in
    let are = given_are count (option_map (λ m. m.now.demand) c.args.predicted) c.args.matrix.now.demand c.requires.predicted c.requires.demands in
    (subst (AreDemands count) (sym c.given_matrix-given.ensures) are).count

pub route-requires-clause-plan : goal.route-requires-clause-plan
route-requires-clause-plan g c =
    let test = connects c.args.prepared.now.reach in
    let pairs = filter test c.args.pairs.now.list in
    let count = length c.args.pairs.now.list in
    let are = given_are count (option_map (λ m. m.now.demand) c.args.predicted) c.args.matrix.now.demand c.requires.predicted c.requires.demands in (
      pairs,
      c.requires.planned,
      subst (λ (ds : List ℕ). AreDemands (length pairs) ds) (sym c.in_ok-reached.ensures)
          (demands_are test c.args.pairs.now.list c.given_matrix-given.result.now.demand (subst (AreDemands count) (sym c.given_matrix-given.ensures) are)),
    )

pub greatest_utilisation-requires-clause-pairs : goal.greatest_utilisation-requires-clause-pairs
greatest_utilisation-requires-clause-pairs g c =
    let net = c.args.net.now in
    let test = connects c.args.prepared.now.reach in
    let pairs = filter test c.args.pairs.now.list in
    let routing = c.in_ok-routing.ensures.routing pairs c.requires.planned in
    omega (arith, routes_count pairs c.in_ok-routing.routing.routes routing.in_order, (passing_pairs net test c.args.pairs.now.list c.requires.pairs).few)

pub greatest_utilisation-requires-clause-demands : goal.greatest_utilisation-requires-clause-demands
greatest_utilisation-requires-clause-demands g c =
    let test = connects c.args.prepared.now.reach in
    let pairs = filter test c.args.pairs.now.list in
    let routing = c.in_ok-routing.ensures.routing pairs c.requires.planned in
    subst (λ (ds : List ℕ). AreDemands (length c.in_ok-routing.routing.routes) ds) (sym c.in_ok-sent.ensures)
    (subst (λ (n : ℕ). AreDemands n (demands_of test c.args.pairs.now.list c.args.matrix.now.demand))
    (sym (routes_count pairs c.in_ok-routing.routing.routes routing.in_order))
    (demands_are test c.args.pairs.now.list c.args.matrix.now.demand c.requires.demands))

pub returns-clause-routed : goal.returns-clause-routed
returns-clause-routed g c =
    let net = c.args.net.now in
    let test = connects c.args.prepared.now.reach in
    let pairs = filter test c.args.pairs.now.list in
    let routes = c.in_ok-routing.routing.routes in
    record {
      has_path = test;
      tells = c.requires.tells;
      planned = c.requires.planned;
      routing = c.in_ok-routing.ensures.routing pairs c.requires.planned;
      few = c.in_ok-routing.ensures.few;
      note = c.in_ok-routing.note;
      related = subst (λ (ds : List ℕ). g.S.Scheme.relates c.args.scheme.now net pairs c.args.prepared.now.plan ds routes c.in_ok-routing.note)
          (c.in_ok-reached.ensures ∙ ap (demands_of test c.args.pairs.now.list) c.given_matrix-given.ensures)
          (c.in_ok-routing.ensures.related pairs c.requires.planned);
      most_is = c.in_ok-parts.ensures ∙ ap (λ (ds : List ℕ). parts net routes ds) c.in_ok-sent.ensures;
      bound_is = c.bound_of_sent-low.ensures ∙ ap (bound_of_sent (option_map (λ m. m.now.demand) c.args.predicted)) c.low.ensures;
    }

pub returns-clause-few : goal.returns-clause-few
returns-clause-few g c = c.in_ok-routing.ensures.few
