use Rattle.std.proofs.Common.{◌≡◌, ℕ, Bool, false, not, Option, Some, None, slice_index, refl, ap, sym, ◌∙◌}
use Rattle.std.specs.Option.{is_some}
use Rattle.std.proofs.lemmas.Bool.{false≢true}
use Rattle.te_model.proofs.SoundLinks.{costs_small}
use Rattle.te_model.proofs.WellFormed.{links_join}
use Rattle.shortest_path.specs.Graph.{distance_at}
use Rattle.ecmp_split.proofs.Balance.{acyclic}
use Rattle.ecmp_split.proofs.CostsTo.{cost_has_path}
use Rattle.ecmp_split.proofs.splitting.split_by.Goals as goal

known : (o : Option ℕ) (b : Bool) → is_some o ≡ not b → b ≡ false → (x : ℕ) × (o ≡ Some x)
known None b is some = absurd (false≢true (is ∙ ap not some))
known (Some x) b is some = (x, refl)

pub returns-clause-reached : goal.returns-clause-reached
returns-clause-reached c =
    let costs = c.args.hops.now.costs in
    let (x, at) = known (distance_at c.as_slice-costs.result.now c.args.pair.src) c.is_none.result c.is_none.ensures c.if-is_none.false in
    cost_has_path c.args.net.now c.args.pair.src c.args.pair.dst x costs c.requires.hops.costs_are c.requires.pair.src_inside c.requires.pair.apart
    (sym (ap (λ l. distance_at l c.args.pair.src) c.as_slice-costs.ensures) ∙ at)

pub returns-clause-flow : goal.returns-clause-flow
returns-clause-flow c =
    let net = c.args.net.now in
    let costs = c.args.hops.now.costs in
    let (x, at) = known (distance_at c.as_slice-costs.result.now c.args.pair.src) c.is_none.result c.is_none.ensures c.if-is_none.false in
    acyclic net costs (slice_index c.in_ok-flow.flow.items) c.args.pair.src c.args.pair.dst (record {
      ends = links_join net c.requires.network;
      long = λ h inside. (costs_small net c.requires.network h inside).0;
      costs = c.requires.hops.costs_are;
      parts = c.in_ok-flow.ensures.parts;
      s_in = c.requires.pair.src_inside;
      t_in = c.requires.pair.dst_inside;
      apart = c.requires.pair.apart;
      known = (x, sym (ap (λ l. distance_at l c.args.pair.src) c.as_slice-costs.ensures) ∙ at);
    })
