use Rattle.std.proofs.Common.{◌≡◌, ◌∙◌, List, length, sym, subst}
use Rattle.std.proofs.lemmas.Result.{on_ok_weaker}
use Rattle.te_model.proofs.Lists.{written_whole}
use Rattle.shortest_path.specs.declared.rows.Direction.TheVariants.{Backward, Forward}
use Rattle.shortest_path.specs.Rows.{IsSearchGraph}
use Rattle.robust_routing.specs.Joint.{ArePathsOfPairs}
use Rattle.robust_routing.specs.Lowering.{AreLowerings}
use Rattle.robust_routing.specs.Rates.{PathsWithRates}
use Rattle.robust_routing.specs.Weights.{AreWeightsOfLinks}
use Rattle.robust_routing.proofs.Lowered.{paths_stay}
use Rattle.robust_routing.proofs.joint.take_sweep.Goals as goal

pub sweep_links-requires-clause-list : goal.sweep_links-requires-clause-list
sweep_links-requires-clause-list c = subst (AreWeightsOfLinks c.args.round.now.net.now) (sym c.deref-2.ensures.value) c.requires.joint.weights

pub keep_best-requires-clause-joint : goal.keep_best-requires-clause-joint
keep_best-requires-clause-joint c =
    let net = c.args.round.now.net.now in record {
      weights = c.requires.joint.weights;
      paths = c.requires.joint.paths;
      along = subst (IsSearchGraph net Forward) (sym c.sweep_links.ensures.same) c.requires.joint.along;
      against = c.requires.joint.against;
      every = c.requires.joint.every;
      routing = c.requires.joint.routing;
      proving = c.requires.joint.proving;
      few = c.requires.joint.few;
    }

pub sweep_pairs-requires-clause-list : goal.sweep_pairs-requires-clause-list
sweep_pairs-requires-clause-list c =
    let net = c.args.round.now.net.now in
    let pairs = c.args.round.now.pairs.now in
    let sweep = c.args.round.now.sweep in
    let tables = c.keep_best.new.joint.tables in
    let rates = c.keep_best.new.joint.rates in
    let lowered = c.lower_rates.new.list in
    let is = subst (λ (l : List PathsWithRates). AreLowerings sweep tables l lowered) c.deref_mut.ensures.value c.in_ok-lower_rates.ensures in
    let paths = paths_stay net c.args.limit pairs sweep tables rates.items lowered is c.in_ok-keep_best.ensures.paths in
    subst (ArePathsOfPairs net c.args.limit pairs) (sym (c.deref_mut-2.ensures.value ∙ written_whole rates.len lowered rates.items is.count rates.ok.0)) paths

pub sweep_pairs-requires-clause-every : goal.sweep_pairs-requires-clause-every
sweep_pairs-requires-clause-every c = c.deref-3.ensures.value ∙ c.in_ok-keep_best.ensures.every

pub returns : goal.returns
returns c =
    let net = c.args.round.now.net.now in
    let pairs = c.args.round.now.pairs.now in
    let joint = c.keep_best.new.joint in
    let is = c.in_ok-keep_best.ensures in
    let sweep = c.args.round.now.sweep in
    let tables = joint.tables in
    let rates = joint.rates in
    let lowered = c.lower_rates.new.list in
    let low = subst (λ (l : List PathsWithRates). AreLowerings sweep tables l lowered) c.deref_mut.ensures.value c.in_ok-lower_rates.ensures in
    let before = paths_stay net c.args.limit pairs sweep tables rates.items lowered low is.paths in
    let written = written_whole rates.len lowered rates.items low.count rates.ok.0 in
    let new = c.sweep_pairs.new.list in
    on_ok_weaker c.sweep_pairs.result (λ (paths : ArePathsOfPairs net c.args.limit pairs new).
    let kept : length new ≡ length lowered = paths.count ∙ sym before.count in
    record {
      weights = is.weights;
      paths = rw (written, written_whole rates.len new lowered kept (rates.ok.0 ∙ sym low.count)) paths;
      along = is.along;
      against = subst (IsSearchGraph net Backward) (sym c.sweep_pairs.ensures.same) is.against;
      every = is.every;
      routing = is.routing;
      proving = is.proving;
      few = is.few;
    }) c.sweep_pairs.ensures.list
