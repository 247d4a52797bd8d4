use Rattle.std.proofs.Common.{◌≡◌, ◌∙◌, length, sym, subst}
use Rattle.te_model.specs.Network.{link_count}
use Rattle.te_model.proofs.Lists.{written_whole}
use Rattle.robust_routing.specs.Joint.{ArePathsOfPairs}
use Rattle.robust_routing.specs.Lengths.{AreLengths}
use Rattle.robust_routing.proofs.joint.first_paths.Goals as goal

pub rates_of-requires : goal.rates_of-requires
rates_of-requires c = c.requires.routing

pub move_to_least-requires-clause-lengths : goal.move_to_least-requires-clause-lengths
move_to_least-requires-clause-lengths c = subst (AreLengths (link_count c.args.net.now)) (sym c.deref.ensures.value) c.in_ok-lengths.ensures

pub move_to_least-requires-clause-list : goal.move_to_least-requires-clause-list
move_to_least-requires-clause-list c = subst (ArePathsOfPairs c.args.net.now 1 c.args.pairs.now) (sym c.deref_mut.ensures.value) c.in_ok-rates.ensures

pub returns-clause-rates : goal.returns-clause-rates
returns-clause-rates c =
    let rates = c.in_ok-rates.rates in
    let new = c.move_to_least.new.list in
    let paths : ArePathsOfPairs c.args.net.now 1 c.args.pairs.now new = c.in_ok-move_to_least.ensures.list in
    let kept : length new ≡ length rates.items = paths.count ∙ sym c.in_ok-rates.ensures.count in
    rw (written_whole rates.len new rates.items kept rates.ok.0) paths
