use Rattle.std.proofs.Common.{List, length, refl, ap}
use Rattle.te_model.specs.declared.name.Name.{Name}
use Rattle.best_blocks.proofs.Scaled.{shares_listed}
use Rattle.ratio_certificate.proofs.CriticalSources.{dearest_marks_read}
use Rattle.ratio_certificate.proofs.NextRounds.{shared_far}
use Rattle.ratio_certificate.proofs.critical.dearest_source.Goals as goal

pub dearest_pair-dearest-requires-clause-apart : goal.dearest_pair-dearest-requires-clause-apart
dearest_pair-dearest-requires-clause-apart c =
    rw c.as_slice.ensures
    (shared_far c.args.problem.now.net.now c.args.problem.now.routing.now.routes c.args.problem.now.set.now c.args.shared.now c.args.metric.now c.requires.problem.routing c.requires.shared c.requires.metric c.requires.weights)

pub returns : goal.returns
returns c =
    let problem = c.args.problem.now in
    dearest_marks_read problem.net.now problem.routing.now.routes c.as_slice-2.result.now problem.set.now c.args.shared.now c.args.metric.now c.args.shared.now.shares
    c.as_slice.result.now c.dearest_pair-dearest.result (length c.as_slice-3.result.now) c.index-as_slice-dearest.result c.in_ok-marks.marks.items c.requires.every
    c.requires.problem.routing c.requires.shared c.requires.metric c.as_slice-2.ensures refl c.as_slice.ensures
    (ap (λ (ns : List Name). length ns) c.as_slice-3.ensures) (c.in_ok-marks.ensures.items_if_clones_equal (λ y same. same)) c.dearest_pair-dearest.ensures

pub dearest_pair-dearest-requires-clause-listed : goal.dearest_pair-dearest-requires-clause-listed
dearest_pair-dearest-requires-clause-listed c =
    shares_listed c.args.problem.now.net.now c.args.problem.now.routing.now.routes c.args.problem.now.set.now c.args.shared.now c.requires.shared
