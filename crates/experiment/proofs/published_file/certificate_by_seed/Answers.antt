use Rattle.std.proofs.Common.{refl}
use Rattle.plan.specs.declared.scheme_name.SchemeName.TheVariants.{Spf, Ecmp, Ksp, Racke, Valiant, Robust}
use Rattle.te_model.specs.Network.{node_count}
use Rattle.series_simulation.proofs.SeriesLemmas.{series_pairs}
use Rattle.experiment.specs.Published.{with_seed}
use Rattle.experiment.proofs.ByName.{made_by_name}
use Rattle.experiment.proofs.PublishedSets.{set_within}
use Rattle.experiment.proofs.published_file.certificate_by_seed.Goals as goal

pub publish-requires-clause-pairs : goal.publish-requires-clause-pairs
publish-requires-clause-pairs c = series_pairs c.args.network.now c.args.series.now c.requires.network c.requires.series

pub publish-requires-clause-set : goal.publish-requires-clause-set
publish-requires-clause-set c =
    rw c.in_ok-set.ensures (set_within (node_count c.args.network.now) c.args.plan.now c.args.series.now c.requires.plan c.requires.series)

pub publish-requires-in-Ksp-clause-pairs : goal.publish-requires-in-Ksp-clause-pairs
publish-requires-in-Ksp-clause-pairs c = series_pairs c.args.network.now c.args.series.now c.requires.network c.requires.series

pub publish-requires-in-Ksp-clause-set : goal.publish-requires-in-Ksp-clause-set
publish-requires-in-Ksp-clause-set c =
    rw c.in_ok-set.ensures (set_within (node_count c.args.network.now) c.args.plan.now c.args.series.now c.requires.plan c.requires.series)

pub publish-requires-in-Ecmp-clause-pairs : goal.publish-requires-in-Ecmp-clause-pairs
publish-requires-in-Ecmp-clause-pairs c = series_pairs c.args.network.now c.args.series.now c.requires.network c.requires.series

pub publish-requires-in-Ecmp-clause-set : goal.publish-requires-in-Ecmp-clause-set
publish-requires-in-Ecmp-clause-set c =
    rw c.in_ok-set.ensures (set_within (node_count c.args.network.now) c.args.plan.now c.args.series.now c.requires.plan c.requires.series)

pub publish-requires-in-Racke-clause-pairs : goal.publish-requires-in-Racke-clause-pairs
publish-requires-in-Racke-clause-pairs c = series_pairs c.args.network.now c.args.series.now c.requires.network c.requires.series

pub publish-requires-in-Racke-clause-set : goal.publish-requires-in-Racke-clause-set
publish-requires-in-Racke-clause-set c =
    rw c.in_ok-set.ensures (set_within (node_count c.args.network.now) c.args.plan.now c.args.series.now c.requires.plan c.requires.series)

pub publish-requires-in-Valiant-clause-pairs : goal.publish-requires-in-Valiant-clause-pairs
publish-requires-in-Valiant-clause-pairs c = series_pairs c.args.network.now c.args.series.now c.requires.network c.requires.series

pub publish-requires-in-Valiant-clause-set : goal.publish-requires-in-Valiant-clause-set
publish-requires-in-Valiant-clause-set c =
    rw c.in_ok-set.ensures (set_within (node_count c.args.network.now) c.args.plan.now c.args.series.now c.requires.plan c.requires.series)

pub returns-in-Spf-clause-made : goal.returns-in-Spf-clause-made
returns-in-Spf-clause-made c =
    made_by_name Spf (with_seed c.args.plan.now c.args.seed) c.args.network.now c.args.series.now c.in_ok-set.set (λ p. p.routing.routes) (λ p. refl)
    c.in-Spf.is c.in_ok-set.ensures c.publish.result c.publish.ensures.made

pub returns-in-Ecmp-clause-made : goal.returns-in-Ecmp-clause-made
returns-in-Ecmp-clause-made c =
    made_by_name Ecmp (with_seed c.args.plan.now c.args.seed) c.args.network.now c.args.series.now c.in_ok-set.set (λ p. p.routing.routes) (λ p. refl)
    c.in-Ecmp.is c.in_ok-set.ensures c.publish-in-Ecmp.result c.publish-in-Ecmp.ensures.made

pub returns-in-Ksp-clause-made : goal.returns-in-Ksp-clause-made
returns-in-Ksp-clause-made c =
    made_by_name Ksp (with_seed c.args.plan.now c.args.seed) c.args.network.now c.args.series.now c.in_ok-set.set (λ p. p.routing.routes) (λ p. refl)
    c.in-Ksp.is c.in_ok-set.ensures c.publish-in-Ksp.result c.publish-in-Ksp.ensures.made

pub returns-in-Racke-clause-made : goal.returns-in-Racke-clause-made
returns-in-Racke-clause-made c =
    made_by_name Racke (with_seed c.args.plan.now c.args.seed) c.args.network.now c.args.series.now c.in_ok-set.set (λ p. p.routing.routes) (λ p. refl)
    c.in-Racke.is c.in_ok-set.ensures c.publish-in-Racke.result c.publish-in-Racke.ensures.made

pub returns-in-Valiant-clause-made : goal.returns-in-Valiant-clause-made
returns-in-Valiant-clause-made c =
    made_by_name Valiant (with_seed c.args.plan.now c.args.seed) c.args.network.now c.args.series.now c.in_ok-set.set (λ p. p.routing.routes) (λ p. refl)
    c.in-Valiant.is c.in_ok-set.ensures c.publish-in-Valiant.result c.publish-in-Valiant.ensures.made

pub publish_robust-requires-clause-pairs : goal.publish_robust-requires-clause-pairs
publish_robust-requires-clause-pairs c = series_pairs c.args.network.now c.args.series.now c.requires.network c.requires.series

pub publish_robust-requires-clause-set : goal.publish_robust-requires-clause-set
publish_robust-requires-clause-set c =
    rw c.in_ok-set.ensures (set_within (node_count c.args.network.now) c.args.plan.now c.args.series.now c.requires.plan c.requires.series)

pub returns-in-Robust-clause-made : goal.returns-in-Robust-clause-made
returns-in-Robust-clause-made c =
    made_by_name Robust (with_seed c.args.plan.now c.args.seed) c.args.network.now c.args.series.now c.in_ok-set.set (λ p. p.routing.routes) (λ p. refl)
    c.in-Robust.is c.in_ok-set.ensures c.publish_robust.result c.publish_robust.ensures.made
