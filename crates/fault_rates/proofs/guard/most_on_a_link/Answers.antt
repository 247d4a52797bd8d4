use Rattle.std.proofs.Common.{arith, length, slice_index}
use Rattle.te_model.specs.declared.limits.TheConstants.{FORMAT_2}
use Rattle.te_model.specs.Path.{has_number}
use Rattle.te_model.proofs.Counts.{count_below-bound}
use Rattle.te_model.proofs.Quotients.{greatest_below-least}
use Rattle.fault_rates.specs.Plan.{links_of}
use Rattle.fault_rates.proofs.Guards.{simple_within}
use Rattle.fault_rates.proofs.guard.most_on_a_link.Goals as goal

pub paths_on_links-counts-requires-clause-paths : goal.paths_on_links-counts-requires-clause-paths
paths_on_links-counts-requires-clause-paths c = simple_within c.args.links FORMAT_2.links c.args.paths.now c.requires.links c.requires.paths

pub returns-clause-small : goal.returns-clause-small
returns-clause-small c =
    let paths = c.args.paths.now in
    let few =
    greatest_below-least c.args.links (slice_index c.paths_on_links-counts.result) (length paths)
    (λ e below. omega (arith, c.paths_on_links-counts.ensures.each e, count_below-bound (length paths) (λ i. has_number (links_of paths i) e)))
    in
    omega (arith, c.greatest.ensures, few)
