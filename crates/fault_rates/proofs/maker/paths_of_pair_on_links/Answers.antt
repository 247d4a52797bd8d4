use Rattle.std.proofs.Common.{List, length, arith, ap}
use Rattle.te_model.specs.declared.route.PathShare.{PathShare}
use Rattle.te_model.specs.Path.{has_number}
use Rattle.te_model.proofs.Counts.{count_below-bound}
use Rattle.fault_rates.specs.Plan.{links_of}
use Rattle.fault_rates.proofs.maker.paths_of_pair_on_links.Goals as goal

pub returns-clause-small : goal.returns-clause-small
returns-clause-small c = λ e.
    omega (
      arith,
      c.paths_on_links.ensures.each e,
      count_below-bound (length c.paths_of.result.now) (λ i. has_number (links_of c.paths_of.result.now i) e),
      ap (λ (ps : List PathShare). length ps) c.paths_of.ensures,
      c.requires.can.few c.args.pair c.requires.pair,
    )
