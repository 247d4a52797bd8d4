use Rattle.fault_rates.proofs.Verdicts.{verdict_search}
use Rattle.fault_rates.proofs.verdict.fault_of.Goals as goal

pub returns : goal.returns
returns c =
    rw (c.or-2.ensures, c.or.ensures, c.first_overfull.ensures, c.first_unguarded.ensures, c.first_unwanted.ensures)
    (verdict_search c.args.net.now c.args.routes.now c.args.matrix.now.demand c.args.plan.now c.args.sums.now c.requires.can.shaped c.requires.sums)
