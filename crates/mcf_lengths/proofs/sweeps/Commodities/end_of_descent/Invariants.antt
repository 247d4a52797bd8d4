use Rattle.routing.specs.Routes.{HasFewPaths}
use Rattle.rate_sweeps.specs.Descents.{BothKeep, IsDescent}
use Rattle.rate_sweeps.specs.Sweeps.{IsDualState}
use Rattle.mcf_lengths.proofs.sweeps.Commodities.end_of_descent.Given as goal

abbrev pub invariant-loop : goal.invariant-loop
invariant-loop l =
    IsDescent l.self.net.now l.self.matrix.now.demand l.fn.start.routes l.descent
    × BothKeep (HasFewPaths 28) l.descent
    × IsDualState l.self.net.now l.state
