use Rattle.rate_sweeps.specs.Descents.{BothKeep, IsDescent}
use Rattle.rate_sweeps.specs.Sweeps.{IsDualState}
use Rattle.semi_oblivious.specs.Semi.{KeepsTo}
use Rattle.semi_oblivious.proofs.sweeps.end_of_descent.Given as goal

abbrev pub invariant-loop : goal.invariant-loop
invariant-loop l =
    IsDescent l.net l.matrix.demand l.fixed.routes l.descent
    × BothKeep (KeepsTo l.fixed.routes) l.descent
    × IsDualState l.net l.state
