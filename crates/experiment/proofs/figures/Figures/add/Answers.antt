use Rattle.std.proofs.Common.{arith, refl}
use Rattle.experiment.proofs.figures.Figures.add.Goals as goal

pub returns-clause-small : goal.returns-clause-small
returns-clause-small c = λ bound small. record {
  offered = omega (arith, small.offered, c.requires.small.offered);
  delivered = omega (arith, small.delivered, c.requires.small.delivered);
  lost_full = omega (arith, small.lost_full, c.requires.small.lost_full);
  lost_failed = omega (arith, small.lost_failed, c.requires.small.lost_failed);
  lost_no_path = omega (arith, small.lost_no_path, c.requires.small.lost_no_path);
}

pub returns-clause-total : goal.returns-clause-total
returns-clause-total c = rw (c.max-self-2.ensures, c.max-self.ensures) refl
