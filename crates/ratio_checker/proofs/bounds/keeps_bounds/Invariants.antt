use Rattle.std.proofs.Common.{◌≡◌, ◌*◌, ◌^◌, ◌≤◌}
use Rattle.te_model.specs.Demand.{lower_of, upper_of}
use Rattle.te_model.specs.Certificate.{plus_of, minus_of}
use Rattle.te_model.specs.Inequalities.{weigh}
use Rattle.ratio_checker.proofs.bounds.keeps_bounds.Given as goal

abbrev pub invariant-loop-p : goal.invariant-loop-p
invariant-loop-p l =
    (l.gain ≡ weigh l.p (upper_of l.set) (plus_of l.block)) × (l.loss ≡ weigh l.p (lower_of l.set) (minus_of l.block))
    × (l.gain ≤ l.p * 2 ^ 88) × (l.loss ≤ l.p * 2 ^ 88)
