use Rattle.std.proofs.Common.{◌≡◌, [], ◌∷◌, take}
use Rattle.std.specs.Prelude.{codes}
use Rattle.number_tables.specs.Due.{word_line}
use Rattle.fault_rates.specs.File.{pair_lines}
use Rattle.fault_rates.proofs.writer.rate_lines.Given as goal

abbrev pub invariant-loop-p : goal.invariant-loop-p
invariant-loop-p l =
    l.lines.items ≡ word_line (codes "failures") (l.plan.failures ∷ []) ∷ pair_lines (take l.p l.plan.grant) (take l.p l.plan.allocation)
