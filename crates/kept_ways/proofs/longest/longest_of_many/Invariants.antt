use Rattle.kept_ways.proofs.Found.{IsFoundIn}
use Rattle.kept_ways.proofs.longest.longest_of_many.Given as goal

abbrev pub invariant-loop-i : goal.invariant-loop-i
invariant-loop-i l = IsFoundIn l.ways l.lengths l.place l.i l.found.count l.found.longest l.found.length
