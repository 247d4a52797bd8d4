use Rattle.mcf_lengths.proofs.Lengthening.{FlowSoFar}
use Rattle.mcf_lengths.proofs.rounds.make_rounds.Given as goal

abbrev pub invariant-loop-round : goal.invariant-loop-round
invariant-loop-round l = FlowSoFar l.net l.pairs.list l.matrix.demand l._round l.most l.multipliers.items l.rounds.items
