use Rattle.racke_mix.proofs.Mixing.{MixSoFar}
use Rattle.racke_mix.proofs.rounds.mix_rounds.Given as goal

abbrev pub invariant-loop-tree : goal.invariant-loop-tree
invariant-loop-tree l = MixSoFar l.net l.seed l._tree l.rng l.multipliers.items l.rounds.items
