use Rattle.std.proofs.Common.{◌≡◌, map, take}
use Rattle.rate_sweeps.specs.Sweeps.{links_in}
use Rattle.mcf_lengths.specs.Rounds.{round_paths_of_pair}
use Rattle.mcf_lengths.proofs.split.paths_of_pair.Given as goal

abbrev pub invariant-loop-round : goal.invariant-loop-round
invariant-loop-round l = map links_in l.paths.items ≡ round_paths_of_pair (take l.round-index l.rounds) l.pair
