use Rattle.std.proofs.Common.{◌≡◌, map, take}
use Rattle.sample_networks.specs.Literals.{share_of}
use Rattle.sample_networks.proofs.literals.weighted_paths.Given as goal

abbrev pub invariant-loop-links : goal.invariant-loop-links
invariant-loop-links l = l.shares.items ≡ map (λ p. share_of p.0.now p.1) (take l.links-index l.paths)
