use Rattle.std.proofs.Common.{◌≡◌, []}
use Rattle.std.specs.Prelude.{replicate}
use Rattle.witness_search.proofs.attacks.no_paths.Given as goal

abbrev pub invariant-loop : goal.invariant-loop
invariant-loop l = l.rival.items ≡ replicate l.counter []
