use Rattle.std.proofs.Common.{◌≡◌, ◌≤◌, take}
use Rattle.std.specs.Prelude.{All, Any}
use Rattle.shortest_path.specs.Paths.{sum_along}
use Rattle.dual_bounds.proofs.given_paths.shortest.Given as goal

abbrev pub invariant-loop-path : goal.invariant-loop-path
invariant-loop-path l =
    Any (λ s. sum_along l.lengths s.links ≡ l.least) l.paths × All (λ s. l.least ≤ sum_along l.lengths s.links) (take l.path-index l.paths)
