use Rattle.std.proofs.Common.{◌≡◌, ◌^◌, ◌≤◌, All, length, map, take}
use Rattle.semi_oblivious.specs.Lengths.{square_of}
use Rattle.semi_oblivious.proofs.usage.squares_of.Given as goal

abbrev pub invariant-loop-x : goal.invariant-loop-x
invariant-loop-x l =
    (length l.squares.items ≡ l.x-index) × All (λ x. x ≤ 2 ^ 14) l.squares.items × (l.squares.items ≡ map square_of (take l.x-index l.lengths))
