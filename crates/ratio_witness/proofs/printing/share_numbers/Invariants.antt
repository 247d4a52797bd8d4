use Rattle.std.proofs.Common.{◌≡◌, ◌∷◌, length, take}
use Rattle.ratio_witness.proofs.printing.share_numbers.Given as goal

abbrev pub invariant-loop-link : goal.invariant-loop-link
invariant-loop-link l = l.numbers.items ≡ l.path.weight ∷ length l.links ∷ take l.link-index l.links
