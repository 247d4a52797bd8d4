use Rattle.std.proofs.Common.{◌≡◌, ◌++◌, ◌∷◌, take}
use Rattle.std.specs.List.{flat_map}
use Rattle.cert_text.proofs.printing.spaced_all.Given as goal

abbrev pub invariant-loop-n : goal.invariant-loop-n
invariant-loop-n g l = l.out.items ≡ l.fn.out.items ++ flat_map (λ n. 32 ∷ g.I.Integer.text n) (take l.n-index l.list)
