use Rattle.std.proofs.Common.{◌≡◌, ◌++◌, ◌∷◌, [], take}
use Rattle.std.specs.List.{flat_map}
use Rattle.number_tables.specs.Table.{line_text}
use Rattle.number_tables.proofs.writer.lines.Given as goal

abbrev pub invariant-loop-next : goal.invariant-loop-next
invariant-loop-next l = l.out.items ≡ l.fn.out.items ++ flat_map (λ k. line_text k ++ 10 ∷ []) (take l.next-index l.list)
