use Rattle.std.proofs.Common.{◌≡◌, ◌^◌, ◌≤◌, All, length}
use Rattle.te_model.specs.Network.{link_count}
use Rattle.semi_oblivious.specs.Lengths.{lengths_by_usage, usage_lengths}
use Rattle.semi_oblivious.proofs.usage.usage_lengths.Given as goal

abbrev pub invariant-loop : goal.invariant-loop
invariant-loop l =
    (length l.lengths.items ≡ link_count l.net)
    × All (λ x. x ≤ 2 ^ 14) l.lengths.items
    × All (λ x. length x ≡ link_count l.net) l.lists.items
    × All (λ x. All (λ y. y ≤ 2 ^ 28) x) l.lists.items
    × (l.lengths.items ≡ lengths_by_usage l.usage.items l.counter)
    × (l.lists.items ≡ usage_lengths l.counter l.usage.items)
