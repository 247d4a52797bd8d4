use Rattle.std.proofs.Common.{◌≡◌, true, nat_lt, vec_len, sym, arith}
use Rattle.std.proofs.lemmas.Grind.{common_steps}
use Rattle.topology.proofs.RowLemmas.{closed-empty, closed-done, empty-links, some-links}
use Rattle.topology.proofs.draft.Draft.close.Goals as goal

pub returns-then-is_empty-clause-refused : goal.returns-then-is_empty-clause-refused
returns-then-is_empty-clause-refused c =
    λ _. closed-empty _ (let n : vec_len c.self.inside.links ≡ 0 = empty-links _ (sym c.if-is_empty.ensures) in grind (arith, common_steps))

pub returns-clause-network : goal.returns-clause-network
returns-clause-network c =
    rw (c.in_ok-into_names.ensures, c.new.ensures, ← c.self.view_is)
    (closed-done _ (let n : nat_lt 0 (vec_len c.self.inside.links) ≡ true = some-links _ (sym c.if-is_empty.ensures) in grind (arith, common_steps)))
