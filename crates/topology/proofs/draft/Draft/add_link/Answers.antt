use Rattle.std.proofs.Common.{◌∙◌, sym, arith}
use Rattle.topology.specs.Topology.{Entry}
use Rattle.topology.proofs.RowLemmas.{link-added, pushed}
use Rattle.topology.proofs.draft.Draft.add_link.Goals as goal

pub returns-clause-added : goal.returns-clause-added
returns-clause-added c =
    let link = c.args.link in
    let entry : Entry = record { source = link.source.now; target = link.target.now; capacity = link.capacity; cost = link.cost } in
    rw (← c.self.view_is)
    (link-added c.args.row _ entry c.number.new.self c.number-2.new.self _ _ c.push.new.self.items c.in_ok-tail.ensures.number c.in_ok-tail.ensures.names
    c.in_ok-head.ensures.number c.in_ok-head.ensures.names (pushed c.push.result _ _ _ (sym c.is_err.ensures.value ∙ c.if-is_err.false) c.push.ensures.items)
    (omega arith) (omega arith))
