use Rattle.std.proofs.Common.{◌∙◌, sym, slice_index}
use Rattle.witness_search.proofs.Choosing.{cannot_up_to, none_of_all}
use Rattle.witness_search.proofs.search.next_pair.Goals as goal

pub returns-else-can_come_before-clause-none : goal.returns-else-can_come_before-clause-none
returns-else-can_come_before-clause-none c =
    let limits = c.args.limits.now in
    let best = c.args.best.now in
    let p = c.greatest_place-p.result in
    none_of_all limits p best.place best.ratio c.greatest_place-p.ensures
    (cannot_up_to p best.place (slice_index limits p) best.ratio (sym c.can_come_before.ensures ∙ c.if-can_come_before.false))
