use Rattle.std.proofs.Common.{not, rules, tests}
use Rattle.std.proofs.lemmas.Iterator.{YieldsList-from_map, YieldsList-from_slice, items_from_collect}
use Rattle.local_recovery.proofs.marks.open_links.Goals as goal

pub returns : goal.returns
returns c =
    rw c.in_ok-list.was at
    (items_from_collect _ c.collect.ensures.ran
    (YieldsList-from_map _ not (YieldsList-from_slice c.args.failed.now cc) c.map.ensures.closure (λ x r q k. search (rules, tests))))
