use Rattle.std.proofs.Common.{List, Option, ℕ, subst}
use Rattle.ecmp_split.specs.Next.{AreNextLinks}
use Rattle.ecmp_split.proofs.HopsMade.{hops_made}
use Rattle.ecmp_split.proofs.Sharing.{links_moved}
use Rattle.ecmp_split.proofs.hops.next_hops.Goals as goal

pub returns-clause-hops : goal.returns-clause-hops
returns-clause-hops c =
    let net = c.args.net.now in
    let costs = c.in_ok-costs.costs.items in
    let list = c.in_ok-list.field-0.list.items in
    let counts = c.in_ok-list.field-0.counts.items in
    let links = c.in_ok-links.links.items in
    let listed = subst (λ (l : List (Option ℕ)). AreNextLinks net l list counts) c.deref.ensures.value c.in_ok-list.ensures in
    hops_made net c.args.dst costs c.new.result links c.new-2.result counts c.new-3.result c.new.ensures c.new-2.ensures c.new-3.ensures
    c.in_ok-costs.ensures.costs (links_moved net costs list links counts c.in_ok-links.ensures.same listed) c.in_ok-links.ensures.order
