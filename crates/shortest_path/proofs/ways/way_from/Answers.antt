use Rattle.std.proofs.Common.{ℕ, List, Option, sym, subst}
use Rattle.shortest_path.specs.Least.{LeadsTo}
use Rattle.shortest_path.specs.Links.{every_link}
use Rattle.shortest_path.proofs.ways.way_from.Goals as goal

pub returns : goal.returns
returns c =
    let net = c.args.net.now in
    let ways = c.args.ways.now in
    let own : LeadsTo net ways.costs (every_link net) ways.dst ways.sums ways.firsts = record {
      count = c.requires.ways.costs.count;
      positive = c.requires.ways.costs.positive;
      sums_are = c.requires.ways.sums;
      firsts_are = c.requires.ways.firsts;
    }
    in
    let leads = subst (λ (l : List (Option ℕ)). LeadsTo net ways.costs (every_link net) ways.dst l c.as_slice-2.result.now) (sym c.as_slice.ensures)
    (subst (λ (l : List (Option ℕ)). LeadsTo net ways.costs (every_link net) ways.dst ways.sums l) (sym c.as_slice-2.ensures) own)
    in
    c.walk_along.ensures ways.costs (every_link net) leads
