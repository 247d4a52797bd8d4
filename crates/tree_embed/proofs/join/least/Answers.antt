use Rattle.std.proofs.Common.{◌≤◌, ℕ, Some, None, Vec, Global, arith, sym, subst}
use Rattle.std.specs.Prelude.{MatchOption}
use Rattle.std.proofs.lemmas.List.Elements.{All-get_or}
use Rattle.shortest_path.specs.Least.{IsLeastWalk}
use Rattle.shortest_path.specs.Links.{every_link}
use Rattle.shortest_path.specs.Paths.{IsLeastPath}
use Rattle.shortest_path.proofs.LeastSums.{least_path_of_walk, all_open}
use Rattle.tree_embed.proofs.LeastWays.{leads_read}
use Rattle.tree_embed.proofs.join.least.Goals as goal

pub walk_along-requires-clause-sound : goal.walk_along-requires-clause-sound
walk_along-requires-clause-sound c = c.requires.sound

pub walk_along-requires-clause-leads : goal.walk_along-requires-clause-leads
walk_along-requires-clause-leads c =
    let net = c.args.net.now in
    let sums = c.args.sums.now in
    let firsts = c.args.firsts.now in
    let t = c.args.dst in
    let lengths = c.requires.lead.0 in
    let lead = c.requires.lead.1 in (
      lengths,
      every_link net,
      leads_read net lengths sums firsts t c.index-sums-dst.result c.index-firsts-dst.result c.as_slice-to.result.now c.as_slice-along.result.now lead c.requires.dst
          c.index-sums-dst.is c.index-firsts-dst.is c.as_slice-to.ensures c.as_slice-along.ensures,
    )

pub returns-in-Some : goal.returns-in-Some
returns-in-Some c = λ lengths lead.
    let net = c.args.net.now in
    let sums = c.args.sums.now in
    let firsts = c.args.firsts.now in
    let s = c.args.src in
    let t = c.args.dst in
    let leads = leads_read net lengths sums firsts t c.index-sums-dst.result c.index-firsts-dst.result c.as_slice-to.result.now c.as_slice-along.result.now lead c.requires.dst
    c.index-sums-dst.is c.index-firsts-dst.is c.as_slice-to.ensures c.as_slice-along.ensures in
    let walk : IsLeastWalk net lengths (every_link net) s t (Some c.in-Some.walk.items) =
    subst (λ o. MatchOption o (IsLeastWalk net lengths (every_link net) s t None) (λ (w : Vec ℕ Global). IsLeastWalk net lengths (every_link net) s t (Some w.items)))
    c.in-Some.is (c.in_ok-walk.ensures lengths (every_link net) leads)
    in
    subst (λ l. IsLeastPath net lengths s t (Some l)) (sym c.new.ensures)
    (least_path_of_walk net lengths (every_link net) s t (Some c.in-Some.walk.items) (all_open net)
    (λ h below. All-get_or (λ l. 1 ≤ l) lengths h 0 (omega (arith, below, lead.count)) lead.positive) walk)

pub returns-in-None : goal.returns-in-None
returns-in-None c = λ lengths lead.
    let net = c.args.net.now in
    let sums = c.args.sums.now in
    let firsts = c.args.firsts.now in
    let s = c.args.src in
    let t = c.args.dst in
    let leads = leads_read net lengths sums firsts t c.index-sums-dst.result c.index-firsts-dst.result c.as_slice-to.result.now c.as_slice-along.result.now lead c.requires.dst
    c.index-sums-dst.is c.index-firsts-dst.is c.as_slice-to.ensures c.as_slice-along.ensures in
    let walk : IsLeastWalk net lengths (every_link net) s t None =
    subst (λ o. MatchOption o (IsLeastWalk net lengths (every_link net) s t None) (λ (w : Vec ℕ Global). IsLeastWalk net lengths (every_link net) s t (Some w.items)))
    c.in-None.is (c.in_ok-walk.ensures lengths (every_link net) leads)
    in
    least_path_of_walk net lengths (every_link net) s t None (all_open net)
    (λ h below. All-get_or (λ l. 1 ≤ l) lengths h 0 (omega (arith, below, lead.count)) lead.positive) walk
