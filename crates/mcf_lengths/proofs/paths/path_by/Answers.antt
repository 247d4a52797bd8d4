use Rattle.std.proofs.Common.{ℕ, List, Some, None, Vec, Global, sym, subst}
use Rattle.std.specs.Prelude.{MatchOption, Option}
use Rattle.shortest_path.specs.Least.{IsLeastWalk, LeadsTo}
use Rattle.shortest_path.specs.Links.{every_link}
use Rattle.shortest_path.specs.Paths.{IsLeastPath}
use Rattle.scheme.proofs.LeastSplit.{no_least}
use Rattle.mcf_lengths.proofs.LeastPaths.{least_of_walk}
use Rattle.mcf_lengths.proofs.paths.path_by.Goals as goal

pub returns-in-Some : goal.returns-in-Some
returns-in-Some c = λ lengths are.
    let net = c.args.net.now in
    let ways = c.args.ways.now in
    let pair = c.args.pair in
    let leads = subst (λ (l : List (Option ℕ)). LeadsTo net lengths (every_link net) pair.dst l c.as_slice-2.result.now) (sym c.as_slice.ensures)
    (subst (λ (l : List (Option ℕ)). LeadsTo net lengths (every_link net) pair.dst ways.sums l) (sym c.as_slice-2.ensures) are)
    in
    let walk : IsLeastWalk net lengths (every_link net) pair.src pair.dst (Some c.in-Some.links.items) =
    subst (λ o. MatchOption o (IsLeastWalk net lengths (every_link net) pair.src pair.dst None)
    (λ (w : Vec ℕ Global). IsLeastWalk net lengths (every_link net) pair.src pair.dst (Some w.items))) c.in-Some.is (c.in_ok-walk.ensures lengths (every_link net) leads)
    in
    subst (λ l. IsLeastPath net lengths pair.src pair.dst (Some l)) (sym c.new.ensures)
    (least_of_walk net lengths pair.src pair.dst ways (Some c.in-Some.links.items) are walk)

pub returns-in-None : goal.returns-in-None
returns-in-None c = λ lengths are.
    let net = c.args.net.now in
    let ways = c.args.ways.now in
    let pair = c.args.pair in
    let leads = subst (λ (l : List (Option ℕ)). LeadsTo net lengths (every_link net) pair.dst l c.as_slice-2.result.now) (sym c.as_slice.ensures)
    (subst (λ (l : List (Option ℕ)). LeadsTo net lengths (every_link net) pair.dst ways.sums l) (sym c.as_slice-2.ensures) are)
    in
    let walk : IsLeastWalk net lengths (every_link net) pair.src pair.dst None =
    subst (λ o. MatchOption o (IsLeastWalk net lengths (every_link net) pair.src pair.dst None)
    (λ (w : Vec ℕ Global). IsLeastWalk net lengths (every_link net) pair.src pair.dst (Some w.items))) c.in-None.is (c.in_ok-walk.ensures lengths (every_link net) leads)
    in
    absurd (no_least net lengths pair.src pair.dst (least_of_walk net lengths pair.src pair.dst ways None are walk) c.requires.reached)
