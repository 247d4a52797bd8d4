use Rattle.std.proofs.Common.{◌≡◌, ℕ, List, [], ◌∷◌, Some, None, Vec, Global, sym, subst, rules}
use Rattle.std.specs.Prelude.{MatchOption}
use Rattle.te_model.specs.declared.route.PathShare.{PathShare}
use Rattle.te_model.specs.declared.units.TheConstants.{SHARE_UNIT}
use Rattle.shortest_path.specs.Costs.{costs_of}
use Rattle.shortest_path.specs.Paths.{IsLeastPath}
use Rattle.shortest_path.specs.Ways.{IsLeastWay}
use Rattle.shortest_path.proofs.Sound.{sound}
use Rattle.scheme.specs.Fixed.{IsSplitBy}
use Rattle.scheme.specs.Least.{IsLeastSplit}
use Rattle.scheme.proofs.LeastSplit.{least_split, least_way_path, no_least}
use Rattle.scheme.proofs.spf.SpfPairSplit.split.Goals as goal

pub way_from-requires-clause-sound : goal.way_from-requires-clause-sound
way_from-requires-clause-sound c = sound c.args.net.now c.requires.network

pub returns-in-None-clause-none : goal.returns-in-None-clause-none
returns-in-None-clause-none c =
    let net = c.args.net.now in
    let ways = c.args.toward.now in
    let s = c.args.pair.src in
    let way = subst (λ o. MatchOption o (IsLeastWay net ways s None) (λ (w : Vec ℕ Global). IsLeastWay net ways s (Some w.items))) c.in-None.is c.in_ok-way.ensures in
    no_least net (costs_of net) s c.args.pair.dst (least_way_path net ways s c.args.pair.dst None c.requires.toward.0 c.requires.toward.1 way)

pub returns-in_ok-whole-in-Some-clause-some : goal.returns-in_ok-whole-in-Some-clause-some
returns-in_ok-whole-in-Some-clause-some c =
    let net = c.args.net.now in
    let ways = c.args.toward.now in
    let s = c.args.pair.src in
    let t = c.args.pair.dst in
    let way = subst (λ o. MatchOption o (IsLeastWay net ways s None) (λ (w : Vec ℕ Global). IsLeastWay net ways s (Some w.items))) c.in-Some.is c.in_ok-way.ensures in
    let least : IsLeastPath net (costs_of net) s t (Some c.new.result) =
    subst (λ l. IsLeastPath net (costs_of net) s t (Some l)) (sym c.new.ensures)
    (least_way_path net ways s t (Some c.in-Some.way.items) c.requires.toward.0 c.requires.toward.1 way)
    in
    let paths : c.in_ok-whole-in-Some.whole.items ≡ (record { links = c.new.result; weight = SHARE_UNIT }) ∷ [] = search rules in
    subst (λ (ps : List PathShare). IsSplitBy IsLeastSplit 1 net (record { pair = c.args.pair; paths = ps })) (sym paths) (least_split net c.args.pair c.new.result least)
