use Rattle.std.proofs.Common.{List, ℕ, Option, Vec, Global, MatchOption, Some, None, sym, subst}
use Rattle.shortest_path.specs.Ways.{IsLeastWay}
use Rattle.valiant_mix.specs.Valiant.{IsLeg}
use Rattle.valiant_mix.proofs.LeastLegs.{leg_of_way, no_leg_of_way}
use Rattle.valiant_mix.proofs.legs.leg_from.Goals as goal

pub returns-in-Some : goal.returns-in-Some
returns-in-Some c =
    let net = c.args.net.now in
    let ways = c.args.ways.now in
    let s = c.args.src in
    let least : IsLeastWay net ways s (Some c.in-Some.way.items) =
    subst (λ (o : Option (Vec ℕ Global)). MatchOption o (IsLeastWay net ways s None) (λ v. IsLeastWay net ways s (Some v.items))) c.in-Some.is c.in_ok-way.ensures
    in
    subst (λ (l : List ℕ). IsLeg net s ways.dst l) (sym c.new-links.ensures) (leg_of_way net ways s c.in-Some.way.items c.requires.ways least)

pub returns-in-None : goal.returns-in-None
returns-in-None c =
    let net = c.args.net.now in
    let ways = c.args.ways.now in
    let s = c.args.src in
    no_leg_of_way net ways s
    (subst (λ (o : Option (Vec ℕ Global)). MatchOption o (IsLeastWay net ways s None) (λ v. IsLeastWay net ways s (Some v.items))) c.in-None.is c.in_ok-way.ensures)
