use Rattle.std.proofs.Common.{ℕ, List, sym, subst}
use Rattle.valiant_mix.specs.Legs.{IsLegOrNone}
use Rattle.valiant_mix.specs.Valiant.{IsLeg}
use Rattle.valiant_mix.proofs.Splits.{leg_inside}
use Rattle.valiant_mix.proofs.detours.detour.Goals as goal

pub returns-in-None : goal.returns-in-None
returns-in-None c =
    let net = c.args.net.now in
    let s = c.args.src in
    let m = c.args.middle in
    let none = subst (IsLegOrNone net s m) c.in-None.is
    (leg_inside net s m c.args.legs.now c.index-legs-middle.result c.as_slice.result.now c.index-as_slice-src.result c.requires.legs c.requires.middle c.requires.src
    c.as_slice.ensures c.index-as_slice-src.is)
    in
    λ path (there, on, first, second, cut). none there first

pub returns-in-None-as_slice : goal.returns-in-None-as_slice
returns-in-None-as_slice c =
    let net = c.args.net.now in
    let m = c.args.middle in
    let t = c.args.dst in
    let none = subst (IsLegOrNone net m t) c.in-None-as_slice.is
    (leg_inside net m t c.args.legs.now c.index-legs-dst.result c.as_slice-in-Some.result.now c.index-as_slice-middle.result c.requires.legs c.requires.dst c.requires.middle
    c.as_slice-in-Some.ensures c.index-as_slice-middle.is)
    in
    λ path (there, on, first, second, cut). none on second

pub join_legs-requires : goal.join_legs-requires
join_legs-requires c =
    let net = c.args.net.now in
    let s = c.args.src in
    let m = c.args.middle in
    let t = c.args.dst in
    let first : IsLeg net s m c.in-Some.there.links = subst (IsLegOrNone net s m) c.in-Some.is
    (leg_inside net s m c.args.legs.now c.index-legs-middle.result c.as_slice.result.now c.index-as_slice-src.result c.requires.legs c.requires.middle c.requires.src
    c.as_slice.ensures c.index-as_slice-src.is)
    in
    let second : IsLeg net m t c.in-Some-as_slice.on.links = subst (IsLegOrNone net m t) c.in-Some-as_slice.is
    (leg_inside net m t c.args.legs.now c.index-legs-dst.result c.as_slice-in-Some.result.now c.index-as_slice-middle.result c.requires.legs c.requires.dst c.requires.middle
    c.as_slice-in-Some.ensures c.index-as_slice-middle.is)
    in (
      m,
      t,
      subst (λ (l : List ℕ). IsLeg net s m l) (sym c.as_slice-in-Some-as_slice.ensures) first,
      subst (λ (l : List ℕ). IsLeg net m t l) (sym c.as_slice-in-Some-as_slice-2.ensures) second,
    )

pub returns-in_ok-path-in-Some-as_slice : goal.returns-in_ok-path-in-Some-as_slice
returns-in_ok-path-in-Some-as_slice c =
    let net = c.args.net.now in
    let s = c.args.src in
    let m = c.args.middle in
    let t = c.args.dst in
    let there = c.as_slice-in-Some-as_slice.result.now in
    let on = c.as_slice-in-Some-as_slice-2.result.now in
    let first : IsLeg net s m c.in-Some.there.links = subst (IsLegOrNone net s m) c.in-Some.is
    (leg_inside net s m c.args.legs.now c.index-legs-middle.result c.as_slice.result.now c.index-as_slice-src.result c.requires.legs c.requires.middle c.requires.src
    c.as_slice.ensures c.index-as_slice-src.is)
    in
    let second : IsLeg net m t c.in-Some-as_slice.on.links = subst (IsLegOrNone net m t) c.in-Some-as_slice.is
    (leg_inside net m t c.args.legs.now c.index-legs-dst.result c.as_slice-in-Some.result.now c.index-as_slice-middle.result c.requires.legs c.requires.dst c.requires.middle
    c.as_slice-in-Some.ensures c.index-as_slice-middle.is)
    in (
      there,
      on,
      subst (λ (l : List ℕ). IsLeg net s m l) (sym c.as_slice-in-Some-as_slice.ensures) first,
      subst (λ (l : List ℕ). IsLeg net m t l) (sym c.as_slice-in-Some-as_slice-2.ensures) second,
      c.in_ok-path-in-Some-as_slice.ensures,
    )
