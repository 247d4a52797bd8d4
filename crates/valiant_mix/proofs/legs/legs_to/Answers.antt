use Rattle.std.proofs.Common.{◌≡◌, ◌+◌, List, length, arith, refl, ap, sym, subst}
use Rattle.te_model.specs.declared.name.Name.{Name}
use Rattle.te_model.specs.Network.{node_count}
use Rattle.valiant_mix.specs.Legs.{AreLegsTo}
use Rattle.valiant_mix.proofs.Splits.{legs_to_more}
use Rattle.valiant_mix.proofs.legs.legs_to.Goals as goal

pub loop-src-init : goal.loop-src-init
loop-src-init c =
    subst (AreLegsTo c.args.net.now c.args.ways.now.dst 0) (sym c.new-list.ensures.items) (record { count = refl; each = λ v below. absurd (omega (arith, below)) })

pub loop-src-preserved : goal.loop-src-preserved
loop-src-preserved c =
    let net = c.args.net.now in
    let t = c.args.ways.now.dst in
    let src = c.loop-src.src in
    subst (AreLegsTo net t (src + 1)) (sym c.in_ok-push.ensures.items) (legs_to_more net t src c.loop-src.list.items c.in_ok-leg.leg c.loop-src.invariant c.in_ok-leg.ensures)

pub returns : goal.returns
returns c =
    let net = c.args.net.now in
    let size = ap (λ (l : List Name). length l) c.as_slice-src-end.ensures in
    let every : c.loop-src.src ≡ node_count net = omega (arith, c.loop-src-test.false, c.loop-src.auto.src-end, size) in
    subst (AreLegsTo net c.args.ways.now.dst (node_count net)) (sym c.new.ensures)
    (subst (λ n. AreLegsTo net c.args.ways.now.dst n c.loop-src.list.items) every c.loop-src.invariant)
