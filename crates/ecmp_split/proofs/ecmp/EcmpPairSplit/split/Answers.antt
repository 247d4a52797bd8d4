use Rattle.std.proofs.Common.{ℕ, List, Option, Vec, Global, slice_index, arith, sym, subst}
use Rattle.std.specs.Prelude.{IfSome}
use Rattle.te_model.specs.declared.units.TheConstants.{SHARE_UNIT}
use Rattle.routing.specs.Decomposition.{IsAcyclicFlow}
use Rattle.shortest_path.proofs.Sound.{sound}
use Rattle.ecmp_split.specs.Equal.{IsEqualSplit}
use Rattle.ecmp_split.proofs.ecmp.EcmpPairSplit.split.Goals as goal

pub decompose-requires-clause-flow : goal.decompose-requires-clause-flow
decompose-requires-clause-flow c =
    let net = c.args.net.now in
    let s = c.args.pair.src in
    let t = c.args.pair.dst in
    subst (λ (l : List ℕ). IsAcyclicFlow net (slice_index l) SHARE_UNIT s t) (sym c.deref.ensures.value)
    (subst (λ (o : Option (Vec ℕ Global)). IfSome o (λ f. IsAcyclicFlow net (slice_index f.items) SHARE_UNIT s t)) c.in-Some.is c.in_ok-flow.ensures.flow)

pub returns-in_ok-paths-in-Some-clause-some : goal.returns-in_ok-paths-in-Some-clause-some
returns-in_ok-paths-in-Some-clause-some c =
    let net = c.args.net.now in
    let s = c.args.pair.src in
    let t = c.args.pair.dst in
    let made = c.in_ok-paths-in-Some.ensures in
    let equal = subst (λ (l : List ℕ). IsEqualSplit net s t (slice_index l)) (sym c.deref.ensures.value)
    (subst (λ (o : Option (Vec ℕ Global)). IfSome o (λ f. IsEqualSplit net s t (slice_index f.items))) c.in-Some.is c.in_ok-flow.ensures.split)
    in
    record {
      split = made.split;
      few = omega (arith, made.few, (sound net c.requires.network).few_links);
      by_rule = (slice_index c.deref.result.now, equal, made.taken);
    }
