use Rattle.std.proofs.Common.{◌≡◌, ◌++◌, ◌∷◌, [], ◌-◌, ℕ, List, length, slice_index, arith, ap, sym, ◌∙◌, subst, rules}
use Rattle.te_model.specs.declared.units.TheConstants.{SHARE_UNIT}
use Rattle.routing.specs.Decomposition.{IsAcyclicFlow, IsTakenOff}
use Rattle.te_model.proofs.WellFormed.{links_join}
use Rattle.te_model.proofs.Lists.{written_whole}
use Rattle.routing.proofs.Decomposing.{DecomposedSoFar, decomposed_more, decomposed, taken-le, taken-some, decomposition_shares, decomposition_splits, decomposition_few}
use Rattle.routing.proofs.decomposition.decompose.Goals as goal

pub loop-amount-init : goal.loop-amount-init
loop-amount-init c =
    let net = c.args.net.now in
    let flow = c.args.flow.now in
    let copied : c.in_ok-left.left.items ≡ c.args.flow.now = search rules in
    subst (λ (l : List ℕ). DecomposedSoFar net c.args.pair.src c.args.pair.dst (slice_index flow) SHARE_UNIT (slice_index l) (length l) c.new-paths.result.items) (sym copied)
    (subst (DecomposedSoFar net c.args.pair.src c.args.pair.dst (slice_index flow) SHARE_UNIT (slice_index flow) (length flow)) (sym c.new-paths.ensures.items)
    (record { size = c.requires.count; is = c.requires.flow; extends = λ more rest. rest }))

pub take_path-requires-clause-count : goal.take_path-requires-clause-count
take_path-requires-clause-count c = ap (λ (l : List ℕ). length l) c.deref_mut.ensures.value ∙ c.loop-amount.invariant.size

pub take_path-requires-clause-flow : goal.take_path-requires-clause-flow
take_path-requires-clause-flow c = (
  c.loop-amount.amount,
  c.loop-amount-test.true,
  subst (λ (l : List ℕ). IsAcyclicFlow c.args.net.now (slice_index l) c.loop-amount.amount c.args.pair.src c.args.pair.dst) (sym c.deref_mut.ensures.value) c.loop-amount.invariant.is,
)

pub overflow_sub-amount : goal.overflow_sub-amount
overflow_sub-amount c =
    let net = c.args.net.now in
    let off = subst (λ (l : List ℕ). IsTakenOff net c.args.pair.src c.args.pair.dst (slice_index l) c.in_ok-path.path (slice_index c.take_path.new.left)) c.deref_mut.ensures.value c.in_ok-path.ensures in
    taken-le net (slice_index c.loop-amount.left.items) (slice_index c.take_path.new.left) c.loop-amount.amount c.args.pair.src c.args.pair.dst c.in_ok-path.path
    (links_join net c.requires.network) c.requires.src c.requires.dst c.requires.apart c.loop-amount.invariant.is off

pub loop-amount-preserved : goal.loop-amount-preserved
loop-amount-preserved c =
    let net = c.args.net.now in
    let s = c.args.pair.src in
    let t = c.args.pair.dst in
    let flow = slice_index c.args.flow.now in
    let left = c.loop-amount.left.items in
    let new = c.take_path.new.left in
    let off = subst (λ (l : List ℕ). IsTakenOff net s t (slice_index l) c.in_ok-path.path (slice_index new)) c.deref_mut.ensures.value c.in_ok-path.ensures in
    let fits = taken-le net (slice_index left) (slice_index new) c.loop-amount.amount s t c.in_ok-path.path (links_join net c.requires.network) c.requires.src c.requires.dst
    c.requires.apart c.loop-amount.invariant.is off
    in
    let pushed : c.push.new.self.items ≡ c.loop-amount.paths.items ++ c.in_ok-path.path ∷ [] = search rules in
    let size : length new ≡ length left = omega (arith, ap (λ (l : List ℕ). length l) c.deref_mut.ensures.value, c.take_path.auto.left) in
    let whole = written_whole c.loop-amount.left.len new left size c.loop-amount.left.ok.0 in
    rw whole
    (subst (DecomposedSoFar net s t flow (c.loop-amount.amount - c.in_ok-path.path.weight) (slice_index new) (length new)) (sym pushed)
    (decomposed_more net s t flow c.loop-amount.amount (slice_index left) (slice_index new) (length left) (length new) c.loop-amount.paths.items c.in_ok-path.path
    c.loop-amount.invariant size fits off))

pub loop-amount-smaller : goal.loop-amount-smaller
loop-amount-smaller c =
    let some = taken-some c.args.net.now c.args.pair.src c.args.pair.dst (slice_index c.deref_mut.result.now) (slice_index c.take_path.new.left) c.in_ok-path.path c.in_ok-path.ensures in
    omega (arith, some, c.loop-amount-test.true)

pub returns-clause-taken : goal.returns-clause-taken
returns-clause-taken c =
    let net = c.args.net.now in
    decomposed net c.args.pair.src c.args.pair.dst (slice_index c.args.flow.now) c.loop-amount.amount (slice_index c.loop-amount.left.items) (length c.loop-amount.left.items)
    c.loop-amount.paths.items (links_join net c.requires.network) c.requires.src c.requires.dst c.loop-amount.invariant (omega (arith, c.loop-amount-test.false))

pub returns-clause-split : goal.returns-clause-split
returns-clause-split c =
    decomposition_splits c.args.net.now c.args.pair (slice_index c.args.flow.now) c.loop-amount.paths.items c.requires.src c.requires.apart c.requires.flow (returns-clause-taken c)

pub returns-clause-shares : goal.returns-clause-shares
returns-clause-shares c =
    decomposition_shares c.args.net.now c.args.pair.src c.args.pair.dst (slice_index c.args.flow.now) c.loop-amount.paths.items (returns-clause-taken c)

pub returns-clause-few : goal.returns-clause-few
returns-clause-few c =
    decomposition_few c.args.net.now c.args.pair.src c.args.pair.dst (slice_index c.args.flow.now) c.loop-amount.paths.items (returns-clause-taken c)
