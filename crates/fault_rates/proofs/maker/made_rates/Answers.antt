use Rattle.std.proofs.Common.{◌≡◌, ℕ, ◌*◌, ◌<◌, ◌≤◌, [], List, length, min, replicate, slice_index, arith, ap, refl, subst}
use Rattle.std.specs.Prelude.{slice_index_or}
use Rattle.te_model.specs.Path.{routes_at}
use Rattle.fault_rates.specs.Making.{AreFull, AreValues, cap_by}
use Rattle.fault_rates.proofs.Making.{caps_small, made_of_parts, made_protection}
use Rattle.fault_rates.proofs.maker.made_rates.Goals as goal

pub even_allocations-requires-clause-small : goal.even_allocations-requires-clause-small
even_allocations-requires-clause-small c = λ p p_in.
    let demands = c.args.demands.now in
    let are_caps = subst (λ (l : List ℕ). AreValues (length l) (λ p. cap_by (slice_index demands p) (slice_index l p)) c.in_ok-caps.caps.items) c.deref.ensures.value c.in_ok-caps.ensures in
    let small = caps_small c.args.net.now c.args.routes.now demands c.args.failures c.in_ok-left.left.items c.in_ok-caps.caps.items c.requires.demands c.in_ok-left.ensures are_caps p p_in in
    let read = ap (λ (l : List ℕ). slice_index l p) c.deref-2.ensures.value in
    omega (arith, small, read)

pub all_grants-requires-clause-small : goal.all_grants-requires-clause-small
all_grants-requires-clause-small c = λ p below.
    let demands = c.args.demands.now in
    let lent = ap (λ (l : List ℕ). length l) c.deref-3.ensures.value in
    let count = c.in_ok-left.ensures.0 in
    let p_in : p < length c.args.routes.now = omega (arith, below, lent, count) in
    let are_caps = subst (λ (l : List ℕ). AreValues (length l) (λ p. cap_by (slice_index demands p) (slice_index l p)) c.in_ok-caps.caps.items) c.deref.ensures.value c.in_ok-caps.ensures in
    let small = caps_small c.args.net.now c.args.routes.now demands c.args.failures c.in_ok-left.left.items c.in_ok-caps.caps.items c.requires.demands c.in_ok-left.ensures are_caps p p_in in
    let read_caps = ap (λ (l : List ℕ). slice_index l p) c.deref-2.ensures.value in
    let read = ap (λ (l : List ℕ). slice_index l p) c.deref-4.ensures.value in
    omega (arith, small, read_caps, read, c.in_ok-even.ensures.within p p_in)

pub returns : goal.returns
returns c =
    let net = c.args.net.now in
    let routes = c.args.routes.now in
    let demands = c.args.demands.now in
    let left = c.in_ok-left.left.items in
    let caps = c.in_ok-caps.caps.items in
    let even = c.in_ok-even.even.items in
    let are_caps = subst (λ (l : List ℕ). AreValues (length l) (λ p. cap_by (slice_index demands p) (slice_index l p)) caps) c.deref.ensures.value c.in_ok-caps.ensures in
    let within = subst (λ (l : List ℕ). (p : ℕ) → p < length routes → slice_index even p ≤ slice_index l p) c.deref-2.ensures.value c.in_ok-even.ensures.within in
    let full = subst (λ (l : List ℕ). AreFull net routes (slice_index l) (slice_index even) (length routes)) c.deref-2.ensures.value c.in_ok-even.ensures.full in
    let grants =
    subst (λ (l : List ℕ). AreValues (length l) (λ p. min (slice_index demands p) (slice_index l p * slice_index even p)) c.in_ok-grant.grant) c.deref-3.ensures.value
    (subst (λ (l : List ℕ). AreValues (length c.deref-3.result.now) (λ p. min (slice_index demands p) (slice_index c.deref-3.result.now p * slice_index l p)) c.in_ok-grant.grant)
    c.deref-4.ensures.value c.in_ok-grant.ensures)
    in
    let each =
    subst (λ (l : List ℕ). (p : ℕ) → p < length routes → slice_index_or c.in_ok-allocation.allocation p [] ≡ replicate (length (routes_at routes p).paths) (slice_index l p))
    c.deref-5.ensures.value c.in_ok-allocation.ensures.each
    in
    made_protection net routes demands c.args.failures (slice_index even) (record { failures = c.args.failures; grant = c.in_ok-grant.grant; allocation = c.in_ok-allocation.allocation })
    (made_of_parts net routes demands c.args.failures left caps even (record { failures = c.args.failures; grant = c.in_ok-grant.grant; allocation = c.in_ok-allocation.allocation })
    c.in_ok-left.ensures are_caps within c.in_ok-even.ensures.fits full refl grants c.in_ok-allocation.ensures.count each)
    c.requires.demands c.requires.failures
