use Rattle.std.proofs.Common.{◌≡◌, length, map, sum, slice_index, arith, ap, ◌∙◌}
use Rattle.std.proofs.lemmas.List.{get_or-map, get_or_default, length-map}
use Rattle.flow_sim.specs.Serving.{flow_at, flow_served, link_serves, served_by}
use Rattle.flow_sim.proofs.ServeLaws.{serves_length}
use Rattle.flow_sim.proofs.TableLaws.{written}
use Rattle.flow_sim.proofs.serve.serve_link.Goals as goal

pub book-requires-clause-lengths : goal.book-requires-clause-lengths
book-requires-clause-lengths c =
    let queue = c.args.queue.now in
    let u = slice_index c.args.state.now.units.items in
    let arrived : c.as_slice-2.result.now ≡ map u queue =
    c.as_slice-2.ensures.value ∙ (c.in_ok-arrivals.ensures ∙ ap (λ xs. map (slice_index xs) queue) c.as_slice.ensures.value) in
    ap length c.as_slice-4.ensures.value
    ∙ (ap length c.in_ok-served.ensures.shares
    ∙ (serves_length c.args.failed c.index.result.now c.as_slice-2.result.now ∙ (ap length arrived ∙ length-map queue u)))

pub book-requires-clause-within : goal.book-requires-clause-within
book-requires-clause-within c = λ i inside.
    let queue = c.args.queue.now in
    let u = slice_index c.args.state.now.units.items in
    let arrived : c.as_slice-2.result.now ≡ map u queue =
    c.as_slice-2.ensures.value ∙ (c.in_ok-arrivals.ensures ∙ ap (λ xs. map (slice_index xs) queue) c.as_slice.ensures.value) in
    omega (
      arith,
      ap (λ xs. slice_index xs i) c.as_slice-4.ensures.value,
      c.in_ok-served.ensures.within i (omega (arith, inside, ap length arrived, length-map queue u)),
      ap (λ xs. slice_index xs i) arrived,
      get_or-map u queue i 0 0 inside,
    )

pub returns-clause-served : goal.returns-clause-served
returns-clause-served c =
    let queue = c.args.queue.now in
    let state = c.args.state.now in
    let failed = c.args.failed in
    let e = c.args.link in
    let left = state.left.items in
    let arrived : c.as_slice-2.result.now ≡ map (slice_index state.units.items) queue =
    c.as_slice-2.ensures.value ∙ (c.in_ok-arrivals.ensures ∙ ap (λ xs. map (slice_index xs) queue) c.as_slice.ensures.value) in
    let left_is : c.index.result.now ≡ slice_index left e =
    c.index.ensures ∙ get_or_default left e c.index.result.now 0 c.requires.link in
    let shares : c.in_ok-served.served.items ≡ served_by failed e queue state =
    c.in_ok-served.ensures.shares
    ∙ (ap (λ x. link_serves failed x c.as_slice-2.result.now) left_is ∙ ap (link_serves failed (slice_index left e)) arrived) in
    let whole = written c.take_off.new.left left state.left.len
    (omega (arith, c.take_off.auto.left, ap length c.deref_mut.ensures.value, state.left.ok.0)) in
    let after : c.book.new.state.left.items ≡ c.take_off.new.left = c.book.ensures.left ∙ whole in
    record {
      served = λ i inside.
          c.book.ensures.served i inside
          ∙ ap (flow_served failed (flow_at state (slice_index queue i)))
          (ap (λ xs. slice_index xs i) (c.as_slice-4.ensures.value ∙ shares));
      left = omega (
        arith,
        ap (λ xs. slice_index xs e) after,
        c.take_off.ensures.taken,
        ap (λ xs. slice_index xs e) c.deref_mut.ensures.value,
        c.total_of.ensures,
        ap sum (c.as_slice-3.ensures.value ∙ shares),
      );
    }

pub book-requires-clause-room : goal.book-requires-clause-room
book-requires-clause-room c = c.requires.room

pub returns-clause-others : goal.returns-clause-others
returns-clause-others c = c.book.ensures.others
