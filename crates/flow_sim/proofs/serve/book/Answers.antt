use Rattle.std.proofs.Common.{◌≡◌, ℕ, ◌+◌, ◌-◌, Bool, true, false, length, slice_index, arith, ap, ◌∙◌}
use Rattle.flow_sim.specs.Serving.{Flow, flow_at, flow_served}
use Rattle.flow_sim.proofs.TableLaws.{written}
use Rattle.flow_sim.proofs.serve.book.Goals as goal

-- what a flow has and has lost on a failed link
lost_on_failed : (failed : Bool) (old : Flow) (share units lost : ℕ) → failed ≡ true → units ≡ share → lost ≡ old.lost_failed + (old.units - share) →
    ◌≡◌ {A = Flow} (record { units = units; lost_full = old.lost_full; lost_failed = lost }) (flow_served failed old share)
lost_on_failed true old share units lost is has missed = cc
lost_on_failed false old share units lost is has missed = cc

-- and on a full one
lost_on_full : (failed : Bool) (old : Flow) (share units lost : ℕ) → failed ≡ false → units ≡ share → lost ≡ old.lost_full + (old.units - share) →
    ◌≡◌ {A = Flow} (record { units = units; lost_full = lost; lost_failed = old.lost_failed }) (flow_served failed old share)
lost_on_full true old share units lost is has missed = cc
lost_on_full false old share units lost is has missed = cc

pub returns-then-failed-clause-served : goal.returns-then-failed-clause-served
returns-then-failed-clause-served c = λ i inside.
    let state = c.args.state.now in
    let flow = slice_index c.args.queue.now i in
    let share = slice_index c.args.served.now i in
    let units = written c.book_losses.new.units state.units.items state.units.len
    (omega (arith, c.book_losses.auto.units, ap length c.deref_mut.ensures.value, state.units.ok.0)) in
    let lost = written c.book_losses.new.lost state.lost_failed.items state.lost_failed.len
    (omega (arith, c.book_losses.auto.lost, ap length c.deref_mut-then-failed.ensures.value, state.lost_failed.ok.0)) in
    lost_on_failed c.args.failed (flow_at state flow) share _ _ c.if-failed.true
    (ap (λ xs. slice_index xs flow) units ∙ c.book_losses.ensures.served i inside)
    (ap (λ xs. slice_index xs flow) lost
    ∙ (c.book_losses.ensures.lost i inside
    ∙ (ap (λ xs. slice_index xs flow + (slice_index c.deref_mut.result.now flow - share)) c.deref_mut-then-failed.ensures.value
    ∙ ap (λ xs. slice_index state.lost_failed.items flow + (slice_index xs flow - share)) c.deref_mut.ensures.value)))

pub returns-else-failed-clause-served : goal.returns-else-failed-clause-served
returns-else-failed-clause-served c = λ i inside.
    let state = c.args.state.now in
    let flow = slice_index c.args.queue.now i in
    let share = slice_index c.args.served.now i in
    let units = written c.book_losses-else-failed.new.units state.units.items state.units.len
    (omega (arith, c.book_losses-else-failed.auto.units, ap length c.deref_mut-else-failed.ensures.value, state.units.ok.0)) in
    let lost = written c.book_losses-else-failed.new.lost state.lost_full.items state.lost_full.len
    (omega (arith, c.book_losses-else-failed.auto.lost, ap length c.deref_mut-else-failed-2.ensures.value, state.lost_full.ok.0)) in
    lost_on_full c.args.failed (flow_at state flow) share _ _ c.if-failed.false
    (ap (λ xs. slice_index xs flow) units ∙ c.book_losses-else-failed.ensures.served i inside)
    (ap (λ xs. slice_index xs flow) lost
    ∙ (c.book_losses-else-failed.ensures.lost i inside
    ∙ (ap (λ xs. slice_index xs flow + (slice_index c.deref_mut-else-failed.result.now flow - share)) c.deref_mut-else-failed-2.ensures.value
    ∙ ap (λ xs. slice_index state.lost_full.items flow + (slice_index xs flow - share)) c.deref_mut-else-failed.ensures.value)))
