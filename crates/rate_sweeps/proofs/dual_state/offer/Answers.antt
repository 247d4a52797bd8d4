use Rattle.std.proofs.Common.{inl, inr, ℕ, ◌^◌, List, length, arith, refl, ap, sym, ◌∙◌, subst}
use Rattle.std.proofs.lemmas.List.{with_items_is}
use Rattle.centred_steps.specs.Loads.{AreLoadsWithin}
use Rattle.centred_steps.specs.Weights.{AreWeightsUpTo}
use Rattle.rate_sweeps.proofs.dual_state.offer.Goals as goal

pub returns-in_err-state-clause-state : goal.returns-in_err-state-clause-state
returns-in_err-state-clause-state c =
    let is = with_items_is c.args.state.now.loads c.spread_under-spread.new.loads (omega (arith, c.spread_under-spread.auto.loads, c.deref_mut.ensures.len)) in
    record {
      count = c.requires.state.count;
      lengths = c.requires.state.lengths;
      loads = subst (AreLoadsWithin c.args.net.now) (sym is) c.spread_under-spread.ensures.within;
      best_count = c.requires.state.best_count;
      best_lengths = c.requires.state.best_lengths;
    }

pub returns-in_err-state-clause-better : goal.returns-in_err-state-clause-better
returns-in_err-state-clause-better c = inl (refl, refl)

pub returns-in_err-state-clause-loads : goal.returns-in_err-state-clause-loads
returns-in_err-state-clause-loads c =
    with_items_is c.args.state.now.loads c.spread_under-spread.new.loads (omega (arith, c.spread_under-spread.auto.loads, c.deref_mut.ensures.len))
    ∙ c.spread_under-spread.ensures.loads

pub returns-in_err-state-clause-lengths : goal.returns-in_err-state-clause-lengths
returns-in_err-state-clause-lengths c = refl

pub returns-in_ok-state-clause-state : goal.returns-in_ok-state-clause-state
returns-in_ok-state-clause-state c =
    let is = with_items_is c.args.state.now.loads c.spread_under-spread.new.loads (omega (arith, c.spread_under-spread.auto.loads, c.deref_mut.ensures.len)) in
    let kept = sym {A = List ℕ} c.in_ok-state.ensures.items in
    record {
      count = c.requires.state.count;
      lengths = c.requires.state.lengths;
      loads = subst (AreLoadsWithin c.args.net.now) (sym is) c.spread_under-spread.ensures.within;
      best_count = ap (λ (l : List ℕ). length l) (sym kept) ∙ c.requires.count;
      best_lengths = subst (AreWeightsUpTo (2 ^ 27)) kept c.requires.lengths;
    }

pub returns-in_ok-state-clause-better : goal.returns-in_ok-state-clause-better
returns-in_ok-state-clause-better c = inr (c.if-spread-state.true, c.in_ok-state.ensures.items)

pub returns-in_ok-state-clause-loads : goal.returns-in_ok-state-clause-loads
returns-in_ok-state-clause-loads c =
    with_items_is c.args.state.now.loads c.spread_under-spread.new.loads (omega (arith, c.spread_under-spread.auto.loads, c.deref_mut.ensures.len))
    ∙ c.spread_under-spread.ensures.loads

pub returns-in_ok-state-clause-lengths : goal.returns-in_ok-state-clause-lengths
returns-in_ok-state-clause-lengths c = refl

pub returns-else-spread-state-clause-state : goal.returns-else-spread-state-clause-state
returns-else-spread-state-clause-state c =
    let is = with_items_is c.args.state.now.loads c.spread_under-spread.new.loads (omega (arith, c.spread_under-spread.auto.loads, c.deref_mut.ensures.len)) in
    record {
      count = c.requires.state.count;
      lengths = c.requires.state.lengths;
      loads = subst (AreLoadsWithin c.args.net.now) (sym is) c.spread_under-spread.ensures.within;
      best_count = c.requires.state.best_count;
      best_lengths = c.requires.state.best_lengths;
    }

pub returns-else-spread-state-clause-better : goal.returns-else-spread-state-clause-better
returns-else-spread-state-clause-better c = inl (refl, refl)

pub returns-else-spread-state-clause-loads : goal.returns-else-spread-state-clause-loads
returns-else-spread-state-clause-loads c =
    with_items_is c.args.state.now.loads c.spread_under-spread.new.loads (omega (arith, c.spread_under-spread.auto.loads, c.deref_mut.ensures.len))
    ∙ c.spread_under-spread.ensures.loads

pub returns-else-spread-state-clause-lengths : goal.returns-else-spread-state-clause-lengths
returns-else-spread-state-clause-lengths c = refl
