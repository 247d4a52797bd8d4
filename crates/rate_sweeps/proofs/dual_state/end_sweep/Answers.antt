use Rattle.std.proofs.Common.{rules, ◌≡◌, ℕ, ◌^◌, List, length, arith, refl, ap, sym, ◌∙◌, subst, inl, inr}
use Rattle.std.proofs.lemmas.List.{with_items_is}
use Rattle.centred_steps.specs.declared.usage_spread.UsageSpread.{UsageSpread}
use Rattle.centred_steps.specs.UsageSpread.{spread_by}
use Rattle.centred_steps.specs.Loads.{AreLoadsWithin}
use Rattle.centred_steps.specs.Weights.{AreWeightsUpTo}
use Rattle.rate_sweeps.specs.Bounds.{weight_by}
use Rattle.rate_sweeps.specs.declared.dual_state.DualState.{DualState}
use Rattle.rate_sweeps.proofs.Bounding.{bound_kept, bound_taken}
use Rattle.rate_sweeps.proofs.dual_state.end_sweep.Goals as goal
use Rattle.rate_sweeps.proofs.dual_state.end_sweep.Goals.{then-spread-state+in_ok-state, else-spread-state}

loads_are : (c : goal.After-weight_of) → c.if-spread-state.state.loads.items ≡ c.args.state.now.loads.items
loads_are c =
    elim c.if-spread-state.branch [
      | then-spread-state+in_ok-state w ↦ rw w.state-is refl
      | else-spread-state w ↦ rw w.state-is refl
    ]

weights_kept : (c : goal.After-weight_of) → c.if-spread-state.state.lengths.items ≡ c.args.state.now.lengths.items
weights_kept c = elim c.if-spread-state.branch [
  | then-spread-state+in_ok-state w ↦ rw w.state-is refl
  | else-spread-state w ↦ rw w.state-is refl
]

-- the middle by the lengths of before
spread_is : (c : goal.After-weight_of) → c.spread_of-spread.result ≡ spread_by c.args.net.now c.args.state.now.lengths.items c.if-spread-state.state.loads.items
spread_is c =
    let net = c.args.net.now in
    let weights = c.args.state.now.lengths.items in
    c.spread_of-spread.ensures.exact
    ∙ (ap (λ (l : List ℕ). spread_by net l c.deref-2.result.now) c.deref.ensures.value
    ∙ ap (λ (l : List ℕ). spread_by net weights l) (c.deref-2.ensures.value ∙ sym (loads_are c)))

pub returns-clause-state : goal.returns-clause-state
returns-clause-state c =
    let is = with_items_is c.if-spread-state.state.lengths c.step_weights.new.weights (omega (arith, c.step_weights.auto.weights, c.deref_mut.ensures.len)) in
    record {
      count = omega (arith, ap (λ (l : List ℕ). length l) is, c.step_weights.ensures.count, ap (λ (l : List ℕ). length l) c.deref_mut.ensures.value, ap (λ (l : List ℕ). length l) (weights_kept c), c.requires.state.count);
      lengths = subst (AreWeightsUpTo (2 ^ 27)) (sym is) c.step_weights.ensures.weights;
      loads = subst (AreLoadsWithin c.args.net.now) (sym (loads_are c)) c.requires.state.loads;
      best_count = elim c.if-spread-state.branch [
        | then-spread-state+in_ok-state w ↦ rw w.state-is (search rules)
        | else-spread-state w ↦ rw w.state-is c.requires.state.best_count
      ];
      best_lengths = elim c.if-spread-state.branch [
        | then-spread-state+in_ok-state w ↦ rw w.state-is (search rules)
        | else-spread-state w ↦ rw w.state-is c.requires.state.best_lengths
      ];
    }

pub returns-clause-counted : goal.returns-clause-counted
returns-clause-counted c = c.weight_of.ensures.weight ∙ ap weight_by (spread_is c)

pub returns-in_err-state-clause-state : goal.returns-in_err-state-clause-state
returns-in_err-state-clause-state c = c.requires.state

pub returns-in_err-state-clause-better : goal.returns-in_err-state-clause-better
returns-in_err-state-clause-better c = inl (refl, refl)

pub returns-clause-better : goal.returns-clause-better
returns-clause-better c = elim c.if-spread-state.branch [
  | then-spread-state+in_ok-state w ↦ rw w.state-is (inr (w.if-spread-state.true, search rules))
  | else-spread-state w ↦ rw w.state-is (inl (refl, refl))
]

pub returns-clause-loads : goal.returns-clause-loads
returns-clause-loads c = loads_are c

pub returns-clause-bound : goal.returns-clause-bound
returns-clause-bound c =
    let mean = ap (λ (x : UsageSpread). x.mean) (spread_is c) in
    elim c.if-spread-state.branch [
      | then-spread-state+in_ok-state w ↦ ap (λ (r : DualState). r.best_bound) w.state-is ∙ bound_taken c.args.state.now.best_bound _ _ mean w.if-spread-state.true
      | else-spread-state w ↦ ap (λ (r : DualState). r.best_bound) w.state-is ∙ bound_kept c.args.state.now.best_bound _ _ mean w.if-spread-state.false
    ]
