use Rattle.std.proofs.Common.{ℕ, ◌^◌, ◌≤◌, List, All, length, arith, ap, sym, ◌∙◌, subst}
use Rattle.std.proofs.lemmas.List.{with_items_is}
use Rattle.centred_steps.specs.Loads.{AreLoadsWithin}
use Rattle.centred_steps.proofs.Weights.{weights_small}
use Rattle.semi_oblivious.proofs.sweeps.sweep_loads.Goals as goal

pub load_cheapest-requires-clause-lengths : goal.load_cheapest-requires-clause-lengths
load_cheapest-requires-clause-lengths c = ap (λ (l : List ℕ). length l) c.deref.ensures.value ∙ c.loop.invariant.count

pub load_cheapest-requires-clause-limit : goal.load_cheapest-requires-clause-limit
load_cheapest-requires-clause-limit c =
    subst (All (λ (l : ℕ). l ≤ 2 ^ 28)) (sym c.deref.ensures.value) (weights_small c.loop.state.lengths.items c.loop.invariant.lengths)

pub load_cheapest-requires-clause-count : goal.load_cheapest-requires-clause-count
load_cheapest-requires-clause-count c = ap (λ (l : List ℕ). length l) c.deref_mut.ensures.value ∙ c.loop.invariant.loads.count

pub end_sweep-requires-clause-state : goal.end_sweep-requires-clause-state
end_sweep-requires-clause-state c =
    let is = with_items_is c.loop.state.loads c.load_cheapest.new.loads (omega (arith, c.load_cheapest.auto.loads, c.deref_mut.ensures.len)) in
    record {
      count = c.loop.invariant.count;
      lengths = c.loop.invariant.lengths;
      loads = subst (AreLoadsWithin c.args.net.now) (sym is) c.load_cheapest.ensures.within;
      best_count = c.loop.invariant.best_count;
      best_lengths = c.loop.invariant.best_lengths;
    }

pub loop-preserved : goal.loop-preserved
loop-preserved c = c.end_sweep.ensures.state
