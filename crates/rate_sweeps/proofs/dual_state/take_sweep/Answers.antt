use Rattle.std.proofs.Common.{arith, sym, ◌∙◌, subst}
use Rattle.std.proofs.lemmas.List.{with_items_is}
use Rattle.centred_steps.specs.Loads.{AreLoadsWithin}
use Rattle.rate_sweeps.proofs.dual_state.take_sweep.Goals as goal

pub end_sweep-requires-clause-state : goal.end_sweep-requires-clause-state
end_sweep-requires-clause-state c =
    let is = with_items_is c.args.state.now.loads c.write_loads.new.loads (omega (arith, c.write_loads.auto.loads, c.deref_mut.ensures.len)) in
    record {
      count = c.requires.state.count;
      lengths = c.requires.state.lengths;
      loads = subst (AreLoadsWithin c.args.net.now) (sym is) c.write_loads.ensures.within;
      best_count = c.requires.state.best_count;
      best_lengths = c.requires.state.best_lengths;
    }

pub returns-clause-loads : goal.returns-clause-loads
returns-clause-loads c =
    let is = with_items_is c.args.state.now.loads c.write_loads.new.loads (omega (arith, c.write_loads.auto.loads, c.deref_mut.ensures.len)) in
    c.end_sweep.ensures.loads ∙ (is ∙ c.write_loads.ensures.loads)

pub returns-clause-better : goal.returns-clause-better
returns-clause-better c = c.end_sweep.ensures.better

pub returns-clause-bound : goal.returns-clause-bound
returns-clause-bound c = c.end_sweep.ensures.bound

pub returns-clause-counted : goal.returns-clause-counted
returns-clause-counted c = c.end_sweep.ensures.counted
