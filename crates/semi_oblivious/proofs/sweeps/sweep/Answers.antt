use Rattle.std.proofs.Common.{ℕ, ◌≤◌, ◌^◌, List, All, length, ap, sym, ◌∙◌, subst}
use Rattle.centred_steps.proofs.Weights.{weights_small}
use Rattle.semi_oblivious.specs.Sweeps.{IsOverFixed}
use Rattle.semi_oblivious.proofs.Sweeping.{own_over}
use Rattle.semi_oblivious.proofs.sweeps.sweep.Goals as goal

pub returns-then-branch-eq0-clause-routing : goal.returns-then-branch-eq0-clause-routing
returns-then-branch-eq0-clause-routing c =
    subst (IsOverFixed c.args.net.now c.args.matrix.now.demand c.args.fixed.now.routes) (sym c.in_ok-copy.ensures)
    (own_over c.args.net.now c.args.matrix.now.demand c.args.fixed.now.routes c.requires.fixed)

pub returns-then-branch-eq0-clause-small : goal.returns-then-branch-eq0-clause-small
returns-then-branch-eq0-clause-small c = subst (All (λ (x : ℕ). x ≤ 2 ^ 28)) (sym c.new.ensures) (weights_small c.in_ok-state.state.best_lengths.items c.in_ok-state.ensures.best_lengths)

pub returns-clause-count : goal.returns-clause-count
returns-clause-count c = ap (λ (l : List ℕ). length l) c.new-2.ensures ∙ c.best_routing.ensures.state.best_count

pub returns-clause-small : goal.returns-clause-small
returns-clause-small c = subst (All (λ (x : ℕ). x ≤ 2 ^ 28)) (sym c.new-2.ensures) (weights_small _ c.best_routing.ensures.state.best_lengths)
