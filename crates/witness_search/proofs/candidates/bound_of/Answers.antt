use Rattle.std.proofs.Common.{◌≡◌, ◌∙◌, ◌^◌, ℕ, Bool, true, false, List, [], ◌∷◌, ap, nat_le, sym}
use Rattle.std.specs.Prelude.{if◌then◌else◌}
use Rattle.std.specs.List.{list_all}
use Rattle.te_model.specs.declared.demand.Matrix.{Matrix}
use Rattle.witness_search.specs.declared.attempt.Tried.{Tried}
use Rattle.witness_search.specs.Candidates.{bound_tried, bounds_tried}
use Rattle.witness_search.proofs.candidates.bound_of.Goals as goal

abbrev small : List ℕ → Bool
small ds = list_all (λ d. nat_le d (2 ^ 32)) ds

bounds_by : (place : ℕ) (bound : Matrix) (b : Bool) → small bound.demand ≡ b → (if b then bound_tried place bound ∷ [] else []) ≡ bounds_tried place bound
bounds_by place bound b is = ap (λ (x : Bool). if x then bound_tried place bound ∷ [] else []) (sym is)

pub returns-in_ok-demand : goal.returns-in_ok-demand
returns-in_ok-demand c =
    let bound = c.args.bound.now in
    let is : small bound.demand ≡ true = sym (c.are_small.ensures ∙ ap small c.as_slice.ensures) ∙ c.if-are_small.true in
    let one : Tried = bound_tried c.args.place bound in
    ap (λ (m : Matrix). let t : Tried = record { place = c.args.place; demand = m; x = 1; y = 1 } in t ∷ []) c.in_ok-demand.ensures
    ∙ bounds_by c.args.place bound true is

pub returns-else-are_small : goal.returns-else-are_small
returns-else-are_small c =
    bounds_by c.args.place c.args.bound.now false (sym (c.are_small.ensures ∙ ap small c.as_slice.ensures) ∙ c.if-are_small.false)
