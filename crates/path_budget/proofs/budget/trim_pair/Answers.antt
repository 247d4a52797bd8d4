use Rattle.std.proofs.Common.{◌≡◌, ◌≤◌, List, length, arith, ap, sym, ◌∙◌, subst, All}
use Rattle.te_model.specs.declared.route.PathShare.{PathShare}
use Rattle.routing.specs.Split.{total_weight}
use Rattle.path_budget.specs.Budget.{heaviest}
use Rattle.path_budget.proofs.Trimming.{kept_of_split, split_parts}
use Rattle.path_budget.proofs.budget.trim_pair.Goals as goal

pub normalize-requires-clause-some : goal.normalize-requires-clause-some
normalize-requires-clause-some c =
    let paths = c.args.routes.now.paths in
    let are : c.deref.result.now ≡ heaviest c.args.budget paths = c.deref.ensures.value ∙ (c.in_ok-kept.ensures ∙ ap (heaviest c.args.budget) c.as_slice.ensures) in
    let kept = kept_of_split c.args.budget paths c.requires.some (split_parts c.args.routes.now c.requires.split) in
    omega (arith, ap (λ (l : List PathShare). length l) are, kept.some)

pub normalize-requires-clause-count : goal.normalize-requires-clause-count
normalize-requires-clause-count c =
    let paths = c.args.routes.now.paths in
    let are : c.deref.result.now ≡ heaviest c.args.budget paths = c.deref.ensures.value ∙ (c.in_ok-kept.ensures ∙ ap (heaviest c.args.budget) c.as_slice.ensures) in
    let kept = kept_of_split c.args.budget paths c.requires.some (split_parts c.args.routes.now c.requires.split) in
    omega (arith, ap (λ (l : List PathShare). length l) are, kept.few, c.requires.few)

pub normalize-requires-clause-weights : goal.normalize-requires-clause-weights
normalize-requires-clause-weights c =
    let paths = c.args.routes.now.paths in
    let are : c.deref.result.now ≡ heaviest c.args.budget paths = c.deref.ensures.value ∙ (c.in_ok-kept.ensures ∙ ap (heaviest c.args.budget) c.as_slice.ensures) in
    let kept = kept_of_split c.args.budget paths c.requires.some (split_parts c.args.routes.now c.requires.split) in
    subst (All (λ (s : PathShare). 1 ≤ s.weight)) (sym are) kept.weights

pub normalize-requires-clause-whole : goal.normalize-requires-clause-whole
normalize-requires-clause-whole c =
    let paths = c.args.routes.now.paths in
    let are : c.deref.result.now ≡ heaviest c.args.budget paths = c.deref.ensures.value ∙ (c.in_ok-kept.ensures ∙ ap (heaviest c.args.budget) c.as_slice.ensures) in
    let kept = kept_of_split c.args.budget paths c.requires.some (split_parts c.args.routes.now c.requires.split) in
    omega (arith, ap total_weight are, kept.whole)
