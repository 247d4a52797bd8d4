use Rattle.std.proofs.Common.{List, ℕ, ◌∷◌, ◌++◌, ap, ◌∙◌}
use Rattle.std.specs.Prelude.{codes}
use Rattle.std.specs.List.{flat_map}
use Rattle.update_plan.specs.Text.{path_line}
use Rattle.update_plan.proofs.PlanText.{ended, plan_put}
use Rattle.update_plan.proofs.text.print_lines.Goals as goal

pub returns : goal.returns
returns c =
    c.in_ok-extend_from_slice-2.ensures.items
    ∙ ap (λ (o : List ℕ). o ++ codes "end\n")
    (c.in_ok-print_paths.ensures ∙ ap (λ (o : List ℕ). o ++ flat_map (λ u. ended (path_line u)) c.args.paths.now)
    (c.in_ok-print_line-2.ensures ∙ ap (λ (o : List ℕ). o ++ ended c.args.count.now)
    (c.in_ok-print_line.ensures ∙ ap (λ (o : List ℕ). o ++ ended c.args.steps.now) c.in_ok-extend_from_slice.ensures.items)))
    ∙ plan_put c.args.out.now.items (codes "yates-update 1") c.args.steps.now c.args.count.now c.args.paths.now
