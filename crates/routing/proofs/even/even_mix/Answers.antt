use Rattle.std.proofs.Common.{◌≤◌, map, arith, ap, sym, ◌∙◌, subst, All, List}
use Rattle.std.proofs.lemmas.List.{length-map}
use Rattle.te_model.specs.declared.route.Path.{Path}
use Rattle.te_model.specs.declared.route.PathShare.{PathShare}
use Rattle.routing.specs.Split.{total_weight}
use Rattle.routing.proofs.EvenSplits.{ones_positive, total_weight-ones}
use Rattle.routing.specs.Merge.{IsMerge}
use Rattle.routing.specs.Normal.{with_whole_weight}
use Rattle.routing.proofs.even.even_mix.Goals as goal

pub normalize-requires-clause-weights : goal.normalize-requires-clause-weights
normalize-requires-clause-weights c =
    subst (All (λ (s : PathShare). 1 ≤ s.weight)) (sym (c.deref.ensures.value ∙ c.in_ok-ones.ensures)) (ones_positive (map (λ (p : Path). p.links) c.args.paths.items))

pub normalize-requires-clause-whole : goal.normalize-requires-clause-whole
normalize-requires-clause-whole c =
    let paths = map (λ (p : Path). p.links) c.args.paths.items in
    omega (
      arith,
      ap total_weight (c.deref.ensures.value ∙ c.in_ok-ones.ensures),
      total_weight-ones paths,
      length-map c.args.paths.items (λ (p : Path). p.links),
      c.args.paths.ok.0,
      c.requires.few,
    )

pub returns : goal.returns
returns c =
    let ones = c.deref.ensures.value ∙ c.in_ok-ones.ensures in
    subst (λ (l : List PathShare). IsMerge l c.in_ok-merged.merged.items) (c.in_ok-parts.ensures.parts ∙ ap with_whole_weight ones) c.in_ok-merged.ensures
