use Rattle.std.proofs.Common.{◌≡◌, false, Bool, take, get_or, ◌∙◌, ap}
use Rattle.std.specs.Prelude.{◌||◌}
use Rattle.std.specs.List.{list_any}
use Rattle.std.proofs.lemmas.List.Folds.{list_any_more}
use Rattle.series_simulation.proofs.recovery.has_mark.Goals as goal

pub loop-mark-preserved : goal.loop-mark-preserved
loop-mark-preserved c =
    let marks = c.args.marks.now in
    let i = c.loop-mark.mark-index in
    let before : list_any (λ (mark : Bool). mark) (take i marks) ≡ false = c.loop-mark.invariant in
    list_any_more (λ (mark : Bool). mark) marks i false c.loop-mark-test.true ∙ (ap (λ b. b || get_or marks i false) before ∙ c.if-mark.false)
