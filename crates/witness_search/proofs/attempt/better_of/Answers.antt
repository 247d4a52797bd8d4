use Rattle.std.proofs.Common.{◌∙◌, inl, inr, refl, sym}
use Rattle.witness_search.proofs.Choosing.{before_up_to, not_before_up_to, up_to_same}
use Rattle.witness_search.proofs.attempt.better_of.Goals as goal

pub returns-then-comes_before : goal.returns-then-comes_before
returns-then-comes_before c =
    let best = c.args.best in
    let next = c.args.next in
    (inr refl, before_up_to next.place best.place next.ratio best.ratio (sym c.comes_before.ensures ∙ c.if-comes_before.true), up_to_same next.place next.ratio)

pub returns-else-comes_before : goal.returns-else-comes_before
returns-else-comes_before c =
    let best = c.args.best in
    let next = c.args.next in
    (inl refl, up_to_same best.place best.ratio, not_before_up_to next.place best.place next.ratio best.ratio (sym c.comes_before.ensures ∙ c.if-comes_before.false))
