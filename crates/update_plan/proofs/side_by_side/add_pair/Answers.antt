use Rattle.std.proofs.Common.{◌≡◌, ◌+◌, ◌-◌, ◌<◌, Bool, List, [], ◌∷◌, ◌++◌, length, ap, append_assoc, sym, ◌∙◌, subst}
use Rattle.update_plan.specs.declared.path.UpdatePath.{UpdatePath}
use Rattle.update_plan.specs.Walk.{comes_next, next_update, place_after}
use Rattle.update_plan.proofs.Walking.{IsWalked, left_of, walk_on, walk_smaller}
use Rattle.update_plan.proofs.side_by_side.add_pair.Goals as goal

pub walk-smaller : goal.walk-smaller
walk-smaller c =
    let before = c.args.before.now in
    let after = c.args.after.now in
    let i = c.walk.i in
    let j = c.walk.j in
    let left = left_of before after i j (sym c.is_left.ensures ∙ c.walk-test.true) in
    let i_is : c.place_after-i.result ≡ place_after (comes_next before i after j) i = c.place_after-i.ensures ∙ ap (λ (b : Bool). place_after b i) c.comes_next-in_before.ensures.next in
    let j_is : c.place_after-j.result ≡ place_after (comes_next after j before i) j = c.place_after-j.ensures ∙ ap (λ (b : Bool). place_after b j) c.comes_next-in_after.ensures.next in
    let less : (length before - c.place_after-i.result) + (length after - c.place_after-j.result) < (length before - i) + (length after - j) =
    subst (λ x. (length before - x) + (length after - c.place_after-j.result) < (length before - i) + (length after - j)) (sym i_is)
    (subst (λ x. (length before - place_after (comes_next before i after j) i) + (length after - x) < (length before - i) + (length after - j)) (sym j_is)
    (walk_smaller before after i j left))
    in
    less

pub walk-preserved : goal.walk-preserved
walk-preserved c =
    let before = c.args.before.now in
    let after = c.args.after.now in
    let p = c.args.pair in
    let i = c.walk.i in
    let j = c.walk.j in
    let left = left_of before after i j (sym c.is_left.ensures ∙ c.walk-test.true) in
    let i_is : c.place_after-i.result ≡ place_after (comes_next before i after j) i = c.place_after-i.ensures ∙ ap (λ (b : Bool). place_after b i) c.comes_next-in_before.ensures.next in
    let j_is : c.place_after-j.result ≡ place_after (comes_next after j before i) j = c.place_after-j.ensures ∙ ap (λ (b : Bool). place_after b j) c.comes_next-in_after.ensures.next in
    let (own, is, walked) = c.walk.invariant in
    let more = own ++ next_update p before i after j ∷ [] in
    let pushed : c.push.new.self.items ≡ c.args.paths.now.items ++ more =
    c.in_ok-push.ensures.items
    ∙ (ap (λ (l : List UpdatePath). l ++ c.in_ok-next_update.field-0 ∷ []) is
    ∙ (ap (λ (u : UpdatePath). (c.args.paths.now.items ++ own) ++ u ∷ []) c.in_ok-next_update.ensures
    ∙ append_assoc c.args.paths.now.items own (next_update p before i after j ∷ [])))
    in
    let on = walk_on p before after i j own c.requires.before_ascend c.requires.after_ascend c.requires.before_some c.requires.after_some left walked in (
      more,
      pushed,
      subst (λ x. IsWalked p before after x c.place_after-j.result more) (sym i_is)
          (subst (λ x. IsWalked p before after (place_after (comes_next before i after j) i) x more) (sym j_is) on),
    )
