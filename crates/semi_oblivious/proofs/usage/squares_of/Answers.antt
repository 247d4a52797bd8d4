use Rattle.std.proofs.Common.{ℕ, ◌≤◌, ◌^◌, List, [], ◌∷◌, ◌++◌, All, length, map, take, arith, ap, sym, ◌∙◌, subst}
use Rattle.std.proofs.lemmas.List.{length-append, map_more}
use Rattle.std.proofs.lemmas.List.Elements.{All-get_or, All-push}
use Rattle.semi_oblivious.specs.Lengths.{square_of}
use Rattle.semi_oblivious.proofs.usage.squares_of.Goals as goal

pub square_of-requires : goal.square_of-requires
square_of-requires c = All-get_or (λ (x : ℕ). x ≤ 2 ^ 14) c.args.lengths.now c.loop-x.x-index 0 c.loop-x-test.true c.requires.small

pub loop-x-preserved : goal.loop-x-preserved
loop-x-preserved c =
    let lengths = c.args.lengths.now in
    let i = c.loop-x.x-index in
    let before = c.loop-x.squares.items in
    let square = c.square_of.result in
    let pushed = c.in_ok-push.ensures.items in (
      omega (arith, ap (λ (l : List ℕ). length l) pushed, length-append before (square ∷ []), c.loop-x.invariant.0),
      subst (All (λ (x : ℕ). x ≤ 2 ^ 14)) (sym pushed) (All-push (λ (x : ℕ). x ≤ 2 ^ 14) before square c.loop-x.invariant.1 c.square_of.ensures.small),
      pushed
          ∙ (ap (λ (l : List ℕ). l ++ square ∷ []) c.loop-x.invariant.2
          ∙ (ap (λ (x : ℕ). map square_of (take i lengths) ++ x ∷ []) c.square_of.ensures.square ∙ sym (map_more square_of lengths i 0 c.loop-x-test.true))),
    )
