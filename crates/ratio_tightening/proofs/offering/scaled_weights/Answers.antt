use Rattle.std.proofs.Common.{◌∙◌, ◌^◌, ◌≤◌, ◌++◌, ◌∷◌, [], ℕ, List, length, ap, arith}
use Rattle.std.proofs.lemmas.List.{length-append}
use Rattle.std.proofs.lemmas.List.Elements.{All-push, All-same}
use Rattle.ratio_tightening.proofs.offering.scaled_weights.Goals as goal

pub loop-h-preserved : goal.loop-h-preserved
loop-h-preserved c =
    let before = c.loop-h.scaled.items in
    let x = c.scaled_weight.result in
    let items = c.in_ok-push.ensures.items in
    let more = ap (λ (l : List ℕ). length l) items ∙ length-append before (x ∷ []) in
    let count = c.loop-h.invariant.0 in (
      omega (arith, more, count),
      All-same (λ (w : ℕ). (1 ≤ w) × (w ≤ 2 ^ 28)) _ (before ++ x ∷ []) items
          (All-push (λ (w : ℕ). (1 ≤ w) × (w ≤ 2 ^ 28)) before x c.loop-h.invariant.1 c.scaled_weight.ensures),
    )
