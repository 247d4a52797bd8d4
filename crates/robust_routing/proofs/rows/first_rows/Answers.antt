use Rattle.std.proofs.Common.{ℕ, List, Option, length, arith, ap}
use Rattle.robust_routing.proofs.rows.first_rows.Goals as goal

pub loop-init : goal.loop-init
loop-init c =
    let none = ap (λ (l : List (List (Option ℕ))). length l) c.in_ok-rows.ensures.items in
    (none, λ k d below. absurd (omega (arith, below, none)))
