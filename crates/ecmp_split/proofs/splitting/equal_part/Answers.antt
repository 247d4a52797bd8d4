use Rattle.std.proofs.Common.{◌≡◌, ℕ, ◌+◌, ◌/◌, ◌%◌, Bool, true, false, nat_lt, refl, ap, ◌∙◌}
use Rattle.std.specs.Prelude.{if◌then◌else◌}
use mir.Val.{bool_byte}
use Rattle.ecmp_split.proofs.splitting.equal_part.Goals as goal

one_more : (left : Bool) → bool_byte left ≡ (if left then 1 else 0)
one_more true = refl
one_more false = refl

pub returns : goal.returns
returns c =
    let place = c.args.place in
    let units = c.args.units in
    let count = c.args.count in
    ap (λ (one : ℕ). units / count + one) (c.from.ensures ∙ one_more (nat_lt place (units % count)))
