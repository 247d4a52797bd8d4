use Rattle.std.proofs.Common.{◌+◌, ◌*◌, ◌/◌, ◌%◌, ◌^◌, ◌<◌, ◌≤◌, arith, ap, ◌∙◌}
use Rattle.std.proofs.lemmas.Nat.{shl_whole}
use Rattle.tree_embed.proofs.centers.radius.Goals as goal

pub returns : goal.returns
returns c =
    let small : c.args.scale < 2 ^ 5 = omega arith in
    let few : 5 + c.args.level ≤ 64 = omega arith in
    ap (λ x. x * 2 ^ c.args.level % 2 ^ 64 / 16) c.from.ensures ∙ ap (λ x. x / 16) (shl_whole c.args.scale 5 c.args.level 64 small few)
