use Rattle.std.proofs.Common.{◌<◌, ◌≤◌, ◌^◌, ◌∷◌, [], take, get_or, length, arith, ap}
use Rattle.std.proofs.lemmas.List.{take_more}
use Rattle.std.proofs.lemmas.List.Elements.{All-get_or}
use Rattle.shortest_path.specs.Paths.{sum_along}
use Rattle.shortest_path.proofs.Walks.{sum_along-append}
use Rattle.shortest_path.proofs.length.length_along.Goals as goal

pub loop-link-preserved : goal.loop-link-preserved
loop-link-preserved c =
    let lengths = c.args.lengths.now in
    let links = c.args.links.now in
    let i = c.loop-link.link-index in
    let below : i < length links = omega arith in
    let h = get_or links i 0 in
    let more = ap (sum_along lengths) (take_more links i 0 below) in
    let pushed = sum_along-append lengths (take i links) (h ∷ []) in
    let inside : h < length lengths = All-get_or (λ h. h < length lengths) links i 0 below c.requires.links in
    let small : get_or lengths h 0 ≤ 2 ^ 28 = All-get_or (λ l. l ≤ 2 ^ 28) lengths h 0 inside c.requires.limit in
    (omega (arith, more, pushed, c.loop-link.invariant.0, c.from-total.ensures), omega (arith, small, c.loop-link.invariant.1, c.from-total.ensures))
