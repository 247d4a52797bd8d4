use Rattle.std.proofs.Common.{◌≡◌, ◌<◌, List, length, get_or, arith, ap}
use Rattle.te_model.specs.declared.route.Pair.{Pair}
use Rattle.scheme.specs.Reach.{no_pair, pair_at}
use Rattle.mcf_lengths.proofs.Marking.{marked_more}
use Rattle.mcf_lengths.proofs.paths.destinations.Goals as goal

pub loop-p-preserved : goal.loop-p-preserved
loop-p-preserved c =
    let pairs = c.args.pairs.now.list in
    let p = c.loop-p.p in
    let inside : p < length pairs = omega (arith, c.loop-p-test.true, ap (λ (l : List Pair). length l) c.as_slice-list.ensures) in
    let at : get_or c.as_slice-list.result.now p no_pair ≡ pair_at pairs p = ap (λ (l : List Pair). get_or l p no_pair) c.as_slice-list.ensures in
    marked_more c.args.net.now pairs p c.loop-p.marks.items (get_or c.as_slice-list.result.now p no_pair) c.loop-p.invariant at (c.requires.pairs.each p no_pair inside)
