use Rattle.std.proofs.Common.{◌<◌, List, ℕ, length, get_or, slice_index, arith, ap, sym, subst}
use Rattle.routing.specs.declared.shares.PairShare.{PairShare}
use Rattle.best_blocks.proofs.Scaled.{metric_scalable}
use Rattle.ratio_certificate.proofs.KeptAt.{ends_of_entry, entry_at, no_entry}
use Rattle.ratio_certificate.proofs.Responding.{entry_share}
use Rattle.ratio_certificate.proofs.restricted.keep_way.Goals as goal

pub is_dear-requires-clause-share : goal.is_dear-requires-clause-share
is_dear-requires-clause-share c =
    let p = c.args.problem.now in
    entry_share p.net.now p.routing.now.routes p.set.now c.args.shared.now c.as_slice.result.now c.args.place c.requires.problem.routing c.requires.shared c.as_slice.ensures
    (subst (λ (xs : List PairShare). c.args.place < length xs) (sym c.as_slice.ensures) c.requires.place)

pub is_dear-requires-clause-distance : goal.is_dear-requires-clause-distance
is_dear-requires-clause-distance c =
    let p = c.args.problem.now in
    let pair = (get_or c.as_slice.result.now c.args.place no_entry).pair in
    let all = metric_scalable p.net.now p.routing.now.routes p.set.now c.args.shared.now c.args.search.now.metric c.requires.problem.network c.requires.problem.routing
    c.requires.problem.set c.requires.shared c.requires.search.metric
    in
    let near = all.distances_small pair in
    let read = ap (λ (xs : List ℕ). slice_index xs pair) c.as_slice-2.ensures in
    omega (arith, read, near)

pub turn-requires-clause-row : goal.turn-requires-clause-row
turn-requires-clause-row c =
    let p = c.args.problem.now in
    let items = c.as_slice.result.now in
    let entry =
    entry_at p.net.now p.routing.now.routes p.set.now c.args.shared.now items c.args.place c.requires.shared c.as_slice.ensures
    (subst (λ (xs : List PairShare). c.args.place < length xs) (sym c.as_slice.ensures) c.requires.place)
    in
    (ends_of_entry p.net.now p.routing.now.routes p.set.now c.args.shared.now c.args.search.now.metric c.as_slice-then-is_dear.result.now (get_or items c.args.place no_entry)
    c.index-as_slice-entry.result c.requires.problem.routing c.requires.shared c.requires.search.metric entry c.as_slice-then-is_dear.ensures c.index-as_slice-entry.is).0

pub keep-requires-clause-dst : goal.keep-requires-clause-dst
keep-requires-clause-dst c =
    let p = c.args.problem.now in
    let items = c.as_slice.result.now in
    let entry =
    entry_at p.net.now p.routing.now.routes p.set.now c.args.shared.now items c.args.place c.requires.shared c.as_slice.ensures
    (subst (λ (xs : List PairShare). c.args.place < length xs) (sym c.as_slice.ensures) c.requires.place)
    in
    (ends_of_entry p.net.now p.routing.now.routes p.set.now c.args.shared.now c.args.search.now.metric c.as_slice-then-is_dear.result.now (get_or items c.args.place no_entry)
    c.index-as_slice-entry.result c.requires.problem.routing c.requires.shared c.requires.search.metric entry c.as_slice-then-is_dear.ensures c.index-as_slice-entry.is).1

pub keep-requires-clause-share : goal.keep-requires-clause-share
keep-requires-clause-share c =
    let p = c.args.problem.now in
    entry_share p.net.now p.routing.now.routes p.set.now c.args.shared.now c.as_slice.result.now c.args.place c.requires.problem.routing c.requires.shared c.as_slice.ensures
    (subst (λ (xs : List PairShare). c.args.place < length xs) (sym c.as_slice.ensures) c.requires.place)

pub keep-requires-clause-distance : goal.keep-requires-clause-distance
keep-requires-clause-distance c =
    let p = c.args.problem.now in
    let pair = (get_or c.as_slice.result.now c.args.place no_entry).pair in
    let all = metric_scalable p.net.now p.routing.now.routes p.set.now c.args.shared.now c.args.search.now.metric c.requires.problem.network c.requires.problem.routing
    c.requires.problem.set c.requires.shared c.requires.search.metric
    in
    let near = all.distances_small pair in
    let read = ap (λ (xs : List ℕ). slice_index xs pair) c.as_slice-2.ensures in
    (omega (arith, c.max.ensures), omega (arith, c.max.ensures, read, near))
