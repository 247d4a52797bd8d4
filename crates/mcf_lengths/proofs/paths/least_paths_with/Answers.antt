use Rattle.std.proofs.Common.{◌≡◌, ◌+◌, ◌<◌, List, [], ◌∷◌, ◌++◌, Some, length, get_or, map, arith, ap, sym, ◌∙◌, subst, rules}
use Rattle.std.proofs.lemmas.List.{map_push}
use Rattle.te_model.specs.declared.route.Pair.{Pair}
use Rattle.shortest_path.specs.Paths.{HasPath, IsLeastPath}
use Rattle.shortest_path.proofs.Sound.{sound}
use Rattle.scheme.specs.Reach.{IsPairOf, no_pair, pair_at}
use Rattle.rate_sweeps.specs.Sweeps.{links_in}
use Rattle.mcf_lengths.proofs.LeastPaths.{PathsSoFar, paths_done, paths_more}
use Rattle.mcf_lengths.proofs.Marking.{ways_read}
use Rattle.mcf_lengths.proofs.paths.least_paths_with.Goals as goal

pub ways_toward-requires-clause-sound : goal.ways_toward-requires-clause-sound
ways_toward-requires-clause-sound c = sound c.args.net.now c.requires.network

pub path_by-requires-clause-sound : goal.path_by-requires-clause-sound
path_by-requires-clause-sound c = sound c.args.net.now c.requires.network

pub path_by-requires-clause-pair : goal.path_by-requires-clause-pair
path_by-requires-clause-pair c =
    let pairs = c.args.pairs.now.list in
    let p = c.loop-p.p in
    let inside : p < length pairs = omega (arith, c.loop-p-test.true, ap (λ (l : List Pair). length l) c.as_slice-list.ensures) in
    let at : get_or c.as_slice-list.result.now p no_pair ≡ pair_at pairs p = ap (λ (l : List Pair). get_or l p no_pair) c.as_slice-list.ensures in
    subst (IsPairOf c.args.net.now) (sym at) (c.requires.pairs.each p no_pair inside)

pub path_by-requires-clause-reached : goal.path_by-requires-clause-reached
path_by-requires-clause-reached c =
    let net = c.args.net.now in
    let pairs = c.args.pairs.now.list in
    let p = c.loop-p.p in
    let inside : p < length pairs = omega (arith, c.loop-p-test.true, ap (λ (l : List Pair). length l) c.as_slice-list.ensures) in
    let at : get_or c.as_slice-list.result.now p no_pair ≡ pair_at pairs p = ap (λ (l : List Pair). get_or l p no_pair) c.as_slice-list.ensures in
    subst (λ (x : Pair). HasPath net x.src x.dst) (sym at) (c.requires.reached p inside)

pub path_by-requires-clause-ways : goal.path_by-requires-clause-ways
path_by-requires-clause-ways c =
    let pairs = c.args.pairs.now.list in
    let p = c.loop-p.p in
    let inside : p < length pairs = omega (arith, c.loop-p-test.true, ap (λ (l : List Pair). length l) c.as_slice-list.ensures) in
    let at : get_or c.as_slice-list.result.now p no_pair ≡ pair_at pairs p = ap (λ (l : List Pair). get_or l p no_pair) c.as_slice-list.ensures in (
      c.args.lengths.now,
      ways_read c.args.net.now c.args.lengths.now pairs c.args.wanted.now c.in_ok-ways.ways.items p (get_or c.as_slice-list.result.now p no_pair) c.index.result.now
          c.in_ok-ways.ensures.ways c.requires.pairs c.requires.wanted inside at c.index.ensures,
    )

pub loop-p-preserved : goal.loop-p-preserved
loop-p-preserved c =
    let net = c.args.net.now in
    let pairs = c.args.pairs.now.list in
    let lengths = c.args.lengths.now in
    let p = c.loop-p.p in
    let old = c.loop-p.paths.items in
    let path = c.in_ok-path_by.field-0 in
    let inside : p < length pairs = omega (arith, c.loop-p-test.true, ap (λ (l : List Pair). length l) c.as_slice-list.ensures) in
    let at : get_or c.as_slice-list.result.now p no_pair ≡ pair_at pairs p = ap (λ (l : List Pair). get_or l p no_pair) c.as_slice-list.ensures in
    let ways = ways_read net lengths pairs c.args.wanted.now c.in_ok-ways.ways.items p (get_or c.as_slice-list.result.now p no_pair) c.index.result.now c.in_ok-ways.ensures.ways
    c.requires.pairs c.requires.wanted inside at c.index.ensures
    in
    let is = subst (λ (x : Pair). IsLeastPath net lengths x.src x.dst (Some path.links)) at (c.in_ok-path_by.ensures lengths ways) in
    let pushed : c.push.new.self.items ≡ old ++ path ∷ [] = search rules in
    subst (PathsSoFar net lengths pairs (p + 1)) (sym (ap (map links_in) pushed ∙ map_push links_in old path))
    (paths_more net lengths pairs p (map links_in old) path.links c.loop-p.invariant is)

pub returns-clause-paths : goal.returns-clause-paths
returns-clause-paths c =
    let pairs = c.args.pairs.now.list in
    let every : c.loop-p.p ≡ length pairs = omega (arith, c.loop-p-test.false, c.loop-p.auto.p-end, ap (λ (l : List Pair). length l) c.as_slice-list.ensures) in
    paths_done c.args.net.now c.args.lengths.now pairs c.loop-p.p (map links_in c.loop-p.paths.items) c.loop-p.invariant every
