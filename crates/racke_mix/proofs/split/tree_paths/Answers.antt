use Rattle.std.proofs.Common.{◌≡◌, ℕ, ◌++◌, ◌∷◌, [], ◌+◌, List, Some, map, true, arith, ap, sym, ◌∙◌, subst}
use Rattle.std.specs.Prelude.{IfNone, IfSome, Option}
use Rattle.std.proofs.lemmas.List.{get_or_read, map_push}
use Rattle.te_model.specs.declared.route.Path.{Path}
use Rattle.te_model.specs.Path.{is_path}
use Rattle.shortest_path.specs.Least.{links_of}
use Rattle.shortest_path.specs.Paths.{HasPath}
use Rattle.tree_embed.specs.TreePaths.{IsTreePath}
use Rattle.racke_mix.specs.declared.round.Round.{Round}
use Rattle.racke_mix.specs.Mix.{no_round, round_at}
use Rattle.racke_mix.proofs.TreeSplits.{PathsSoFar, paths_done, paths_more}
use Rattle.racke_mix.proofs.split.tree_paths.Goals as goal

abbrev links : Path → List ℕ
links p = p.links

pub loop-round-preserved : goal.loop-round-preserved
loop-round-preserved c =
    let net = c.args.net.now in
    let rounds = c.args.rounds.now in
    let s = c.args.pair.src in
    let t = c.args.pair.dst in
    let k = c.loop-round.round-index in
    let old = c.loop-round.paths.items in
    let round : c.round-item.result ≡ round_at rounds k = get_or_read rounds k c.round-item.result c.loop-round-test.true c.round-item.is no_round in
    let tree = subst (λ (o : Option Path). IsTreePath c.round-item.result.tree s t (links_of o)) c.in-Some.is c.in_ok-path.ensures.tree in
    let path = subst (λ o. IfSome o (λ q. is_path net s t q.links ≡ true)) c.in-Some.is c.in_ok-path.ensures.path in
    let pushed : c.push.new.self.items ≡ old ++ c.in-Some.path ∷ [] = c.in_ok-push-in-Some.ensures.items in
    subst (PathsSoFar net rounds s t (k + 1)) (sym (ap (map links) pushed ∙ map_push links old c.in-Some.path))
    (paths_more net rounds s t k (map links old) c.in-Some.path.links c.loop-round.invariant
    (subst (λ (r : Round). IsTreePath r.tree s t (Some c.in-Some.path.links)) round tree) path)

pub returns-clause-some : goal.returns-clause-some
returns-clause-some c =
    paths_done c.args.net.now c.args.rounds.now c.args.pair.src c.args.pair.dst c.loop-round.round-index (map links c.loop-round.paths.items) c.loop-round.invariant
    (omega (arith, c.loop-round-test.false, c.loop-round.auto.round-index-end))

pub returns-in-None-clause-none : goal.returns-in-None-clause-none
returns-in-None-clause-none c =
    subst (λ o. IfNone o (HasPath c.args.net.now c.args.pair.src c.args.pair.dst → ⊥)) c.in-None.is c.in_ok-path.ensures.none

pub returns-clause-paths : goal.returns-clause-paths
returns-clause-paths c = c.loop-round.invariant.sound
