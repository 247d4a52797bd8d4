use Rattle.std.proofs.Common.{◌≡◌, List, ℕ, map, true, All, subst}
use Rattle.std.specs.Prelude.{IfSome}
use Rattle.te_model.specs.declared.route.Path.{Path}
use Rattle.te_model.specs.Path.{is_path}
use Rattle.racke_mix.specs.Mix.{AreTreePaths}
use Rattle.racke_mix.proofs.TreeSplits.{mix_split}
use Rattle.racke_mix.proofs.split.split.Goals as goal

pub returns-in_ok-merged-in-Some-clause-some : goal.returns-in_ok-merged-in-Some-clause-some
returns-in_ok-merged-in-Some-clause-some c =
    let net = c.args.net.now in
    let rounds = c.args.rounds.now in
    let pair = c.args.pair in
    let are = subst (λ o. IfSome o (λ p. AreTreePaths rounds pair.src pair.dst (map (λ (q : Path). q.links) p.items))) c.in-Some.is c.in_ok-paths.ensures.some in
    let sound =
    subst (λ o. IfSome o (λ p. All (λ (q : List ℕ). is_path net pair.src pair.dst q ≡ true) (map (λ (q : Path). q.links) p.items))) c.in-Some.is c.in_ok-paths.ensures.paths
    in
    mix_split net rounds pair (map (λ (q : Path). q.links) c.in-Some.paths.items) c.in_ok-merged-in-Some.merged.items c.requires.some c.requires.few are sound
    c.in_ok-merged-in-Some.ensures
