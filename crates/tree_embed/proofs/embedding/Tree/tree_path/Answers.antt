use Rattle.std.proofs.Common.{◌≡◌, refl, ◌<◌, true, None, Some, All, ap, sym, ◌∙◌, subst}
use Rattle.std.proofs.lemmas.Result.{IfOk-weaker}
use Rattle.te_model.specs.Network.{node_count}
use Rattle.te_model.specs.Path.{chains, is_path}
use Rattle.shortest_path.specs.Least.{links_of}
use Rattle.shortest_path.specs.Links.{HasSoundLinks}
use Rattle.shortest_path.specs.Paths.{IsLeastPath}
use Rattle.shortest_path.proofs.Sound.{sound}
use Rattle.routing.specs.Loops.{IsCut, end_of}
use Rattle.tree_embed.specs.Tables.{AreTables, center_in}
use Rattle.tree_embed.specs.TreePaths.{AreJoined, IsJoin, IsTreePath}
use Rattle.tree_embed.proofs.Leading.{chain_within, tree_of_least, tree_of_walk, walk_ends, walk_to_end}
use Rattle.tree_embed.proofs.LeastWays.{lead_viewed}
use Rattle.tree_embed.proofs.embedding.Tree.tree_path.Goals as goal

pub join-requires-clause-chain : goal.join-requires-clause-chain
join-requires-clause-chain c =
    let net = c.args.net.now in
    let tables : AreTables c.args.self.now c.self.inside.sums c.as_slice.result.now = subst (AreTables c.args.self.now c.self.inside.sums) (sym c.as_slice.ensures)
    (subst (λ e. AreTables e c.self.inside.sums c.self.inside.centers) c.self.view_is c.self.invariant.0)
    in
    subst (All (λ v. v < node_count net)) (sym c.deref.ensures.value)
    (chain_within c.args.self.now c.self.inside.sums c.as_slice.result.now net tables c.requires.own c.args.src c.args.dst c.requires.src c.requires.dst
    c.in_ok-chain.chain.items c.in_ok-chain.ensures)

pub cut_loops-requires : goal.cut_loops-requires
cut_loops-requires c =
    let net = c.args.net.now in
    let lengths = c.args.self.now.lengths in
    let lead = lead_viewed _ c.args.self.now net c.self.inside.sums c.as_slice-sums.result.now c.self.inside.firsts c.as_slice-firsts.result.now c.self.inside.centers
    c.self.view_is c.self.invariant.0 c.self.invariant.1 c.requires.own c.as_slice-sums.ensures c.as_slice-firsts.ensures in
    let chain = c.in_ok-chain.chain.items in
    let walk = c.in-Some.walk.items in
    let made = rw c.in-Some.is at (c.in_ok-walk.ensures lengths lead) in
    let joined : AreJoined net lengths chain walk = subst (λ k. AreJoined net lengths k walk) c.deref.ensures.value made in
    subst (λ w. chains net c.args.src (end_of net c.args.src w) w ≡ true) (sym c.deref-in-Some.ensures.value)
    (walk_to_end net lengths (center_in c.as_slice.result.now) c.args.src c.args.dst chain walk c.in_ok-chain.ensures joined)

pub returns-in-Some-clause-tree : goal.returns-in-Some-clause-tree
returns-in-Some-clause-tree c =
    let net = c.args.net.now in
    let lengths = c.args.self.now.lengths in
    let lead = lead_viewed _ c.args.self.now net c.self.inside.sums c.as_slice-sums.result.now c.self.inside.firsts c.as_slice-firsts.result.now c.self.inside.centers
    c.self.view_is c.self.invariant.0 c.self.invariant.1 c.requires.own c.as_slice-sums.ensures c.as_slice-firsts.ensures in
    let chain = c.in_ok-chain.chain.items in
    let walk = c.in-Some.walk.items in
    let cut = c.in_ok-links-in-Some.links.items in
    let tables : AreTables c.args.self.now c.self.inside.sums c.as_slice.result.now = subst (AreTables c.args.self.now c.self.inside.sums) (sym c.as_slice.ensures)
    (subst (λ e. AreTables e c.self.inside.sums c.self.inside.centers) c.self.view_is c.self.invariant.0)
    in
    let made = rw c.in-Some.is at (c.in_ok-walk.ensures lengths lead) in
    let joined : AreJoined net lengths chain walk = subst (λ k. AreJoined net lengths k walk) c.deref.ensures.value made in
    let loops : IsCut net c.args.src walk cut = subst (λ w. IsCut net c.args.src w cut) c.deref-in-Some.ensures.value c.in_ok-links-in-Some.ensures.cut in
    subst (λ l. IsTreePath c.args.self.now c.args.src c.args.dst (Some l)) (sym c.new.ensures)
    (tree_of_walk c.args.self.now c.self.inside.sums c.as_slice.result.now net lengths tables c.requires.own refl c.args.src c.args.dst chain walk cut
    c.in_ok-chain.ensures joined loops)

pub returns-in-Some-clause-path : goal.returns-in-Some-clause-path
returns-in-Some-clause-path c =
    let net = c.args.net.now in
    let lengths = c.args.self.now.lengths in
    let lead = lead_viewed _ c.args.self.now net c.self.inside.sums c.as_slice-sums.result.now c.self.inside.firsts c.as_slice-firsts.result.now c.self.inside.centers
    c.self.view_is c.self.invariant.0 c.self.invariant.1 c.requires.own c.as_slice-sums.ensures c.as_slice-firsts.ensures in
    let chain = c.in_ok-chain.chain.items in
    let walk = c.in-Some.walk.items in
    let cut = c.in_ok-links-in-Some.links.items in
    let made = rw c.in-Some.is at (c.in_ok-walk.ensures lengths lead) in
    let joined : AreJoined net lengths chain walk = subst (λ k. AreJoined net lengths k walk) c.deref.ensures.value made in
    let ends : end_of net c.args.src c.deref-in-Some.result.now ≡ c.args.dst =
    ap (end_of net c.args.src) c.deref-in-Some.ensures.value
    ∙ walk_ends net lengths (center_in c.as_slice.result.now) c.args.src c.args.dst chain walk c.in_ok-chain.ensures joined
    in
    subst (λ l. is_path net c.args.src c.args.dst l ≡ true) (sym c.new.ensures)
    (subst (λ u. is_path net c.args.src u cut ≡ true) ends c.in_ok-links-in-Some.ensures.path)

pub returns-clause-tree : goal.returns-clause-tree
returns-clause-tree c =
    let net = c.args.net.now in
    let lengths = c.args.self.now.lengths in
    let lead = lead_viewed _ c.args.self.now net c.self.inside.sums c.as_slice-sums.result.now c.self.inside.firsts c.as_slice-firsts.result.now c.self.inside.centers
    c.self.view_is c.self.invariant.0 c.self.invariant.1 c.requires.own c.as_slice-sums.ensures c.as_slice-firsts.ensures in
    let chain = c.in_ok-chain.chain.items in
    let tables : AreTables c.args.self.now c.self.inside.sums c.as_slice.result.now = subst (AreTables c.args.self.now c.self.inside.sums) (sym c.as_slice.ensures)
    (subst (λ e. AreTables e c.self.inside.sums c.self.inside.centers) c.self.view_is c.self.invariant.0)
    in
    let made = rw c.in-None.is at (c.in_ok-walk.ensures lengths lead) in
    let none : IsJoin net lengths chain None = subst (λ k. IsJoin net lengths k None) c.deref.ensures.value made in
    IfOk-weaker c.least.result (λ p. IsLeastPath net lengths c.args.src c.args.dst (links_of p))
    (λ p. IsTreePath c.args.self.now c.args.src c.args.dst (links_of p))
    (λ p least. tree_of_least c.args.self.now c.self.inside.sums c.as_slice.result.now net lengths tables c.requires.own refl c.args.src c.args.dst chain
    (links_of p) c.in_ok-chain.ensures none least)
    (c.least.ensures lengths lead)

pub join-requires-clause-sound : goal.join-requires-clause-sound
join-requires-clause-sound c =
    let tables = subst (λ e. AreTables e c.self.inside.sums c.self.inside.centers) c.self.view_is c.self.invariant.0 in
    subst HasSoundLinks c.requires.own (sound c.args.self.now.network tables.embedding.formed)

pub join-requires-clause-lead : goal.join-requires-clause-lead
join-requires-clause-lead c =
    let net = c.args.net.now in
    let lead = lead_viewed _ c.args.self.now net c.self.inside.sums c.as_slice-sums.result.now c.self.inside.firsts c.as_slice-firsts.result.now c.self.inside.centers
    c.self.view_is c.self.invariant.0 c.self.invariant.1 c.requires.own c.as_slice-sums.ensures c.as_slice-firsts.ensures in
    (c.args.self.now.lengths, lead)

pub least-requires-clause-sound : goal.least-requires-clause-sound
least-requires-clause-sound c =
    let tables = subst (λ e. AreTables e c.self.inside.sums c.self.inside.centers) c.self.view_is c.self.invariant.0 in
    subst HasSoundLinks c.requires.own (sound c.args.self.now.network tables.embedding.formed)

pub least-requires-clause-lead : goal.least-requires-clause-lead
least-requires-clause-lead c =
    let net = c.args.net.now in
    let lead = lead_viewed _ c.args.self.now net c.self.inside.sums c.as_slice-sums.result.now c.self.inside.firsts c.as_slice-firsts.result.now c.self.inside.centers
    c.self.view_is c.self.invariant.0 c.self.invariant.1 c.requires.own c.as_slice-sums.ensures c.as_slice-firsts.ensures in
    (c.args.self.now.lengths, lead)
