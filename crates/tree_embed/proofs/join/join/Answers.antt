use Rattle.std.proofs.Common.{◌≡◌, ◌-◌, ◌++◌, slice_index, arith, subst, rules}
use Rattle.std.proofs.lemmas.List.{take_all}
use Rattle.shortest_path.specs.Least.{links_of}
use Rattle.shortest_path.specs.Paths.{IsLeastPath}
use Rattle.tree_embed.specs.TreePaths.{AreJoined}
use Rattle.tree_embed.proofs.Joining.{join_start, join_step, join_stops}
use Rattle.tree_embed.proofs.join.join.Goals as goal

pub loop-i-init : goal.loop-i-init
loop-i-init c = λ lengths lead. join_start c.args.net.now lengths c.args.chain.now c.new-walk.result.items (search rules)

pub returns-in-None : goal.returns-in-None
returns-in-None c = λ lengths lead.
    let chain = c.args.chain.now in
    let i = c.loop-i.i in
    join_stops c.args.net.now lengths chain i c.loop-i.auto.i c.loop-i-test.true
    (subst (λ o. IsLeastPath c.args.net.now lengths (slice_index chain (i - 1)) (slice_index chain i) (links_of o)) c.in-None.is (c.in_ok-path.ensures lengths lead))

pub loop-i-preserved : goal.loop-i-preserved
loop-i-preserved c = λ lengths lead.
    let chain = c.args.chain.now in
    let i = c.loop-i.i in
    let extended : c.extend_from_slice.new.self.items ≡ c.loop-i.walk.items ++ c.in-Some.path.links = search rules in
    join_step c.args.net.now lengths chain i c.loop-i.walk.items c.in-Some.path.links c.extend_from_slice.new.self.items
    c.loop-i.auto.i c.loop-i-test.true (c.loop-i.invariant lengths lead)
    (subst (λ o. IsLeastPath c.args.net.now lengths (slice_index chain (i - 1)) (slice_index chain i) (links_of o)) c.in-Some.is (c.in_ok-path.ensures lengths lead))
    extended

pub least-requires-clause-sound : goal.least-requires-clause-sound
least-requires-clause-sound c = c.requires.sound

pub least-requires-clause-lead : goal.least-requires-clause-lead
least-requires-clause-lead c = c.requires.lead

pub least-requires-clause-src : goal.least-requires-clause-src
least-requires-clause-src c = c.requires.chain (c.loop-i.i - 1) 0 (omega (arith, c.loop-i-test.true))

pub least-requires-clause-dst : goal.least-requires-clause-dst
least-requires-clause-dst c = c.requires.chain c.loop-i.i 0 c.loop-i-test.true

pub returns : goal.returns
returns c = λ lengths lead.
    subst (λ chain. AreJoined c.args.net.now lengths chain c.loop-i.walk.items)
    (take_all c.loop-i.i c.args.chain.now (omega (arith, c.loop-i-test.false))) (c.loop-i.invariant lengths lead)
