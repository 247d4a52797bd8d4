use Rattle.std.proofs.Common.{◌≡◌, ◌≤◌, ◌++◌, ◌∷◌, [], None, get_or, slice_index, arith, ap, sym, ◌∙◌, subst, rules, length, List}
use Rattle.std.specs.Prelude.{unwrap_or}
use Rattle.std.proofs.lemmas.Grind.{common_steps}
use Rattle.std.proofs.lemmas.List.Elements.{All-get_or}
use Rattle.te_model.specs.Network.{head_of, link_count, no_link}
use Rattle.shortest_path.specs.Graph.{distance_at}
use Rattle.shortest_path.specs.Least.{IsFirstTightBelow}
use Rattle.shortest_path.proofs.Tight.{GreedySoFar, greedy_step, greedy_end, no_walk, some_tight, tight_parts}
use Rattle.te_model.specs.declared.network.Link.{Link}
use Rattle.shortest_path.proofs.walk.walk_along.Goals as goal

pub returns-then-is_none : goal.returns-then-is_none
returns-then-is_none c = λ lengths marks leads.
    let none : distance_at c.args.sums.now c.args.src ≡ None = grind (arith, common_steps) in
    no_walk c.args.net.now lengths marks c.args.dst c.args.sums.now leads.sums_are c.args.src none

pub loop-node-preserved : goal.loop-node-preserved
loop-node-preserved c = λ lengths marks leads.
    let net = c.args.net.now in
    let sums = c.args.sums.now in
    let h = c.in-Some.h in
    let v = c.loop-node.node in
    let far = c.loop-node.invariant lengths marks leads in
    let links : c.push.new.self.items ≡ c.loop-node.walk.items ++ h ∷ [] = search rules in
    let node : (get_or c.as_slice-links.result.now h no_link).head ≡ head_of net h = ap (λ l. (get_or l h no_link).head) c.as_slice-links.ensures in
    let first = subst (λ o. IsFirstTightBelow net lengths marks sums (link_count net) v o) c.in-Some.is (leads.firsts_are.each v far.inside) in
    subst (λ u. GreedySoFar net lengths marks sums c.args.src c.args.dst u c.push.new.self.items) (sym node)
    (subst (λ l. GreedySoFar net lengths marks sums c.args.src c.args.dst (head_of net h) l) (sym links)
    (greedy_step net lengths marks c.args.src c.args.dst sums c.requires.sound leads.sums_are v h c.loop-node.walk.items far c.loop-node-test.true first))

pub returns-in-None : goal.returns-in-None
returns-in-None c = λ lengths marks leads.
    let net = c.args.net.now in
    let sums = c.args.sums.now in
    let v = c.loop-node.node in
    let far = c.loop-node.invariant lengths marks leads in
    let first = subst (λ o. IsFirstTightBelow net lengths marks sums (link_count net) v o) c.in-None.is (leads.firsts_are.each v far.inside) in
    absurd (some_tight net lengths marks c.args.dst sums leads.sums_are v far.known.0 c.loop-node-test.true far.known.1 first)

pub returns : goal.returns
returns c = λ lengths marks leads.
    greedy_end c.args.net.now lengths marks c.args.sums.now c.args.src c.args.dst c.loop-node.node c.loop-node.walk.items
    (λ h below. All-get_or (λ l. 1 ≤ l) lengths h 0 (omega (arith, leads.count)) leads.positive) (c.loop-node.invariant lengths marks leads) c.loop-node-test.false

pub bounds : goal.bounds
bounds c =
    let leads = c.requires.leads.2 in
    let far = c.loop-node.invariant c.requires.leads.0 c.requires.leads.1 leads in
    omega (arith, far.inside, leads.firsts_are.count)

pub loop-node-smaller : goal.loop-node-smaller
loop-node-smaller c =
    let net = c.args.net.now in
    let lengths = c.requires.leads.0 in
    let marks = c.requires.leads.1 in
    let leads = c.requires.leads.2 in
    let sums = c.args.sums.now in
    let h = c.in-Some.h in
    let v = c.loop-node.node in
    let far = c.loop-node.invariant lengths marks leads in
    let first = subst (λ o. IsFirstTightBelow net lengths marks sums (link_count net) v o) c.in-Some.is (leads.firsts_are.each v far.inside) in
    let (y, tight) = tight_parts net lengths marks sums v h first.1 in
    let node : (get_or c.as_slice-links.result.now h no_link).head ≡ head_of net h = ap (λ l. (get_or l h no_link).head) c.as_slice-links.ensures in
    let at_head = ap (λ o. unwrap_or o 0) (ap (distance_at sums) node ∙ tight.to) in
    let at_tail = ap (λ o. unwrap_or o 0) tight.from in
    let long : 1 ≤ slice_index lengths h = All-get_or (λ l. 1 ≤ l) lengths h 0 (omega (arith, first.0, leads.count)) leads.positive in
    omega (arith, at_head, at_tail, long)

pub bounds-firsts-node : goal.bounds-firsts-node
bounds-firsts-node c =
    let leads = c.requires.leads.2 in
    let far = c.loop-node.invariant c.requires.leads.0 c.requires.leads.1 leads in
    omega (arith, far.inside, leads.firsts_are.count)

pub bounds-links-h : goal.bounds-links-h
bounds-links-h c =
    let net = c.args.net.now in
    let lengths = c.requires.leads.0 in
    let marks = c.requires.leads.1 in
    let leads = c.requires.leads.2 in
    let v = c.loop-node.node in
    let far = c.loop-node.invariant lengths marks leads in
    let first = subst (λ o. IsFirstTightBelow net lengths marks c.args.sums.now (link_count net) v o) c.in-Some.is (leads.firsts_are.each v far.inside) in
    omega (arith, first.0, ap (λ (l : List Link). length l) c.as_slice-links.ensures)
