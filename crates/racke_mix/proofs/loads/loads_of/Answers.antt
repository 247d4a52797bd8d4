use Rattle.std.proofs.Common.{◌≡◌, ℕ, ◌+◌, ◌<◌, List, length, get_or, replicate, arith, ap, ◌∙◌, rules}
use Rattle.te_model.specs.declared.network.Link.{Link}
use Rattle.te_model.specs.Network.{capacity_of, link_count}
use Rattle.te_model.specs.Path.{amount_on}
use Rattle.te_model.proofs.Lists.{written_whole}
use Rattle.te_model.proofs.WellFormed.{capacities_small, few_links}
use Rattle.racke_mix.proofs.Loading.{tree_loads_done, tree_loads_more, tree_loads_none, tree_loads_small}
use Rattle.racke_mix.proofs.loads.loads_of.Goals as goal

pub loop-h-init : goal.loop-h-init
loop-h-init c =
    let links = c.as_slice-links.result.now in
    let are : c.in_ok-loads.loads.items ≡ replicate (length links) 0 = search rules in
    tree_loads_none c.args.net.now c.args.tree.now (length links) c.in_ok-loads.loads.items (ap (λ (ls : List Link). length ls) c.as_slice-links.ensures) are

pub add_link-requires-clause-small : goal.add_link-requires-clause-small
add_link-requires-clause-small c = λ e.
    let net = c.args.net.now in
    let h = c.loop-h.h in
    let inside : h < link_count net = omega (arith, c.loop-h-test.true, ap (λ (ls : List Link). length ls) c.as_slice-links.ensures) in
    let few = few_links net c.requires.network in
    let read : get_or c.deref_mut.result.now e 0 ≡ get_or c.loop-h.loads.items e 0 = ap (λ (l : List ℕ). get_or l e 0) c.deref_mut.ensures.value in
    omega (arith, read, tree_loads_small net c.args.tree.now h c.loop-h.loads.items c.loop-h.invariant (omega (arith, inside, few)) e)

pub loop-h-preserved : goal.loop-h-preserved
loop-h-preserved c =
    let net = c.args.net.now in
    let h = c.loop-h.h in
    let inside : h < link_count net = omega (arith, c.loop-h-test.true, ap (λ (ls : List Link). length ls) c.as_slice-links.ensures) in
    let old = c.loop-h.loads.items in
    let value : c.deref_mut.result.now ≡ old = c.deref_mut.ensures.value in
    let kept : length c.add_link.new.loads ≡ length old = c.add_link.auto.loads ∙ ap (λ (l : List ℕ). length l) value in
    let (path, is, puts) = c.in_ok-add_link.ensures in
    let whole = written_whole c.loop-h.loads.len c.add_link.new.loads old kept c.loop-h.loads.ok.0 in
    rw whole (tree_loads_more net c.args.tree.now h old c.add_link.new.loads path c.loop-h.invariant kept is (capacities_small net c.requires.network h)
    (λ e. puts e ∙ ap (λ (l : List ℕ). get_or l e 0 + amount_on path (capacity_of net h) e) value))

pub returns : goal.returns
returns c =
    let net = c.args.net.now in
    let done : c.loop-h.h ≡ link_count net = omega (arith, c.loop-h-test.false, c.loop-h.auto.h-end, ap (λ (ls : List Link). length ls) c.as_slice-links.ensures) in
    tree_loads_done net c.args.tree.now c.loop-h.h c.loop-h.loads.items c.loop-h.invariant done
