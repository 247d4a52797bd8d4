use Rattle.std.proofs.Common.{◌≡◌, ◌<◌, ℕ, List, Option, Some, None, length, get_or, arith, refl, ap, sym, ◌∙◌, subst}
use Rattle.std.specs.Prelude.{unwrap_or}
use Rattle.te_model.specs.declared.network.Link.{Link}
use Rattle.te_model.specs.declared.network.Network.{Network}
use Rattle.te_model.specs.Network.{head_of, link_count, node_count, no_link}
use Rattle.shortest_path.specs.declared.ways.Ways.{Ways}
use Rattle.shortest_path.specs.Graph.{distance_at}
use Rattle.shortest_path.specs.Least.{IsFirstTightBelow, first_at}
use Rattle.shortest_path.specs.Links.{every_link}
use Rattle.shortest_path.specs.Ways.{AreWays}
use Rattle.shortest_path.proofs.FirstLinks.{some_read}
use Rattle.k_paths.proofs.OpenSums.{OpenSoFar, first_of_way, open_end, open_more, open_smaller, open_start}
use Rattle.k_paths.proofs.sums.open_sum.Goals as goal

-- what is read of the first links
first : (net : Network) (ways : Ways) (v h : ℕ) (firsts : List (Option ℕ)) → AreWays net ways → v < node_count net → firsts ≡ ways.firsts → get_or firsts v None ≡ Some h →
    IsFirstTightBelow net ways.costs (every_link net) ways.sums (link_count net) v (Some h)
first net ways v h firsts are inside same is = first_of_way net ways v (Some h) are inside (sym is ∙ ap (λ (l : List (Option ℕ)). first_at l v) same)

known : (o : Option ℕ) → (o ≡ None → ⊥) → (x : ℕ) × (o ≡ Some x)
known None some = absurd (some refl)
known (Some x) some = (x, refl)

pub bounds-all-src : goal.bounds-all-src
bounds-all-src c = omega (arith, c.requires.src, c.requires.ways.sums.count, ap (λ (l : List (Option ℕ)). length l) c.as_slice-all.ensures)

pub loop-node-init : goal.loop-node-init
loop-node-init c =
    let net = c.args.net.now in
    let ways = c.args.ways.now in
    let s = c.args.src in
    let some = some_read (get_or c.as_slice-all.result.now s None) c.is_none.result c.is_none.ensures c.if-is_none.false in
    let (x, is) = known (distance_at ways.sums s) (λ none. some (ap (λ (l : List (Option ℕ)). distance_at l s) c.as_slice-all.ensures ∙ none)) in
    open_start net ways c.args.open.now s x c.requires.src is

pub bounds-all-src-2 : goal.bounds-all-src-2
bounds-all-src-2 c = omega (arith, c.requires.src, c.requires.ways.sums.count, ap (λ (l : List (Option ℕ)). length l) c.as_slice-all.ensures)

pub bounds : goal.bounds
bounds c = omega (arith, c.loop-node.invariant.inside, c.requires.ways.firsts.count, ap (λ (l : List (Option ℕ)). length l) c.as_slice-firsts.ensures)

pub bounds-firsts : goal.bounds-firsts
bounds-firsts c = omega (arith, c.loop-node.invariant.inside, c.requires.ways.firsts.count, ap (λ (l : List (Option ℕ)). length l) c.as_slice-firsts.ensures)

pub bounds-open-h : goal.bounds-open-h
bounds-open-h c =
    let first = first c.args.net.now c.args.ways.now c.loop-node.node c.in-Some.h c.as_slice-firsts.result.now c.requires.ways c.loop-node.invariant.inside c.as_slice-firsts.ensures c.in-Some.is in
    omega (arith, first.0, c.requires.marks)

pub bounds-links-h : goal.bounds-links-h
bounds-links-h c =
    let first = first c.args.net.now c.args.ways.now c.loop-node.node c.in-Some.h c.as_slice-firsts.result.now c.requires.ways c.loop-node.invariant.inside c.as_slice-firsts.ensures c.in-Some.is in
    omega (arith, first.0, ap (λ (l : List Link). length l) c.as_slice-links.ensures)

pub loop-node-preserved : goal.loop-node-preserved
loop-node-preserved c =
    let net = c.args.net.now in
    let ways = c.args.ways.now in
    let marks = c.args.open.now in
    let v = c.loop-node.node in
    let h = c.in-Some.h in
    let first = first net ways v h c.as_slice-firsts.result.now c.requires.ways c.loop-node.invariant.inside c.as_slice-firsts.ensures c.in-Some.is in
    let node : (get_or c.as_slice-links.result.now h no_link).head ≡ head_of net h = ap (λ (l : List Link). (get_or l h no_link).head) c.as_slice-links.ensures in
    subst (λ u. OpenSoFar net ways marks c.args.src u) (sym node) (open_more net ways marks c.args.src v h c.requires.sound c.loop-node.invariant first c.if-not-open-h.false)

pub loop-node-smaller : goal.loop-node-smaller
loop-node-smaller c =
    let net = c.args.net.now in
    let ways = c.args.ways.now in
    let v = c.loop-node.node in
    let h = c.in-Some.h in
    let first = first net ways v h c.as_slice-firsts.result.now c.requires.ways c.loop-node.invariant.inside c.as_slice-firsts.ensures c.in-Some.is in
    let node : (get_or c.as_slice-links.result.now h no_link).head ≡ head_of net h = ap (λ (l : List Link). (get_or l h no_link).head) c.as_slice-links.ensures in
    subst (λ u. unwrap_or (distance_at ways.sums u) 0 < unwrap_or (distance_at ways.sums v) 0) (sym node) (open_smaller net ways v h c.requires.ways first)

pub returns : goal.returns
returns c = λ d is.
    let ways = c.args.ways.now in
    open_end c.args.net.now ways c.args.open.now c.args.src c.loop-node.node d c.requires.ways c.loop-node.invariant c.loop-node-test.false
    (sym (ap (λ (l : List (Option ℕ)). distance_at l c.args.src) c.as_slice-all.ensures) ∙ is)
