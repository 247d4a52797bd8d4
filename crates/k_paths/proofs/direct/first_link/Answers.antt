use Rattle.std.proofs.Common.{◌≡◌, ℕ, ◌+◌, ◌^◌, ◌<◌, ◌≤◌, List, None, length, get_or, arith, ap, sym, ◌∙◌, subst, slice_index}
use Rattle.std.specs.Prelude.{IfSome}
use Rattle.te_model.specs.Network.{link_count}
use Rattle.k_paths.specs.Ways.{IsFirstLeast, sum_over}
use Rattle.k_paths.proofs.FirstLeast.{so_far_skip, so_far_more}
use Rattle.k_paths.proofs.LinkRows.{IsScanned, scan_start, scan_step, scan_end}
use Rattle.k_paths.proofs.direct.first_link.Goals as goal
use Rattle.k_paths.proofs.direct.first_link.Goals.{in-Some, in_default}

pub bounds-as_slice-node : goal.bounds-as_slice-node
bounds-as_slice-node c = omega (arith, c.requires.node, c.requires.outgoing.nodes, ap (λ (l : List ℕ). length l) c.as_slice.ensures)

pub loop-link-init : goal.loop-link-init
loop-link-init c =
    subst (λ (l : List ℕ). IsScanned c.args.net.now c.args.ways.now c.args.src c.args.prefix.now c.args.excluded.now c.args.node (get_or l c.args.node 0) None) (sym c.as_slice.ensures)
    (scan_start c.args.net.now c.args.ways.now c.args.outgoing.now c.args.src c.args.prefix.now c.args.excluded.now c.args.node c.requires.outgoing c.requires.node)

pub sum_over-requires-clause-sound : goal.sum_over-requires-clause-sound
sum_over-requires-clause-sound c = c.requires.sound

pub sum_over-requires-clause-link : goal.sum_over-requires-clause-link
sum_over-requires-clause-link c = omega (arith, c.loop-link-test.true, c.requires.outgoing.links, ap (λ (l : List ℕ). length l) c.as_slice-nexts.ensures)

pub loop-link-preserved : goal.loop-link-preserved
loop-link-preserved c =
    let net = c.args.net.now in
    let h = c.loop-link.link in
    let so = c.loop-link.invariant in
    let value = sum_over net c.args.ways.now c.args.src c.args.prefix.now c.args.excluded.now c.args.node in
    let inside : h < link_count net = omega (arith, c.loop-link-test.true, c.requires.outgoing.links, ap (λ (l : List ℕ). length l) c.as_slice-nexts.ensures) in
    let new = c.match-sum_over.best in
    let both : IsFirstLeast value (h + 1) new × IfSome new (λ r. r.1 ≤ 2 ^ 65) = elim c.match-sum_over.branch [
      | in-Some w ↦
          let small : w.in-Some.sum ≤ 2 ^ 65 = subst (λ o. IfSome o (λ x. x ≤ 2 ^ 65)) w.in-Some.is c.sum_over.ensures.small in
          rw w.best-is (
            so_far_more value h w.in-Some.sum c.loop-link.best w.lesser-best.result so.first (sym c.sum_over.ensures.is ∙ w.in-Some.is) w.lesser-best.ensures.is,
            w.lesser-best.ensures.small (2 ^ 65) so.small small,
          )
      | in_default w ↦ rw w.best-is (so_far_skip value h c.loop-link.best so.first (sym c.sum_over.ensures.is ∙ w.in_default.is), so.small)
    ]
    in
    subst (λ (l : List ℕ). IsScanned net c.args.ways.now c.args.src c.args.prefix.now c.args.excluded.now c.args.node (get_or l h 0) new) (sym c.as_slice-nexts.ensures)
    (scan_step net c.args.ways.now c.args.outgoing.now c.args.src c.args.prefix.now c.args.excluded.now c.args.node h c.loop-link.best new c.requires.outgoing so inside both.0 both.1)

pub loop-link-smaller : goal.loop-link-smaller
loop-link-smaller c =
    let net = c.args.net.now in
    let h = c.loop-link.link in
    let inside : h < link_count net = omega (arith, c.loop-link-test.true, c.requires.outgoing.links, ap (λ (l : List ℕ). length l) c.as_slice-nexts.ensures) in
    let next = c.requires.outgoing.next h (omega arith) inside in
    let read : get_or c.as_slice-nexts.result.now h 0 ≡ slice_index c.args.outgoing.now.nexts h = ap (λ (l : List ℕ). get_or l h 0) c.as_slice-nexts.ensures in
    omega (arith, inside, next.low, read)

pub returns-clause-first : goal.returns-clause-first
returns-clause-first c =
    scan_end c.args.net.now c.args.ways.now c.args.src c.args.prefix.now c.args.excluded.now c.args.node c.loop-link.link c.loop-link.best c.loop-link.invariant
    (omega (arith, c.loop-link-test.false, c.requires.outgoing.links, ap (λ (l : List ℕ). length l) c.as_slice-nexts.ensures))

pub returns-clause-small : goal.returns-clause-small
returns-clause-small c = c.loop-link.invariant.small
