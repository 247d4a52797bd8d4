use Rattle.std.proofs.Common.{◌≡◌, ◌+◌, ◌^◌, ◌<◌, ◌≤◌, ℕ, true, false, List, Some, length, get_or, set, slice_index, arith, ap, sym, subst}
use Rattle.std.specs.Prelude.{All}
use Rattle.std.proofs.lemmas.List.{take_all}
use Rattle.std.proofs.lemmas.List.Elements.{All-get_or}
use Rattle.te_model.specs.declared.network.Link.{Link}
use Rattle.te_model.specs.declared.network.Network.{Network}
use Rattle.te_model.specs.Network.{link_at, link_count, node_count, no_link, head_of, tail_of}
use Rattle.shortest_path.specs.Links.{HasSoundLinks}
use Rattle.shortest_path.specs.Graph.{AtMost, distance_at}
use Rattle.k_paths.specs.Sums.{IsTaut}
use Rattle.k_paths.proofs.WalkSums.{LoweredSoFar, lowered_more, lowered_none, lowered_skip, lowered_sums, none_case}
use Rattle.k_paths.proofs.sums.lower.Goals as goal
use Rattle.k_paths.proofs.sums.lower.Goals.{then-open-h+in-Some, then-open-h+in_default, else-open-h}

pub bounds-links-h : goal.bounds-links-h
bounds-links-h c =
    let inside = All-get_or (λ k. k < link_count c.args.net.now) c.args.among.now c.loop-link.link-index 0 c.loop-link-test.true c.requires.among in
    omega (arith, inside, ap (λ (l : List Link). length l) c.as_slice-links.ensures)

pub bounds-links-h-in-loop-link : goal.bounds-links-h-in-loop-link
bounds-links-h-in-loop-link c =
    let inside = All-get_or (λ k. k < link_count c.args.net.now) c.args.among.now c.loop-link.link-index 0 c.loop-link-test.true c.requires.among in
    omega (arith, inside, ap (λ (l : List Link). length l) c.as_slice-links.ensures)

pub bounds-open-h : goal.bounds-open-h
bounds-open-h c =
    let inside = All-get_or (λ k. k < link_count c.args.net.now) c.args.among.now c.loop-link.link-index 0 c.loop-link-test.true c.requires.among in
    omega (arith, inside, c.requires.marks)

pub bounds-costs-h : goal.bounds-costs-h
bounds-costs-h c =
    let inside = All-get_or (λ k. k < link_count c.args.net.now) c.args.among.now c.loop-link.link-index 0 c.loop-link-test.true c.requires.among in
    omega (arith, inside, c.requires.costs)

-- where the link that is read at a place starts and ends
ends_inside : (net : Network) (links : List Link) (among : List ℕ) (i : ℕ) → HasSoundLinks net → links ≡ net.links → i < length among → All (λ k. k < link_count net) among →
    ((get_or links (slice_index among i) no_link).tail < node_count net) × ((get_or links (slice_index among i) no_link).head < node_count net)
ends_inside net links among i sound is below all =
    let h = slice_index among i in
    let inside : h < link_count net = All-get_or (λ k. k < link_count net) among i 0 below all in (
      omega (arith, ap (λ (ls : List Link). (get_or ls h no_link).tail) is, sound.tails h inside),
      omega (arith, ap (λ (ls : List Link). (get_or ls h no_link).head) is, sound.heads h inside),
    )

pub slice_copy_out-lesser_sum : goal.slice_copy_out-lesser_sum
slice_copy_out-lesser_sum c =
    let ends = ends_inside c.args.net.now c.as_slice-links.result.now c.args.among.now c.loop-link.link-index c.requires.sound c.as_slice-links.ensures c.loop-link-test.true c.requires.among in
    omega (arith, ends.0, c.requires.sums.count, c.loop-link.long-sums)

pub slice_copy_out-lesser_sum-then-open-h : goal.slice_copy_out-lesser_sum-then-open-h
slice_copy_out-lesser_sum-then-open-h c =
    let ends = ends_inside c.args.net.now c.as_slice-links.result.now c.args.among.now c.loop-link.link-index c.requires.sound c.as_slice-links.ensures c.loop-link-test.true c.requires.among in
    omega (arith, ends.1, c.requires.sums.count, c.loop-link.long-sums)

pub bounds-sums-tail : goal.bounds-sums-tail
bounds-sums-tail c =
    let ends = ends_inside c.args.net.now c.as_slice-links.result.now c.args.among.now c.loop-link.link-index c.requires.sound c.as_slice-links.ensures c.loop-link-test.true c.requires.among in
    omega (arith, ends.0, c.requires.sums.count, c.loop-link.long-sums)

pub lesser_sum-requires-clause-small : goal.lesser_sum-requires-clause-small
lesser_sum-requires-clause-small c = λ y at.
    let i = c.loop-link.link-index in
    let h = slice_index c.args.among.now i in
    omega (arith, c.loop-link-test.true, c.requires.few, c.requires.sound.few_links, (c.loop-link.invariant.are (2 ^ 40) c.requires.sums).small (get_or c.as_slice-links.result.now h no_link).head y at)

pub loop-link-preserved : goal.loop-link-preserved
loop-link-preserved c =
    let net = c.args.net.now in
    let costs = c.args.costs.now in
    let marks = c.args.open.now in
    let among = c.args.among.now in
    let t = c.args.dst in
    let i = c.loop-link.link-index in
    let h = slice_index among i in
    let old = c.args.sums.now in
    let sums = c.loop-link.sums in
    let inside : h < link_count net = All-get_or (λ k. k < link_count net) among i 0 c.loop-link-test.true c.requires.among in
    let link : get_or c.as_slice-links.result.now h no_link ≡ link_at net h = ap (λ (l : List Link). get_or l h no_link) c.as_slice-links.ensures in
    let tail = ap (λ (l : Link). l.tail) link in
    elim c.if-open-h.branch [
      | then-open-h+in-Some w ↦
          let (y, at_head, is, above) : (y : ℕ) × (distance_at sums (head_of net h) ≡ Some y) × (w.in-Some.sum ≡ slice_index costs h + y)
          × (AtMost (distance_at sums (tail_of net h)) w.in-Some.sum → ⊥) =
          subst (λ (l : Link). (y : ℕ) × (distance_at sums l.head ≡ Some y) × (w.in-Some.sum ≡ slice_index costs h + y) × (AtMost (distance_at sums l.tail) w.in-Some.sum → ⊥)) link
          w.in-Some.ensures
          in
          rw (w.sums-is, w.fell-is)
          (subst (λ (v : ℕ). LoweredSoFar net costs marks among t (i + 1) true old (set sums v (Some w.in-Some.sum))) (sym tail)
          (subst (λ (d : ℕ). LoweredSoFar net costs marks among t (i + 1) true old (set sums (tail_of net h) (Some d))) (sym is)
          (lowered_more net costs marks among t i h y c.loop-link.fell old sums c.loop-link.invariant inside (c.requires.sound.tails h inside)
          (All-get_or (λ x. x ≤ 65535) costs h 0 (omega (arith, inside, c.requires.costs)) c.requires.limit) w.if-open-h.true at_head
          (subst (λ d. AtMost (distance_at sums (tail_of net h)) d → ⊥) is above))))
      | then-open-h+in_default w ↦
          let slack : (y : ℕ) → distance_at sums (head_of net h) ≡ Some y → AtMost (distance_at sums (tail_of net h)) (slice_index costs h + y) =
          subst (λ (l : Link). (y : ℕ) → distance_at sums l.head ≡ Some y → AtMost (distance_at sums l.tail) (slice_index costs h + y)) link
          (none_case w.lesser_sum.result _ _ w.lesser_sum.ensures w.in_default.is)
          in
          rw (w.sums-is, w.fell-is) (lowered_skip net costs marks among t i c.loop-link.fell old sums c.loop-link.invariant c.loop-link-test.true (λ open_h. slack))
      | else-open-h w ↦
          let taut : IsTaut net costs marks sums h = λ on y at. let off = w.if-open-h.false in cc in
          rw (w.sums-is, w.fell-is) (lowered_skip net costs marks among t i c.loop-link.fell old sums c.loop-link.invariant c.loop-link-test.true taut)
    ]

pub returns-clause-sums : goal.returns-clause-sums
returns-clause-sums c = λ n were.
    lowered_sums c.args.net.now c.args.costs.now c.args.open.now c.args.among.now c.args.dst c.loop-link.link-index c.loop-link.fell c.args.sums.now c.loop-link.sums c.loop-link.invariant
    (omega (arith, c.loop-link.far-link-index, c.requires.few, c.requires.sound.few_links)) n were

pub returns-clause-falls : goal.returns-clause-falls
returns-clause-falls c = c.loop-link.invariant.falls

pub returns-clause-taut : goal.returns-clause-taut
returns-clause-taut c = λ e.
    let whole = take_all c.loop-link.link-index c.args.among.now (omega (arith, c.loop-link-test.false)) in
    subst (λ l. All (IsTaut c.args.net.now c.args.costs.now c.args.open.now c.loop-link.sums) l) whole (c.loop-link.invariant.taut e)

pub loop-link-init : goal.loop-link-init
loop-link-init c = lowered_none c.args.net.now c.args.costs.now c.args.open.now c.args.among.now c.args.dst false c.args.sums.now

pub lesser_sum-requires-clause-cost : goal.lesser_sum-requires-clause-cost
lesser_sum-requires-clause-cost c =
    let net = c.args.net.now in
    let inside = All-get_or (λ k. k < link_count net) c.args.among.now c.loop-link.link-index 0 c.loop-link-test.true c.requires.among in
    All-get_or (λ x. x ≤ 65535) c.args.costs.now (slice_index c.args.among.now c.loop-link.link-index) 0 (omega (arith, inside, c.requires.costs)) c.requires.limit
