use Rattle.std.proofs.Common.{◌≡◌, ◌+◌, ◌<◌, ◌&&◌, ℕ, true, false, List, Some, None, length, get_or, set, slice_index, arith, ap, sym, ◌∙◌, subst}
use Rattle.std.proofs.lemmas.List.{get_or_read}
use Rattle.te_model.specs.declared.network.Link.{Link}
use Rattle.te_model.specs.Network.{link_at, link_count, node_count, no_link, head_of, tail_of}
use Rattle.shortest_path.specs.Graph.{distance_at}
use Rattle.shortest_path.specs.Least.{AreFirstLinks, first_at, is_sum}
use Rattle.shortest_path.specs.Links.{is_open}
use Rattle.shortest_path.proofs.FirstLinks.{firsts_skip, firsts_more, none_read, some_read}
use Rattle.shortest_path.proofs.ReadLinks.{read_place, read_tail, read_head}
use Rattle.shortest_path.proofs.walk.first_links.Goals as goal
use Rattle.shortest_path.proofs.walk.first_links.Goals.{then-is_none+then-is_tight, else-is_none, else-is_none-via-then-is_none+else-is_tight, else-is_none-via-else-is_none}

pub loop-h-preserved : goal.loop-h-preserved
loop-h-preserved c =
    let net = c.args.net.now in
    let lengths = c.args.lengths.now in
    let marks = c.args.open.now in
    let sums = c.args.sums.now in
    let h = c.loop-h.h in
    let firsts = c.loop-h.firsts.items in
    let inside : h < link_count net = omega (arith, c.loop-h-test.true, ap (λ (l : List Link). length l) c.as_slice-links.ensures) in
    let link : get_or c.as_slice-links.result.now h no_link ≡ link_at net h = ap (λ (l : List Link). get_or l h no_link) c.as_slice-links.ensures in
    let tail = ap (λ (l : Link). l.tail) link in
    let tail_in : tail_of net h < node_count net = c.requires.sound.tails h inside in
    let read : c.index.result.now ≡ first_at firsts (tail_of net h) =
    get_or_read firsts (get_or c.as_slice-links.result.now h no_link).tail c.index.result.now (omega (arith, tail, tail_in, c.loop-h.invariant.count)) c.index.ensures None
    ∙ ap (first_at firsts) tail
    in
    elim c.if-is_none.branch [
      | then-is_none+then-is_tight w ↦
          let none : first_at firsts (tail_of net h) ≡ None = sym read ∙ none_read c.index.result.now c.is_none.result c.is_none.ensures w.if-is_none.true in
          let tight : (is_open marks h && is_sum (distance_at sums (tail_of net h)) (distance_at sums (head_of net h)) (slice_index lengths h)) ≡ true =
          subst (λ (l : Link). (is_open marks h && is_sum (distance_at sums l.tail) (distance_at sums l.head) (slice_index lengths h)) ≡ true) link (sym w.is_tight.ensures ∙ w.if-is_tight.true)
          in
          rw w.firsts-is
          (subst (λ (v : ℕ). AreFirstLinks net lengths marks sums (h + 1) (set firsts v (Some h))) (sym tail)
          (firsts_more net lengths marks sums h firsts c.loop-h.invariant inside tail_in none tight))
      | else-is_none w ↦ elim w.else-is_none.branch [
        | else-is_none-via-then-is_none+else-is_tight w' ↦
            let slack : (is_open marks h && is_sum (distance_at sums (tail_of net h)) (distance_at sums (head_of net h)) (slice_index lengths h)) ≡ false =
            subst (λ (l : Link). (is_open marks h && is_sum (distance_at sums l.tail) (distance_at sums l.head) (slice_index lengths h)) ≡ false) link (sym w'.is_tight.ensures ∙ w'.if-is_tight.false)
            in
            rw w.firsts-is (firsts_skip net lengths marks sums h firsts c.loop-h.invariant (λ none. slack))
        | else-is_none-via-else-is_none w' ↦
            rw w.firsts-is (firsts_skip net lengths marks sums h firsts c.loop-h.invariant
            (λ none. absurd (some_read c.index.result.now c.is_none.result c.is_none.ensures w'.if-is_none.false (read ∙ none))))
      ]
    ]

pub index-requires : goal.index-requires
index-requires c =
    omega (
      arith,
      read_tail c.args.net.now c.as_slice-links.result.now c.loop-h.h c.requires.sound c.as_slice-links.ensures c.loop-h-test.true,
      c.loop-h.invariant.count,
      c.loop-h.firsts.ok.0,
    )

pub bounds-open-h : goal.bounds-open-h
bounds-open-h c = omega (arith, read_place c.args.net.now c.as_slice-links.result.now c.loop-h.h c.as_slice-links.ensures c.loop-h-test.true, c.requires.marks)

pub bounds-sums-tail : goal.bounds-sums-tail
bounds-sums-tail c =
    omega (arith, read_tail c.args.net.now c.as_slice-links.result.now c.loop-h.h c.requires.sound c.as_slice-links.ensures c.loop-h-test.true, c.requires.sums)

pub bounds-sums-head : goal.bounds-sums-head
bounds-sums-head c =
    omega (arith, read_head c.args.net.now c.as_slice-links.result.now c.loop-h.h c.requires.sound c.as_slice-links.ensures c.loop-h-test.true, c.requires.sums)

pub bounds-lengths-h : goal.bounds-lengths-h
bounds-lengths-h c = omega (arith, read_place c.args.net.now c.as_slice-links.result.now c.loop-h.h c.as_slice-links.ensures c.loop-h-test.true, c.requires.lengths)

pub overflow_cast-h : goal.overflow_cast-h
overflow_cast-h c =
    omega (arith, read_place c.args.net.now c.as_slice-links.result.now c.loop-h.h c.as_slice-links.ensures c.loop-h-test.true, c.requires.sound.few_links)

pub index_mut-requires : goal.index_mut-requires
index_mut-requires c =
    omega (
      arith,
      read_tail c.args.net.now c.as_slice-links.result.now c.loop-h.h c.requires.sound c.as_slice-links.ensures c.loop-h-test.true,
      c.loop-h.invariant.count,
      c.loop-h.firsts.ok.0,
    )
