use Rattle.std.proofs.Common.{arith, length}
use Rattle.series_simulation.proofs.KeptPreparations.{need_at, needed_before, needed_first, needed_later, needed_of_all}
use Rattle.series_simulation.proofs.kept_preparations.needed_last.Goals as goal
use Rattle.series_simulation.proofs.kept_preparations.needed_last.Goals.{then-next-greatest, else-next-greatest}

pub loop-place-init : goal.loop-place-init
loop-place-init g c =
    needed_first c.args.later.now c.args.kept.now c.next_use-greatest.result
    (need_at c.args.later.now c.args.kept.now c.index-kept-0.result c.as_slice.result.now c.next_use-greatest.result 0 c.requires c.as_slice.ensures
    c.next_use-greatest.ensures)

pub loop-place-preserved : goal.loop-place-preserved
loop-place-preserved g c =
    let later = c.args.later.now in
    let kept = c.args.kept.now in
    let l = c.loop-place in
    let next = c.next_use-next.result in
    let here = need_at later kept c.index-kept-place.result c.as_slice-in-loop-place.result.now next l.place c.loop-place-test.true
    c.as_slice-in-loop-place.ensures c.next_use-next.ensures in
    elim c.if-next-greatest.branch [
      | then-next-greatest w ↦ rw (w.last-is, w.greatest-is) (needed_later later kept next l.place l.last l.greatest here l.invariant w.if-next-greatest.true)
      | else-next-greatest w ↦
          rw (w.last-is, w.greatest-is)
          (needed_before later kept next l.place l.last l.greatest here l.invariant (omega (arith, w.if-next-greatest.false)))
    ]

pub returns : goal.returns
returns g c =
    let l = c.loop-place in
    needed_of_all c.args.later.now c.args.kept.now l.place l.last l.greatest (omega (arith, c.loop-place-test.false, l.auto.place-end, c.requires)) l.invariant
