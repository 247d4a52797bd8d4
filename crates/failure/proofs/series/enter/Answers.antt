use Rattle.std.proofs.Common.{◌≡◌, ℕ, ◌<◌, List, [], length, get_or, take, arith, ap, sym, subst, ◌∙◌, ◌+◌, ◌==◌, ◌&&◌, ◌||◌}
use Rattle.std.specs.Prelude.{nat_le, nat_lt}
use Rattle.std.proofs.lemmas.List.{get_or_read}
use Rattle.failure.specs.Series.{AreEndsByStep}
use Rattle.failure.proofs.Sweeping.{ends_entered, ends_passed, no_outage}
use Rattle.failure.proofs.series.enter.Goals as goal
use Rattle.failure.proofs.series.enter.Goals.{then-first-table, else-first-table}

pub loop-outage-preserved : goal.loop-outage-preserved
loop-outage-preserved c = elim c.if-first-table.branch [
  | then-first-table w ↦
      let os = c.args.outages.now in
      let i = c.loop-outage.outage-index in
      let table = c.loop-outage.table in
      let first = (get_or os i no_outage).from in
      let read : get_or table first w.index-table-first.result ≡ get_or table first [] =
      sym w.index-table-first.is ∙ get_or_read table first w.index-table-first.result w.if-first-table.true w.index-table-first.is []
      in
      subst (λ (t : List (List ℕ)). AreEndsByStep c.args.links (take (i + 1) os) t) (sym w.table-is)
      (ends_entered c.args.links os table w.lengthen.new.self i c.loop-outage-test.true w.if-first-table.true c.loop-outage.invariant
      (w.lengthen.ensures.count ∙ ap (λ (l : List ℕ). length l) read)
      (λ e x lt. w.lengthen.ensures.ends e x (omega (arith, lt, ap (λ (l : List ℕ). length l) read))
      ∙ ap (λ (l : List ℕ). nat_lt x (get_or l e 0) || ((get_or os i no_outage).link == e && nat_le x (get_or os i no_outage).to)) read))
  | else-first-table w ↦ λ step within.
      let os = c.args.outages.now in
      let i = c.loop-outage.outage-index in
      let inside : step < length c.loop-outage.table = omega (arith, within, ap (λ (t : List (List ℕ)). length t) w.table-is) in
      ends_passed c.args.links os i step (get_or c.loop-outage.table step []) (get_or c.if-first-table.table step []) c.loop-outage-test.true
      (λ same. absurd (omega (arith, same, inside, w.if-first-table.false))) (ap (λ (t : List (List ℕ)). get_or t step []) w.table-is)
      (c.loop-outage.invariant step inside)
]
