use Rattle.std.proofs.Common.{◌≡◌, ℕ, ◌+◌, ◌<◌, List, [], ◌++◌, length, take, drop, map, max, get_or, replicate, arith, ap, sym, subst, ◌∙◌, rules}
use Rattle.std.specs.Prelude.{nat_lt}
use Rattle.std.specs.List.{range_with_len}
use Rattle.std.proofs.lemmas.List.FromFn.{map-range_with_len_more}
use Rattle.te_model.specs.declared.network.Link.{Link}
use Rattle.te_model.specs.Network.{link_count}
use Rattle.te_model.proofs.Lists.{written_whole}
use Rattle.failure.specs.declared.outage.Outage.{Outage}
use Rattle.failure.specs.Series.{AreEnds, AreEndsByStep, marks_of}
use Rattle.failure.proofs.Sweeping.{ends_begin, ends_more, marks_ended, row_lent}
use Rattle.failure.proofs.outage.Failures.series.Goals as goal

pub loop-step-init : goal.loop-step-init
loop-step-init c =
    let net = c.args.net.now in
    let outages = c.args.self.now.list in
    let old = c.in_ok-table.table.items in
    let new = c.enter.new.table in
    let links = length c.as_slice-links.result.now in
    let same : links ≡ link_count net = ap (λ (ls : List Link). length ls) c.as_slice-links.ensures in
    let zeros : c.in_ok-latest.latest.items ≡ replicate links 0 = search rules in
    let kept : length new ≡ length old = c.enter.auto.table ∙ ap (λ (t : List (List ℕ)). length t) c.deref_mut.ensures.value in
    let count : length old ≡ c.args.steps = sym c.in_ok-table.table.ok.0 ∙ c.in_ok-table.ensures.0 in
    let entered =
    subst (λ n. AreEndsByStep n outages new) same (subst (λ (os : List Outage). AreEndsByStep links os new) c.as_slice.ensures c.enter.ensures)
    in
    rw (written_whole c.in_ok-table.table.len new old kept c.in_ok-table.table.ok.0) (record {
      rows = kept ∙ count;
      table = entered;
      latest = subst (λ n. AreEnds n (λ from. nat_lt from 0) outages c.in_ok-latest.latest.items) same (ends_begin links outages c.in_ok-latest.latest.items zeros);
      series = c.in_ok-series.ensures.items;
    })

-- the ends of the step
lent : (c : goal.After-as_slice-in-loop-step) →
    c.as_slice-in-loop-step.result.now
    ≡ get_or (take c.in_ok-table.table.len (c.enter.new.table ++ drop (length c.enter.new.table) c.in_ok-table.table.items)) c.loop-step.step []
lent c =
    row_lent (take c.in_ok-table.table.len (c.enter.new.table ++ drop (length c.enter.new.table) c.in_ok-table.table.items)) c.loop-step.step
    c.as_slice-in-loop-step.result.now c.index.result.now (c.as_slice-in-loop-step.ensures.value ∙ c.behind-table.view_is) c.index.ensures
    (omega (arith, c.loop-step-test.true, c.loop-step.invariant.rows))

pub overtake-requires : goal.overtake-requires
overtake-requires c =
    let row = c.loop-step.invariant.table c.loop-step.step (omega (arith, c.loop-step-test.true, c.loop-step.invariant.rows)) in
    ap (λ (l : List ℕ). length l) (lent c)
    ∙ (row.count ∙ (sym c.loop-step.invariant.latest.count ∙ sym (ap (λ (l : List ℕ). length l) c.deref_mut-in-loop-step.ensures.value)))

pub loop-step-preserved : goal.loop-step-preserved
loop-step-preserved c =
    let net = c.args.net.now in
    let failures = c.args.self.now in
    let outages = failures.list in
    let step = c.loop-step.step in
    let old = c.loop-step.latest.items in
    let new = c.overtake.new.latest in
    let table = take c.in_ok-table.table.len (c.enter.new.table ++ drop (length c.enter.new.table) c.in_ok-table.table.items) in
    let inside : step < length table = omega (arith, c.loop-step-test.true, c.loop-step.invariant.rows) in
    let row : c.as_slice-in-loop-step.result.now ≡ get_or table step [] =
    row_lent table step c.as_slice-in-loop-step.result.now c.index.result.now (c.as_slice-in-loop-step.ensures.value ∙ c.behind-table.view_is) c.index.ensures inside
    in
    let value : c.deref_mut-in-loop-step.result.now ≡ old = c.deref_mut-in-loop-step.ensures.value in
    let kept : length new ≡ length old = c.overtake.auto.latest ∙ ap (λ (l : List ℕ). length l) value in
    let whole = written_whole c.loop-step.latest.len new old kept c.loop-step.latest.ok.0 in
    let after : AreEnds (link_count net) (λ from. nat_lt from (step + 1)) outages new =
    ends_more (link_count net) step outages old (get_or table step []) new c.loop-step.invariant.latest (c.loop-step.invariant.table step inside) kept
    (λ e below. c.overtake.ensures e (omega (arith, below, ap (λ (l : List ℕ). length l) value))
    ∙ (ap (λ (l : List ℕ). max (get_or l e 0) (get_or c.as_slice-in-loop-step.result.now e 0)) value ∙ ap (λ (l : List ℕ). max (get_or old e 0) (get_or l e 0)) row))
    in
    let shown : c.deref.result.now ≡ new = c.deref.ensures.value ∙ whole in
    let marks : c.new.result ≡ marks_of net failures step =
    c.new.ensures
    ∙ (c.in_ok-marks.ensures
    ∙ (ap (λ (l : List ℕ). map (λ e. nat_lt step (get_or l e 0)) (range_with_len 0 (length l))) shown ∙ marks_ended (link_count net) step outages new after))
    in
    record {
      rows = c.loop-step.invariant.rows;
      table = c.loop-step.invariant.table;
      latest = subst (λ (l : List ℕ). AreEnds (link_count net) (λ from. nat_lt from (step + 1)) outages l) (sym whole) after;
      series = c.in_ok-push.ensures.items
          ∙ rw (c.loop-step.invariant.series, marks) (sym (map-range_with_len_more (marks_of net failures) 0 step step (omega arith)));
    }
