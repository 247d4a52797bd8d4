use Rattle.std.proofs.Common.{◌≡◌, length, arith, ap, sym, subst, ◌∙◌, true}
use Rattle.std.specs.Prelude.{reverse, slice_index_or}
use Rattle.std.proofs.lemmas.List.{get_or_default}
use Rattle.te_model.specs.Pairs.{no_pair}
use Rattle.local_recovery.specs.Rates.{have_rates}
use Rattle.local_recovery.specs.Spread.{IsSpread}
use Rattle.local_recovery.proofs.Spreading.{SpreadSoFar, spread_begin, spread_more, spread_end, spread_rates}
use Rattle.local_recovery.proofs.rates.Recovered.spread.Goals as goal

pub loop-pair-init : goal.loop-pair-init
loop-pair-init c =
    subst (SpreadSoFar c.args.self.routes c.args.pairs.now.list 0 c.reverse.new.self.items) (sym c.new-list.ensures.items)
    (spread_begin c.args.self.routes c.args.pairs.now.list c.reverse.new.self.items (c.reverse.ensures.items ∙ ap reverse c.into_vec-left.ensures) c.requires)

pub loop-pair-preserved : goal.loop-pair-preserved
loop-pair-preserved c =
    spread_more c.args.self.routes c.args.pairs.now.list c.as_slice-pair-items.result.now c.loop-pair.pair-index
    (slice_index_or c.as_slice-pair-items.result.now c.loop-pair.pair-index no_pair) c.loop-pair.left.items
    c.taken_for.new.left.items c.loop-pair.list.items c.push.new.self.items c.taken_for.result c.loop-pair.invariant c.as_slice-pair-items.ensures
    c.loop-pair-test.true (get_or_default c.as_slice-pair-items.result.now c.loop-pair.pair-index no_pair _ c.loop-pair-test.true) c.taken_for.ensures
    c.in_ok-push.ensures.items

pub invariant_of-result : goal.invariant_of-result
invariant_of-result c = record {
  rates = subst (λ rs. have_rates rs ≡ true) (sym c.new.ensures)
      (spread_rates c.args.self.routes c.loop-pair.list.items c.args.self.rates c.loop-pair.invariant.added);
}

pub returns : goal.returns
returns c =
    subst (IsSpread c.args.pairs.now.list c.args.self.routes) (sym c.new.ensures)
    (spread_end c.args.self.routes c.args.pairs.now.list c.loop-pair.pair-index c.loop-pair.left.items c.loop-pair.list.items c.loop-pair.invariant
    (omega (arith, ap length c.as_slice-pair-items.ensures, c.loop-pair-test.false, c.loop-pair.auto.pair-index-end)))
