use Rattle.std.proofs.Common.{◌≡◌, ◌<◌, ◌∙◌, [], length, get_or, arith, ap, sym, subst}
use Rattle.std.proofs.lemmas.List.{get_or_default}
use Rattle.robust_routing.specs.Lowering.{AreLowered, IsLowering}
use Rattle.robust_routing.specs.Rates.{PathsWithRates, rates_at}
use Rattle.robust_routing.proofs.Places.{each_written, rest_stays}
use Rattle.robust_routing.proofs.lowering.lower_rates.Goals as goal

pub loop-p-preserved : goal.loop-p-preserved
loop-p-preserved c =
    let sweep = c.args.sweep in
    let tables = c.args.tables.now in
    let p = c.loop-p.p in
    let list = c.loop-p.list in
    let old = c.args.list.now in
    let new = c.set_rates.new.self in
    let none : PathsWithRates = record { paths = []; rates = [] } in
    let below : p < length list = omega (arith, c.loop-p-test.true, c.loop-p.auto.list) in
    let is : rates_at list p ≡ rates_at old p = c.loop-p.invariant.1 p (omega arith) in
    let read : get_or list p c.index-list-p.result ≡ rates_at old p = sym (get_or_default list p none c.index-list-p.result below) ∙ is in
    let lowering : IsLowering sweep tables p (rates_at old p) new = record {
      paths = c.set_rates.ensures.paths
          ∙ ap (λ (r : PathsWithRates). r.paths) (sym (get_or_default list p none c.index-list-p-in-loop-p.result below) ∙ is);
      lowered = c.in_ok-rates.rates.items;
      rates = subst (λ (r : PathsWithRates). AreLowered sweep tables p r c.in_ok-rates.rates.items) read c.in_ok-rates.ensures;
      scaled = c.set_rates.ensures.rates;
    }
    in (
      each_written (λ q (x : PathsWithRates). IsLowering sweep tables q (rates_at old q) x) list p new none below c.loop-p.invariant.0 lowering,
      rest_stays list old p new none c.loop-p.invariant.1,
    )
