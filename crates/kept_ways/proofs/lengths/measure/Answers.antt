use Rattle.std.proofs.Common.{◌≡◌, List, ℕ, arith, ap, sym, ◌∙◌}
use Rattle.std.proofs.lemmas.List.{get_or_read}
use Rattle.kept_ways.specs.declared.ways.KeptWay.{KeptWay}
use Rattle.kept_ways.specs.KeptWays.{length_by, no_way, way_at}
use Rattle.kept_ways.proofs.Measured.{measured_more}
use Rattle.kept_ways.proofs.lengths.measure.Goals as goal

pub loop-i-preserved : goal.loop-i-preserved
loop-i-preserved c =
    let ways = c.args.ways.now in
    let i = c.loop-i.i in
    let at : c.index-ways-i.result ≡ way_at ways i = get_or_read ways i c.index-ways-i.result c.loop-i-test.true c.index-ways-i.is no_way in
    let links = c.as_slice.ensures ∙ ap (λ (w : KeptWay). w.links) (sym c.index-ways-i.is ∙ at) in
    measured_more c.args.weights.now ways c.loop-i.lengths i c.length_of.result (omega (arith, c.loop-i-test.true, c.requires.count, c.loop-i.auto.lengths))
    (c.length_of.ensures ∙ ap (λ (xs : List ℕ). length_by c.args.weights.now xs) links) c.loop-i.invariant
