use Rattle.std.proofs.Common.{◌≡◌, get_or, arith, ap, slice_index, sym, ◌∙◌}
use Rattle.std.proofs.lemmas.List.{get_or_read}
use Rattle.best_blocks.specs.declared.scaling.Scale.{Scale}
use Rattle.best_blocks.proofs.Quotients.{best_init}
use Rattle.kept_ways.specs.declared.ways.KeptWay.{KeptWay}
use Rattle.kept_ways.specs.KeptWays.{no_way, way_at}
use Rattle.kept_ways.proofs.Measured.{quotient_more}
use Rattle.kept_ways.proofs.lengths.greatest_quotient.Goals as goal

pub loop-i-init : goal.loop-i-init
loop-i-init c = ((0, best_init (λ k. (way_at c.args.ways.now k).share) (slice_index c.args.lengths.now)), omega arith, omega arith)

pub loop-i-preserved : goal.loop-i-preserved
loop-i-preserved c =
    let ways = c.args.ways.now in
    let i = c.loop-i.i in
    let (p, so_far) = c.loop-i.invariant.0 in
    let best = c.loop-i.best in
    let greater = c.greater-best.result in
    let at : c.index-ways-i.result ≡ way_at ways i = get_or_read ways i c.index-ways-i.result c.loop-i-test.true c.index-ways-i.is no_way in (
      quotient_more ways c.args.lengths.now i p best.a best.b (get_or ways i c.index-ways-i.result).share greater.a greater.b c.requires.lengths c.loop-i-test.true so_far
          (ap (λ (w : KeptWay). w.share) (sym c.index-ways-i.is ∙ at)) c.greater-best.ensures.taken
          (λ less. (ap (λ (s : Scale). s.a) (c.greater-best.ensures.kept less), ap (λ (s : Scale). s.b) (c.greater-best.ensures.kept less))),
      c.greater-best.ensures.small.0,
      c.greater-best.ensures.small.1,
    )
