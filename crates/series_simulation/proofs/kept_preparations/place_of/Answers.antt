use Rattle.std.specs.Cmp.{booleans_Decides}
use Rattle.std.proofs.lemmas.Slice.Eq.{slice_eq-Decides}
use Rattle.series_simulation.proofs.KeptPreparations.{marks_at}
use Rattle.series_simulation.proofs.kept_preparations.place_of.Goals as goal

pub returns-then-eq : goal.returns-then-eq
returns-then-eq g c = (
  c.loop-place-test.true,
  marks_at c.args.kept.now c.index-kept-place.result c.loop-place.place c.as_slice.result.now c.args.failed.now c.loop-place-test.true c.as_slice.ensures
      ((slice_eq-Decides booleans_Decides _ _ _ c.eq.ensures).0 c.if-eq.true),
)
