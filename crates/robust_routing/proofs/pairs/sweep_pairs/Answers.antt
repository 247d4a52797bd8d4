use Rattle.std.proofs.Common.{◌∙◌, arith, refl, sym, subst}
use Rattle.std.proofs.lemmas.List.Elements.{All-get_or}
use Rattle.te_model.specs.Network.{link_count}
use Rattle.shortest_path.specs.declared.rows.Direction.TheVariants.{Backward}
use Rattle.shortest_path.specs.Rows.{IsSearchGraph}
use Rattle.scheme.specs.Reach.{IsPairOf, no_pair}
use Rattle.robust_routing.specs.Lengths.{AreLengths}
use Rattle.robust_routing.specs.Sweep.{looks}
use Rattle.robust_routing.proofs.Lengthening.{lengths_by_marks}
use Rattle.robust_routing.proofs.Shifts.{own_paths, shifts_all, shifts_more, shifts_none}
use Rattle.robust_routing.proofs.pairs.sweep_pairs.Goals as goal

pub bounds-round-p : goal.bounds-round-p
bounds-round-p c = omega (arith, c.loop-p-test.true, c.requires.list.count)

pub shift_pair-requires-clause-against : goal.shift_pair-requires-clause-against
shift_pair-requires-clause-against c =
    subst (IsSearchGraph c.args.round.now.net.now Backward) (sym c.loop-p.invariant.0) c.requires.against

pub shift_pair-requires-clause-pair : goal.shift_pair-requires-clause-pair
shift_pair-requires-clause-pair c =
    All-get_or (IsPairOf c.args.round.now.net.now) c.args.round.now.pairs.now c.loop-p.p no_pair (omega (arith, c.loop-p-test.true, c.requires.list.count)) c.requires.round.pairs

pub shift_pair-requires-clause-rates : goal.shift_pair-requires-clause-rates
shift_pair-requires-clause-rates c =
    own_paths c.args.round.now.net.now c.args.limit c.args.round.now.pairs.now c.loop-p.list c.loop-p.p c.index-list-p.result c.loop-p.invariant.1.paths
    (omega (arith, c.loop-p-test.true, c.loop-p.auto.list))

pub shift_pair-requires-clause-lengths : goal.shift_pair-requires-clause-lengths
shift_pair-requires-clause-lengths c =
    lengths_by_marks c.args.round.now.net.now c.args.open.now c.deref.result.now c.in_ok-lengths.lengths.items c.requires.every c.deref.ensures.value
    c.in_ok-lengths.ensures.lengths

pub loop-p-init : goal.loop-p-init
loop-p-init c = (
  refl,
  shifts_none c.args.round.now.net.now c.args.round.now.sweep (AreLengths (link_count c.args.round.now.net.now)) c.args.round.now.pairs.now (looks c.args.round.now.sweep) c.args.limit
      c.args.list.now c.requires.list,
)

pub loop-p-preserved : goal.loop-p-preserved
loop-p-preserved c = (
  c.shift_pair.ensures.same ∙ c.loop-p.invariant.0,
  shifts_more c.args.round.now.net.now c.args.round.now.sweep (AreLengths (link_count c.args.round.now.net.now)) c.args.round.now.pairs.now (looks c.args.round.now.sweep) c.args.limit
      c.loop-p.p c.args.list.now c.loop-p.list c.index-list-p.result c.shift_pair.new.rates c.deref.result.now c.looks-looks.result c.loop-p.invariant.1
      (omega (arith, c.loop-p-test.true, c.loop-p.auto.list)) (lengths_by_marks c.args.round.now.net.now c.args.open.now c.deref.result.now c.in_ok-lengths.lengths.items c.requires.every c.deref.ensures.value
      c.in_ok-lengths.ensures.lengths) c.in_ok-shift_pair.ensures.rates c.looks-looks.ensures c.in_ok-shift_pair.ensures.shift,
)

pub returns-clause-shifts : goal.returns-clause-shifts
returns-clause-shifts c =
    shifts_all c.args.round.now.net.now c.args.round.now.sweep (AreLengths (link_count c.args.round.now.net.now)) c.args.round.now.pairs.now (looks c.args.round.now.sweep) c.args.limit
    c.loop-p.p c.args.list.now c.loop-p.list c.loop-p.invariant.1 (omega (arith, c.loop-p-test.false, c.loop-p.auto.list))
