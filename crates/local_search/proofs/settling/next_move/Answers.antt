use Rattle.std.proofs.Common.{slice_index, arith, sym, subst}
use Rattle.std.proofs.lemmas.Option.{IfSome_then}
use Rattle.routing.specs.Utilisation.{parts}
use Rattle.local_search.specs.Loads.{HasAbove}
use Rattle.local_search.specs.Moves.{ImprovesBy1024th}
use Rattle.local_search.specs.Pairs.{HasHolders}
use Rattle.local_search.proofs.MovedLoads.{loads_small}
use Rattle.local_search.proofs.Settled.{aim_above, fits_can, fits_lower, none_then, parts_of_loads, peak_small, stable_from_none}
use Rattle.local_search.proofs.settling.next_move.Goals as goal

pub returns-then-peak-eq0-clause-none : goal.returns-then-peak-eq0-clause-none
returns-then-peak-eq0-clause-none c = λ p k to size moved can is improves.
    let peak = c.peak_of-peak.result in
    let are = parts_of_loads c.args.net.now c.args.matrix.now.demand c.args.routes.now c.args.loads.now peak.link peak.parts c.requires.network c.requires.loads c.peak_of-peak.ensures in
    omega (arith, improves.0, are, c.if-peak-eq0.true)

pub greatest_improvement-times-requires-clause-fits : goal.greatest_improvement-times-requires-clause-fits
greatest_improvement-times-requires-clause-fits c =
    let peak = c.peak_of-peak.result in
    let small =
    loads_small c.args.net.now c.args.matrix.now.demand c.args.routes.now c.args.loads.now c.requires.splits c.requires.few c.requires.demands c.requires.loads
    in
    peak_small c.args.net.now c.args.loads.now peak.link peak.parts c.requires.network c.requires.loads.count small c.peak_of-peak.ensures

pub fitting_move-requires-clause-small : goal.fitting_move-requires-clause-small
fitting_move-requires-clause-small c =
    loads_small c.args.net.now c.args.matrix.now.demand c.args.routes.now c.args.loads.now c.requires.splits c.requires.few c.requires.demands c.requires.loads

pub links_above-requires-clause-times : goal.links_above-requires-clause-times
links_above-requires-clause-times c =
    let peak = c.peak_of-peak.result in
    let small =
    loads_small c.args.net.now c.args.matrix.now.demand c.args.routes.now c.args.loads.now c.requires.splits c.requires.few c.requires.demands c.requires.loads
    in
    let less = (c.greatest_improvement-times.ensures c.greatest_improvement-times.result).1 (omega arith) in
    omega (arith, less.0, peak_small c.args.net.now c.args.loads.now peak.link peak.parts c.requires.network c.requires.loads.count small c.peak_of-peak.ensures)

pub fitting_move-requires-clause-times : goal.fitting_move-requires-clause-times
fitting_move-requires-clause-times c =
    let peak = c.peak_of-peak.result in
    let small =
    loads_small c.args.net.now c.args.matrix.now.demand c.args.routes.now c.args.loads.now c.requires.splits c.requires.few c.requires.demands c.requires.loads
    in
    let less = (c.greatest_improvement-times.ensures c.greatest_improvement-times.result).1 (omega arith) in
    omega (arith, less.0, peak_small c.args.net.now c.args.loads.now peak.link peak.parts c.requires.network c.requires.loads.count small c.peak_of-peak.ensures)

pub fitting_move-requires-clause-above : goal.fitting_move-requires-clause-above
fitting_move-requires-clause-above c =
    subst (HasAbove c.args.net.now c.greatest_improvement-times.result (slice_index c.args.loads.now)) (sym c.new.ensures) c.in_ok-above.ensures

pub fitting_move-requires-clause-over : goal.fitting_move-requires-clause-over
fitting_move-requires-clause-over c =
    let peak = c.peak_of-peak.result in
    let times = c.greatest_improvement-times.result in
    let less = (c.greatest_improvement-times.ensures times).1 (omega arith) in
    (aim_above c.args.net.now c.args.loads.now peak.link peak.parts times c.peak_of-peak.ensures less.0).1

pub fitting_move-requires-clause-holders : goal.fitting_move-requires-clause-holders
fitting_move-requires-clause-holders c =
    let peak = c.peak_of-peak.result in
    let times = c.greatest_improvement-times.result in
    let less = (c.greatest_improvement-times.ensures times).1 (omega arith) in
    let inside = (aim_above c.args.net.now c.args.loads.now peak.link peak.parts times c.peak_of-peak.ensures less.0).0 in
    subst (HasHolders c.args.routes.now peak.link) (sym c.on-pairs.ensures) (c.requires.holders.each peak.link inside)

pub returns-clause-some : goal.returns-clause-some
returns-clause-some c =
    let peak = c.peak_of-peak.result in
    let times = c.greatest_improvement-times.result in
    let less = (c.greatest_improvement-times.ensures times).1 (omega arith) in
    let above = aim_above c.args.net.now c.args.loads.now peak.link peak.parts times c.peak_of-peak.ensures less.0 in
    IfSome_then c.fitting_move.result c.fitting_move.ensures.some (λ m fits.
    fits_can c.args.net.now c.args.matrix.now.demand c.args.routes.now c.args.candidates.now c.args.loads.now times
    m.pair m.from m.target.candidate m.target.size peak.link fits above.0 above.1)

pub returns-clause-improves : goal.returns-clause-improves
returns-clause-improves c =
    let peak = c.peak_of-peak.result in
    let times = c.greatest_improvement-times.result in
    let are = parts_of_loads c.args.net.now c.args.matrix.now.demand c.args.routes.now c.args.loads.now peak.link peak.parts c.requires.network c.requires.loads c.peak_of-peak.ensures in
    IfSome_then c.fitting_move.result c.fitting_move.ensures.some (λ m fits moved is.
    let y = parts c.args.net.now moved c.args.matrix.now.demand in
    let le =
    fits_lower c.args.net.now c.args.matrix.now.demand c.args.routes.now c.args.candidates.now moved c.args.loads.now times
    m.pair m.from m.target.candidate m.target.size c.requires.network c.requires.loads fits is
    in
    subst (λ x. ImprovesBy1024th x y) (sym are) ((c.greatest_improvement-times.ensures y).1 le))

pub returns-clause-none : goal.returns-clause-none
returns-clause-none c =
    let peak = c.peak_of-peak.result in
    let times = c.greatest_improvement-times.result in
    none_then c.fitting_move.result c.fitting_move.ensures.none
    (stable_from_none c.args.net.now c.args.matrix.now.demand c.args.routes.now c.args.candidates.now c.args.loads.now peak.parts times c.requires.network c.requires.loads
    (parts_of_loads c.args.net.now c.args.matrix.now.demand c.args.routes.now c.args.loads.now peak.link peak.parts c.requires.network c.requires.loads c.peak_of-peak.ensures)
    (λ y is. (c.greatest_improvement-times.ensures y).0 is))
