use Rattle.std.proofs.Common.{◌≤◌, List, length, Ok, Err, refl, sym, subst}
use Rattle.te_model.specs.declared.route.PairRoutes.{PairRoutes}
use Rattle.cert_text.specs.Fits.{FitsSet}
use Rattle.std.proofs.lemmas.Result.{err_from_is_err_and}
use Rattle.block_reader.proofs.Beginning.{few_of_count, head_stops, head_from_network, after_network_stops, head_from_routes, after_routes_stops, head_from_set, after_set_stops, head_from_ratio}
use Rattle.block_reader.proofs.PartLaws.{network_part, set_part, ratio_part}
use Rattle.block_reader.proofs.Reading.{reads_then, reads_as, reads_err}
use Rattle.block_reader.proofs.opening.head.Goals as goal

pub returns-in_err-network-clause-answers : goal.returns-in_err-network-clause-answers
returns-in_err-network-clause-answers g c = λ before.
    let p = err_from_is_err_and c.from_residual.result c.from_residual.ensures.1 in
    rw (p.1, p.2) (head_stops _ _ _ c.args.lines.now c.args.limits.now c.in_err-network.field-0.0 (c.in_err-network.ensures.answers before))

pub returns-in_err-network-clause-reads : goal.returns-in_err-network-clause-reads
returns-in_err-network-clause-reads g c =
    let p = err_from_is_err_and c.from_residual.result c.from_residual.ensures.1 in
    rw (p.1, p.2) (reads_err _ _ _ c.in_err-network.field-0.0 c.in_err-network.ensures.reads)

pub returns-in_err-routes-clause-answers : goal.returns-in_err-routes-clause-answers
returns-in_err-routes-clause-answers g c = λ before.
    let p = err_from_is_err_and c.from_residual-in_err-routes.result c.from_residual-in_err-routes.ensures.1 in
    rw (p.1, p.2) (head_from_network _ _ _ _ _ c.args.lines.now c.args.limits.now c.in_ok-network.network (Err c.in_err-routes.field-0.0) (c.in_ok-network.ensures.answers before) (after_network_stops _ _ _ c.args.lines.now c.args.limits.now c.in_ok-network.network c.in_err-routes.field-0.0 (c.in_err-routes.ensures.answers before)))

pub returns-in_err-routes-clause-reads : goal.returns-in_err-routes-clause-reads
returns-in_err-routes-clause-reads g c =
    let p = err_from_is_err_and c.from_residual-in_err-routes.result c.from_residual-in_err-routes.ensures.1 in
    rw (p.1, p.2) (reads_then _ _ _ _ c.in_ok-network.network (Err c.in_err-routes.field-0.0) c.in_ok-network.ensures.reads (reads_err _ _ _ c.in_err-routes.field-0.0 c.in_err-routes.ensures.reads))

pub returns-in_err-set-clause-answers : goal.returns-in_err-set-clause-answers
returns-in_err-set-clause-answers g c = λ before.
    let p = err_from_is_err_and c.from_residual-in_err-set.result c.from_residual-in_err-set.ensures.1 in
    rw (p.1, p.2) (head_from_network _ _ _ _ _ c.args.lines.now c.args.limits.now c.in_ok-network.network (Err c.in_err-set.field-0.0) (c.in_ok-network.ensures.answers before) (head_from_routes _ _ _ _ _ c.args.lines.now c.args.limits.now c.in_ok-network.network c.in_ok-routes.routes (Err c.in_err-set.field-0.0) (c.in_ok-routes.ensures.answers before) (after_routes_stops _ _ _ c.args.lines.now c.args.limits.now c.in_ok-network.network c.as_slice.result.now c.in_ok-routes.routes c.in_err-set.field-0.0 c.as_slice.ensures (c.in_err-set.ensures.answers before))))

pub returns-in_err-set-clause-reads : goal.returns-in_err-set-clause-reads
returns-in_err-set-clause-reads g c =
    let p = err_from_is_err_and c.from_residual-in_err-set.result c.from_residual-in_err-set.ensures.1 in
    rw (p.1, p.2) (reads_then _ _ _ _ c.in_ok-network.network (Err c.in_err-set.field-0.0) c.in_ok-network.ensures.reads (reads_then _ _ _ _ c.in_ok-routes.routes (Err c.in_err-set.field-0.0) c.in_ok-routes.ensures.reads (reads_err _ _ _ c.in_err-set.field-0.0 c.in_err-set.ensures.reads)))

pub returns-in_err-ratio-clause-answers : goal.returns-in_err-ratio-clause-answers
returns-in_err-ratio-clause-answers g c = λ before.
    let p = err_from_is_err_and c.from_residual-in_err-ratio.result c.from_residual-in_err-ratio.ensures.1 in
    rw (p.1, p.2) (head_from_network _ _ _ _ _ c.args.lines.now c.args.limits.now c.in_ok-network.network (Err c.in_err-ratio.field-0.0) (c.in_ok-network.ensures.answers before) (head_from_routes _ _ _ _ _ c.args.lines.now c.args.limits.now c.in_ok-network.network c.in_ok-routes.routes (Err c.in_err-ratio.field-0.0) (c.in_ok-routes.ensures.answers before) (head_from_set _ _ _ _ _ c.args.lines.now c.args.limits.now c.in_ok-network.network c.as_slice.result.now c.in_ok-routes.routes c.in_ok-set.set (Err c.in_err-ratio.field-0.0) c.as_slice.ensures (c.in_ok-set.ensures.answers before) (after_set_stops _ _ _ c.args.lines.now c.args.limits.now c.in_ok-network.network c.in_ok-routes.routes c.in_ok-set.set c.in_err-ratio.field-0.0 (c.in_err-ratio.ensures.answers before)))))

pub returns-in_err-ratio-clause-reads : goal.returns-in_err-ratio-clause-reads
returns-in_err-ratio-clause-reads g c =
    let p = err_from_is_err_and c.from_residual-in_err-ratio.result c.from_residual-in_err-ratio.ensures.1 in
    rw (p.1, p.2) (reads_then _ _ _ _ c.in_ok-network.network (Err c.in_err-ratio.field-0.0) c.in_ok-network.ensures.reads (reads_then _ _ _ _ c.in_ok-routes.routes (Err c.in_err-ratio.field-0.0) c.in_ok-routes.ensures.reads (reads_then _ _ _ _ c.in_ok-set.set (Err c.in_err-ratio.field-0.0) c.in_ok-set.ensures.reads (reads_err _ _ _ c.in_err-ratio.field-0.0 c.in_err-ratio.ensures.reads))))

pub returns-clause-answers : goal.returns-clause-answers
returns-clause-answers g c = λ before.
    head_from_network _ _ _ _ _ _ c.args.limits.now c.in_ok-network.network (Ok _) (c.in_ok-network.ensures.answers before) (head_from_routes _ _ _ _ _ _ c.args.limits.now c.in_ok-network.network c.in_ok-routes.routes (Ok _) (c.in_ok-routes.ensures.answers before) (head_from_set _ _ _ _ _ _ c.args.limits.now c.in_ok-network.network c.as_slice.result.now c.in_ok-routes.routes c.in_ok-set.set (Ok _) c.as_slice.ensures (c.in_ok-set.ensures.answers before) (head_from_ratio _ _ _ _ c.args.limits.now c.in_ok-network.network c.in_ok-routes.routes c.in_ok-set.set c.in_ok-ratio.ratio (c.in_ok-ratio.ensures.answers before))))

pub returns-clause-reads : goal.returns-clause-reads
returns-clause-reads g c =
    reads_then _ _ _ _ c.in_ok-network.network (Ok _) c.in_ok-network.ensures.reads (reads_then _ _ _ _ c.in_ok-routes.routes (Ok _) c.in_ok-routes.ensures.reads (reads_then _ _ _ _ c.in_ok-set.set (Ok _) c.in_ok-set.ensures.reads (reads_as _ _ _ c.in_ok-ratio.ratio _ c.in_ok-ratio.ensures.reads)))

pub returns-clause-fits : goal.returns-clause-fits
returns-clause-fits g c = record { format = refl; network = c.in_ok-network.ensures.fits; routes = c.in_ok-routes.ensures.fits; set = subst (λ (rs : List PairRoutes). FitsSet c.args.limits.now (length rs) c.in_ok-set.set) c.as_slice.ensures c.in_ok-set.ensures.fits; ratio = c.in_ok-ratio.ensures.fits }

pub read_part-requires-clause-part : goal.read_part-requires-clause-part
read_part-requires-clause-part g c = network_part c.args.limits.now c.requires.limits

pub read_part-requires-2-clause-part : goal.read_part-requires-2-clause-part
read_part-requires-2-clause-part g c =
    let few : length c.in_ok-routes.routes ≤ c.args.limits.now.pairs = few_of_count 0 c.args.limits.now.pairs (length c.in_ok-routes.routes) c.in_ok-routes.ensures.fits.pairs in
    set_part c.args.limits.now (length c.as_slice.result.now) c.requires.limits (subst (λ (rs : List PairRoutes). length rs ≤ c.args.limits.now.pairs) (sym c.as_slice.ensures) few)

pub read_part-requires-3-clause-part : goal.read_part-requires-3-clause-part
read_part-requires-3-clause-part g c = ratio_part
