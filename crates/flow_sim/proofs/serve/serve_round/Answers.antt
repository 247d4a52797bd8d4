use Rattle.std.proofs.Common.{◌≡◌, ◌<◌, ◌^◌, ℕ, [], false, length, map, sum, slice_index, arith, ap, subst}
use Rattle.std.specs.Prelude.{slice_index_or}
use Rattle.flow_sim.specs.Serving.{IsAbsent, IsServed, flow_at}
use Rattle.flow_sim.proofs.ServeLaws.{halfway_more, then_shape, same_arrivals}
use Rattle.flow_sim.proofs.serve.serve_round.Goals as goal

pub serve_link-requires-clause-fits : goal.serve_link-requires-clause-fits
serve_link-requires-clause-fits c =
    let e = c.loop-link.link in
    let q : c.queue.result.now ≡ slice_index_or c.args.round.now e [] = c.queue.ensures in
    let fits : sum (map (slice_index c.loop-link.state.units.items) c.queue.result.now) < 2 ^ 64 =
    omega (
      arith,
      c.requires.fits e,
      ap (λ xs. sum (map (slice_index c.loop-link.state.units.items) xs)) q,
      ap sum (same_arrivals c.args.failed.now c.args.round.now (length c.args.state.now.units.items) e c.args.state.now c.loop-link.state
          c.requires.apart c.loop-link.invariant.halfway),
    ) in
    fits

pub loop-link-preserved : goal.loop-link-preserved
loop-link-preserved c =
    let e = c.loop-link.link in
    let now = c.loop-link.state in
    let next = c.serve_link.new.state in
    let mark = slice_index_or c.args.failed.now e false in
    let q : c.queue.result.now ≡ slice_index_or c.args.round.now e [] = c.queue.ensures in
    let more = c.in_ok-serve_link.ensures in
    record {
      shape = then_shape (length c.args.state.now.units.items) (length c.args.failed.now) now next c.loop-link.invariant.shape more.shape;
      halfway = halfway_more c.args.failed.now c.args.round.now (length c.args.state.now.units.items) e c.args.state.now now next
          c.requires.apart c.loop-link.invariant.halfway
          (subst (λ xs. IsServed mark e xs now next) q more.served)
          (subst (λ xs. (f : ℕ) → IsAbsent xs f → flow_at next f ≡ flow_at now f) q more.others)
          more.other_links;
    }
