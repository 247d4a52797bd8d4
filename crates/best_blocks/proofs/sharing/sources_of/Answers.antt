use Rattle.std.proofs.Common.{◌≡◌, ◌+◌, ◌<◌, true, List, length, get_or, set, slice_index, arith, ap, sym, subst, ◌∙◌}
use Rattle.std.proofs.lemmas.List.{get_or_read}
use Rattle.te_model.specs.declared.route.PairRoutes.{PairRoutes}
use Rattle.te_model.specs.Path.{no_routes, routes_at}
use Rattle.best_blocks.specs.Marks.{AreSourceMarks}
use Rattle.best_blocks.proofs.Marking.{mark_added, mark_left_out, no_marks}
use Rattle.best_blocks.proofs.sharing.sources_of.Goals as goal
use Rattle.best_blocks.proofs.sharing.sources_of.Goals.{then-needs_row, else-needs_row}

pub loop-p-init : goal.loop-p-init
loop-p-init c =
    let shares = slice_index c.args.shares.now in
    subst (AreSourceMarks c.args.nodes 0 c.args.routing.now.routes c.args.set.now shares) (sym (c.in_ok-marks.ensures.items_if_clones_equal (λ y same. same)))
    (no_marks c.args.nodes c.args.routing.now.routes c.args.set.now shares)

pub loop-p-preserved : goal.loop-p-preserved
loop-p-preserved c =
    let nodes = c.args.nodes in
    let routes = c.args.routing.now.routes in
    let wanted = c.args.set.now in
    let shares = slice_index c.args.shares.now in
    let p = c.loop-p.p in
    let marks = c.loop-p.marks.items in
    let inside : p < length routes = omega (arith, c.loop-p-test.true, ap (λ (rs : List PairRoutes). length rs) c.as_slice-routes.ensures) in
    elim c.if-needs_row.branch [
      | then-needs_row w ↦
          let read = c.as_slice-routes.result.now in
          let at : get_or read p w.index-routes-p.result ≡ routes_at routes p =
          sym w.index-routes-p.is ∙ get_or_read read p w.index-routes-p.result c.loop-p-test.true w.index-routes-p.is no_routes
          ∙ ap (λ (rs : List PairRoutes). routes_at rs p) c.as_slice-routes.ensures
          in
          rw w.marks-is
          (subst (λ (r : PairRoutes). AreSourceMarks nodes (p + 1) routes wanted shares (set marks r.pair.src true)) (sym at)
          (mark_added nodes p routes wanted shares marks inside (c.requires.pairs p inside) (sym c.needs_row.ensures ∙ w.if-needs_row.true) c.loop-p.invariant))
      | else-needs_row w ↦
          rw w.marks-is (mark_left_out nodes p routes wanted shares marks (sym c.needs_row.ensures ∙ w.if-needs_row.false) c.loop-p.invariant)
    ]
