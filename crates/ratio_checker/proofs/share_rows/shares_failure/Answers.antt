use Rattle.std.proofs.Common.{◌≡◌, ◌∙◌, ◌<◌, sym, ap, length, get_or, arith, true}
use Rattle.std.proofs.lemmas.List.{get_or_default}
use Rattle.te_model.specs.Counting.{unless}
use Rattle.te_model.specs.Path.{no_routes, routes_at}
use Rattle.te_model.specs.Certificate.{row_of}
use Rattle.te_model.specs.Inequalities.{covers_share, failure_at}
use Rattle.te_model.proofs.Searches.{first_below_found, first_below_more}
use Rattle.ratio_checker.specs.Uncovered.{covers_by}
use Rattle.ratio_checker.proofs.Covering.{covers_by-is}
use Rattle.ratio_checker.proofs.WeightOn.{weight_on_le}
use Rattle.ratio_checker.proofs.share_rows.shares_failure.Goals.{then-pair-source, else-pair-source, else-not-is_free-via-then-not-is_free+else-not-covers, else-not-is_free-via-else-not-is_free}
use Rattle.ratio_checker.proofs.share_rows.shares_failure.Goals as goal

pub covers-requires-clause-share : goal.covers-requires-clause-share
covers-requires-clause-share c =
    let p = c.loop-p.p in
    let link = c.args.block.now.link in
    let routes = c.args.head.now.routes in
    let below : p < length routes = omega (arith, c.loop-p-test.true, ap length c.as_slice-routes.ensures) in
    omega (
      arith,
      c.share_at-share.ensures.share routes link c.requires.shares below,
      weight_on_le (routes_at routes p).paths link,
      c.requires.head.limits.shares p,
    )

pub returns-then-not-covers : goal.returns-then-not-covers
returns-then-not-covers c =
    let p = c.loop-p.p in
    let block = c.args.block.now in
    let routes = c.args.head.now.routes in
    let r = get_or c.as_slice-routes.result.now p c.index-routes-p.result in
    let below : p < length routes = omega (arith, c.loop-p-test.true, ap length c.as_slice-routes.ensures) in
    let at : routes_at routes p ≡ r = get_or_default routes p no_routes c.index-routes-p.result below
    ∙ ap (λ list. get_or list p c.index-routes-p.result) (sym c.as_slice-routes.ensures)
    in
    let row : c.if-pair-source.potentials.now ≡ (row_of block.rows r.pair.src).potential = elim c.if-pair-source.branch [
      | then-pair-source w ↦
          ap (λ x. x.now) w.potentials-is ∙ w.potentials_of-potentials-then-pair-source.ensures
          ∙ ap (λ rows. (row_of rows r.pair.src).potential) c.as_slice-rows.ensures
      | else-pair-source w ↦
          ap (λ x. x.now) w.potentials-is ∙ c.loop-p.invariant.row
          ∙ ap (λ s. (row_of block.rows s).potential) (sym w.if-pair-source.false)
    ]
    in
    let same : covers_by block p c.share_at-share.result.0 c.number_at-distance.result ≡ covers_share routes block p =
    covers_by-is block routes p _ _ r _ at (c.share_at-share.ensures.share routes block.link c.requires.shares below) row c.number_at-distance.ensures
    in
    sym (first_below_found (length routes) p (λ k. unless (covers_share routes block k) (failure_at 2 k)) (failure_at 2 p) below c.loop-p.invariant.none
    (ap (λ b. unless b (failure_at 2 p)) (sym same ∙ sym c.covers.ensures ∙ c.if-not-covers.true)))

pub loop-p-preserved : goal.loop-p-preserved
loop-p-preserved c =
    let p = c.loop-p.p in
    let block = c.args.block.now in
    let routes = c.args.head.now.routes in
    let r = get_or c.as_slice-routes.result.now p c.index-routes-p.result in
    let below : p < length routes = omega (arith, c.loop-p-test.true, ap length c.as_slice-routes.ensures) in
    let at : routes_at routes p ≡ r = get_or_default routes p no_routes c.index-routes-p.result below
    ∙ ap (λ list. get_or list p c.index-routes-p.result) (sym c.as_slice-routes.ensures)
    in
    let own : c.if-pair-source.potentials.now ≡ (row_of block.rows r.pair.src).potential = elim c.if-pair-source.branch [
      | then-pair-source w ↦
          ap (λ x. x.now) w.potentials-is ∙ w.potentials_of-potentials-then-pair-source.ensures
          ∙ ap (λ rows. (row_of rows r.pair.src).potential) c.as_slice-rows.ensures
      | else-pair-source w ↦
          ap (λ x. x.now) w.potentials-is ∙ c.loop-p.invariant.row
          ∙ ap (λ s. (row_of block.rows s).potential) (sym w.if-pair-source.false)
    ]
    in
    let source : c.if-pair-source.source ≡ r.pair.src = elim c.if-pair-source.branch [ then-pair-source w ↦ w.source-is | else-pair-source w ↦ w.source-is ∙ sym w.if-pair-source.false ] in
    let same : covers_by block p c.share_at-share.result.0 c.number_at-distance.result ≡ covers_share routes block p =
    covers_by-is block routes p _ _ r _ at (c.share_at-share.ensures.share routes block.link c.requires.shares below) own c.number_at-distance.ensures
    in
    let covered : covers_by block p c.share_at-share.result.0 c.number_at-distance.result ≡ true = elim c.else-not-is_free.branch [
      | else-not-is_free-via-then-not-is_free+else-not-covers w ↦ sym w.covers.ensures ∙ w.if-not-covers.false
      | else-not-is_free-via-else-not-is_free w ↦ c.is_free.ensures w.if-not-is_free.false c.number_at-distance.result
    ]
    in
    record {
      none = first_below_more p (λ k. unless (covers_share routes block k) (failure_at 2 k)) c.loop-p.invariant.none (ap (λ b. unless b (failure_at 2 p)) (sym same ∙ covered));
      place = c.share_at-share.ensures.next;
      row = own ∙ ap (λ s. (row_of block.rows s).potential) (sym source);
    }
