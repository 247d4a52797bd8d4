use Rattle.std.proofs.Common.{◌≡◌, ◌∙◌, ◌<◌, sym, ap, arith, get_or, length, subst}
use Rattle.std.specs.Prelude.{All, sum_by}
use Rattle.std.proofs.lemmas.List.{get_or_default}
use Rattle.te_model.specs.Path.{no_routes, routes_at}
use Rattle.ratio_checker.specs.Checked.{IsSimplePath}
use Rattle.ratio_checker.proofs.share_table.pair_counts.Goals as goal

pub shares_by_link-on_links-requires-clause-paths : goal.shares_by_link-on_links-requires-clause-paths
shares_by_link-on_links-requires-clause-paths c =
    let routes = c.args.head.now.routes in
    let list = c.as_slice-routes.result.now in
    let p = c.loop-p.p in
    let item = c.index-routes-p.result in
    let at : get_or list p item ≡ routes_at routes p =
    sym (get_or_default list p no_routes item c.loop-p-test.true) ∙ ap (λ l. routes_at l p) c.as_slice-routes.ensures
    in
    let below : p < length routes = omega (arith, c.loop-p-test.true, ap length c.as_slice-routes.ensures) in
    subst (All IsSimplePath) (sym (c.as_slice.ensures ∙ ap (λ r. r.paths) at)) (c.requires.paths p below)

pub shares_by_link-on_links-requires-clause-weights : goal.shares_by_link-on_links-requires-clause-weights
shares_by_link-on_links-requires-clause-weights c =
    let routes = c.args.head.now.routes in
    let list = c.as_slice-routes.result.now in
    let p = c.loop-p.p in
    let item = c.index-routes-p.result in
    let at : get_or list p item ≡ routes_at routes p =
    sym (get_or_default list p no_routes item c.loop-p-test.true) ∙ ap (λ l. routes_at l p) c.as_slice-routes.ensures
    in
    omega (arith, ap (sum_by (λ s. s.weight)) (c.as_slice.ensures ∙ ap (λ r. r.paths) at), c.requires.limits.shares p)
