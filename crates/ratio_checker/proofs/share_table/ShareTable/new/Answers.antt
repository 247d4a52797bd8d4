use Rattle.std.proofs.Common.{◌≡◌, ◌∙◌, ◌+◌, ◌<◌, ◌≤◌, ℕ, sym, ap, arith, take, get_or, length, slice_index, subst, length-take-le}
use Rattle.std.specs.Prelude.{All, sum_by}
use Rattle.std.proofs.lemmas.List.{get_or_default, get_or-take}
use Rattle.te_model.specs.Path.{no_routes, routes_at, share, weight_on}
use Rattle.te_model.specs.Network.{link_count}
use Rattle.ratio_checker.specs.Checked.{IsSimplePath}
use Rattle.ratio_checker.specs.Shares.{HasSharesBelow}
use Rattle.ratio_checker.proofs.LinkPairLists.{taken_le}
use Rattle.ratio_checker.proofs.WeightOn.{weight_on_le}
use Rattle.ratio_checker.proofs.share_table.ShareTable.new.Goals as goal

pub shares_by_link-on_links-requires-clause-paths : goal.shares_by_link-on_links-requires-clause-paths
shares_by_link-on_links-requires-clause-paths c =
    let routes = c.args.head.now.routes in
    let list = c.as_slice-routes.result.now in
    let p = c.loop-p.p in
    let item = c.index-routes-p.result in
    let at : get_or list p item ≡ routes_at routes p =
    sym (get_or_default list p no_routes item c.loop-p-test.true) ∙ ap (λ l. routes_at l p) c.as_slice-routes.ensures
    in
    let below : p < length routes = omega (arith, c.loop-p-test.true, ap length c.as_slice-routes.ensures) in
    subst (All IsSimplePath) (sym (c.as_slice.ensures ∙ ap (λ r. r.paths) at)) (c.requires.paths p below)

pub shares_by_link-on_links-requires-clause-weights : goal.shares_by_link-on_links-requires-clause-weights
shares_by_link-on_links-requires-clause-weights c =
    let routes = c.args.head.now.routes in
    let list = c.as_slice-routes.result.now in
    let p = c.loop-p.p in
    let item = c.index-routes-p.result in
    let at : get_or list p item ≡ routes_at routes p =
    sym (get_or_default list p no_routes item c.loop-p-test.true) ∙ ap (λ l. routes_at l p) c.as_slice-routes.ensures
    in
    omega (arith, ap (sum_by (λ s. s.weight)) (c.as_slice.ensures ∙ ap (λ r. r.paths) at), c.requires.limits.shares p)

pub add_pair-requires-clause-pair : goal.add_pair-requires-clause-pair
add_pair-requires-clause-pair c = omega (arith, c.loop-p-test.true, ap length c.as_slice-routes.ensures, c.requires.limits.pairs)

pub add_pair-requires-clause-small : goal.add_pair-requires-clause-small
add_pair-requires-clause-small c = λ e.
    let routes = c.args.head.now.routes in
    let list = c.as_slice-routes.result.now in
    let p = c.loop-p.p in
    let item = c.index-routes-p.result in
    let on_links = c.shares_by_link-on_links.result in
    let links = length c.as_slice-links.result.now in
    let at : get_or list p item ≡ routes_at routes p =
    sym (get_or_default list p no_routes item c.loop-p-test.true) ∙ ap (λ l. routes_at l p) c.as_slice-routes.ensures
    in
    let is : (e : ℕ) → slice_index on_links e ≡ share routes p e =
    λ e. c.shares_by_link-on_links.ensures.shares e ∙ ap (λ paths. weight_on paths e) (c.as_slice.ensures ∙ ap (λ r. r.paths) at)
    in
    omega (arith, taken_le links on_links e, is e, weight_on_le (routes_at routes p).paths e, c.requires.limits.shares p)

pub loop-p-init : goal.loop-p-init
loop-p-init c =
    let links = length c.as_slice-links.result.now in
    let counts = c.pair_counts-counts.result in
    let long : links ≤ length counts = omega (arith, c.pair_counts-counts.ensures, c.requires.limits.links, ap length c.as_slice-links.ensures) in
    subst (λ n. HasSharesBelow c.args.head.now.routes n 0 c.in_ok-table.table.items) (length-take-le links counts long) (c.in_ok-table.ensures c.args.head.now.routes)

pub loop-p-preserved : goal.loop-p-preserved
loop-p-preserved c =
    let routes = c.args.head.now.routes in
    let list = c.as_slice-routes.result.now in
    let p = c.loop-p.p in
    let item = c.index-routes-p.result in
    let on_links = c.shares_by_link-on_links.result in
    let links = length c.as_slice-links.result.now in
    let at : get_or list p item ≡ routes_at routes p =
    sym (get_or_default list p no_routes item c.loop-p-test.true) ∙ ap (λ l. routes_at l p) c.as_slice-routes.ensures
    in
    let is : (e : ℕ) → slice_index on_links e ≡ share routes p e =
    λ e. c.shares_by_link-on_links.ensures.shares e ∙ ap (λ paths. weight_on paths e) (c.as_slice.ensures ∙ ap (λ r. r.paths) at)
    in
    let long : links ≤ length on_links = omega (arith, c.shares_by_link-on_links.ensures.count, c.requires.limits.links, ap length c.as_slice-links.ensures) in
    let count : length (take links on_links) ≡ links = length-take-le links on_links long in
    subst (λ n. HasSharesBelow routes n (p + 1) c.add_pair.new.table.items) count
    (c.in_ok-add_pair.ensures routes (subst (λ n. HasSharesBelow routes n p c.loop-p.table.items) (sym count) c.loop-p.invariant)
    (λ e below. get_or-take links on_links e 0 (omega (arith, below, count)) ∙ is e))

pub returns : goal.returns
returns c =
    let count : length c.as_slice-links.result.now ≡ link_count c.args.head.now.network = ap length c.as_slice-links.ensures in
    let all : c.loop-p.p ≡ length c.args.head.now.routes = omega (arith, c.loop-p-test.false, c.loop-p.auto.p-end, ap length c.as_slice-routes.ensures) in
    subst (λ n. HasSharesBelow c.args.head.now.routes n (length c.args.head.now.routes) c.loop-p.table.items) count
    (subst (λ n. HasSharesBelow c.args.head.now.routes (length c.as_slice-links.result.now) n c.loop-p.table.items) all c.loop-p.invariant)
