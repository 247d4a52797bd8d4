use Rattle.std.proofs.Common.{◌≡◌, ◌+◌, ◌<◌, ℕ, List, [], length, get_or, ap, arith, sym, subst, ◌∙◌, All, take}
use Rattle.std.proofs.lemmas.List.{get_or_read, take_all, length-take}
use Rattle.std.proofs.lemmas.List.Elements.{All-get_or, All-weaker}
use Rattle.te_model.specs.declared.route.PathShare.{PathShare}
use Rattle.te_model.specs.declared.route.PairRoutes.{PairRoutes}
use Rattle.te_model.specs.Network.{link_count}
use Rattle.te_model.specs.Path.{no_routes, routes_at, share, weight_on}
use Rattle.routing.specs.declared.shares.PairShare.{PairShare}
use Rattle.routing.specs.Shares.{shares_on, AreLinksOnce, IsAddition, IsShareList, share_in}
use Rattle.te_model.proofs.Lists.{written_whole}
use Rattle.routing.proofs.Shared.{shares_done}
use Rattle.routing.proofs.Sharing.{order_weaker, paths_once, share_more}
use Rattle.te_model.proofs.Tests.{get_or_past}
use Rattle.routing.proofs.shares.Shares.new.Goals as goal

-- the paths that are lent are those of pair p
paths_read : (routes listed : List PairRoutes) (r : PairRoutes) (p : ℕ) (paths : List PathShare) → listed ≡ routes → p < length listed →
    r ≡ get_or listed p r → paths ≡ (get_or listed p r).paths → paths ≡ (routes_at routes p).paths
paths_read routes listed r p paths is below read lent =
    lent ∙ ap (λ (r : PairRoutes). r.paths) (sym read ∙ get_or_read listed p r below read no_routes) ∙ ap (λ (rs : List PairRoutes). (routes_at rs p).paths) is

pub add_pair-requires-clause-links : goal.add_pair-requires-clause-links
add_pair-requires-clause-links c =
    let routes = c.args.routing.now.routes in
    let p = c.loop-p.p in
    let is = c.as_slice-routes.ensures in
    let paths = paths_read routes c.as_slice-routes.result.now c.index-routes-p.result p c.as_slice-in-loop-p.result.now is c.loop-p-test.true
    c.index-routes-p.is c.as_slice-in-loop-p.ensures
    in
    let count : length c.deref_mut.result.now ≡ link_count c.args.net.now = ap length c.deref_mut.ensures.value ∙ c.loop-p.invariant.count in
    subst (λ n. All (λ s. AreLinksOnce n s.links) c.as_slice-in-loop-p.result.now) (sym count)
    (subst (λ (ss : List PathShare). All (λ s. AreLinksOnce (link_count c.args.net.now) s.links) ss) (sym paths)
    (paths_once c.args.net.now routes p c.requires.routing (subst (λ (rs : List PairRoutes). p < length rs) is c.loop-p-test.true)))

pub add_pair-requires-clause-order : goal.add_pair-requires-clause-order
add_pair-requires-clause-order c =
    subst (λ (t : List (List PairShare)). All (IsShareList (c.loop-p.p + 1)) t) (sym c.deref_mut.ensures.value)
    (All-weaker (IsShareList c.loop-p.p) (IsShareList (c.loop-p.p + 1)) (order_weaker c.loop-p.p) c.loop-p.table.items c.loop-p.invariant.order)

pub loop-p-preserved : goal.loop-p-preserved
loop-p-preserved c =
    let routes = c.args.routing.now.routes in
    let p = c.loop-p.p in
    let table = c.loop-p.table.items in
    let new = c.add_pair.new.table in
    let is = c.as_slice-routes.ensures in
    let below : p < length routes = subst (λ (rs : List PairRoutes). p < length rs) is c.loop-p-test.true in
    let paths = paths_read routes c.as_slice-routes.result.now c.index-routes-p.result p c.as_slice-in-loop-p.result.now is c.loop-p-test.true
    c.index-routes-p.is c.as_slice-in-loop-p.ensures
    in
    let added : IsAddition table new p (weight_on (routes_at routes p).paths) =
    subst (λ (ss : List PathShare). IsAddition table new p (weight_on ss)) paths
    (subst (λ (t : List (List PairShare)). IsAddition t new p (weight_on c.as_slice-in-loop-p.result.now)) c.deref_mut.ensures.value c.in_ok-add_pair.ensures.sums)
    in
    rw (written_whole c.loop-p.table.len new table added.count c.loop-p.table.ok.0) (record {
      count = added.count ∙ c.loop-p.invariant.count;
      order = c.in_ok-add_pair.ensures.order;
      sums = λ e q inside.
          omega (
            arith,
            added.each e q (omega (arith, inside, c.loop-p.invariant.count)),
            c.loop-p.invariant.sums e q inside,
            share_more routes p q e below,
          );
    })

pub returns : goal.returns
returns c =
    let routes = c.args.routing.now.routes in
    let p = c.loop-p.p in
    let all : p ≡ length routes = omega (arith, c.loop-p-test.false, c.loop-p.auto.p-end, ap (λ (rs : List PairRoutes). length rs) c.as_slice-routes.ensures) in
    record {
      count = c.loop-p.invariant.count;
      each = λ e below. shares_done routes e (shares_on c.loop-p.table.items e)
          (subst (λ n. IsShareList n (shares_on c.loop-p.table.items e)) all
          (All-get_or (IsShareList p) c.loop-p.table.items e [] (omega (arith, below, c.loop-p.invariant.count)) c.loop-p.invariant.order))
          (λ q. c.loop-p.invariant.sums e q below ∙ ap (λ (rs : List PairRoutes). share rs q e) (take_all p routes (omega (arith, all))));
    }

pub add_pair-requires-clause-none : goal.add_pair-requires-clause-none
add_pair-requires-clause-none c = λ e below.
    let p = c.loop-p.p in
    let before = take p c.args.routing.now.routes in
    let inside : e < link_count c.args.net.now = omega (arith, below, ap length c.deref_mut.ensures.value, c.loop-p.invariant.count) in
    ap (λ (t : List (List PairShare)). share_in (shares_on t e) p) c.deref_mut.ensures.value
    ∙ (c.loop-p.invariant.sums e p inside
    ∙ ap (λ (r : PairRoutes). weight_on r.paths e) (get_or_past before p no_routes (omega (arith, length-take p c.args.routing.now.routes))))
