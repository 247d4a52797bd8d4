use Rattle.std.proofs.Common.{◌≡◌, ℕ, ◌<◌, List, [], All, length, get_or, arith, ap, sym, ◌∙◌, subst}
use Rattle.std.proofs.lemmas.List.{get_or_default}
use Rattle.std.proofs.lemmas.List.Elements.{All-get_or}
use Rattle.te_model.specs.declared.route.PathShare.{PathShare}
use Rattle.te_model.specs.declared.route.PairRoutes.{PairRoutes}
use Rattle.te_model.specs.Path.{no_routes, routes_at}
use Rattle.local_search.specs.Pairs.{HaveLinksBelow, IsPairEntered, IsPairList, pairs_on, some_holds}
use Rattle.local_search.proofs.Entering.{all_entered, lists_weaker, pair_entered}
use Rattle.local_search.proofs.pairs.add_pairs.Goals as goal

-- paths that are those of a pair of the list have the links that all have
links_of : (routes : List PairRoutes) (p n m : ℕ) (r : PairRoutes) (paths : List PathShare) → p < length routes → paths ≡ (get_or routes p r).paths → m ≡ n →
    All (λ r. HaveLinksBelow n r.paths) routes → HaveLinksBelow m paths
links_of routes p n m r paths below is same all =
    let own : paths ≡ (routes_at routes p).paths = is ∙ ap (λ (r : PairRoutes). r.paths) (get_or_default routes p r no_routes below) in
    subst (λ k. HaveLinksBelow k paths) (sym same)
    (subst (HaveLinksBelow n) (sym own) (All-get_or (λ r. HaveLinksBelow n r.paths) routes p no_routes below all))

pub add_pair-requires-clause-links : goal.add_pair-requires-clause-links
add_pair-requires-clause-links c =
    links_of c.args.routes.now c.loop-p.p (length c.args.table.now) (length c.loop-p.table) c.index-routes-p.result c.as_slice.result.now c.loop-p-test.true
    c.as_slice.ensures c.loop-p.auto.table c.requires.links

pub add_pair-requires-in-loop-p-clause-links : goal.add_pair-requires-in-loop-p-clause-links
add_pair-requires-in-loop-p-clause-links c =
    links_of c.args.others.now c.loop-p.p (length c.args.table.now) (length c.add_pair.new.table) c.index-others-p.result c.as_slice-in-loop-p.result.now
    (omega (arith, c.loop-p-test.true, c.requires.pairs)) c.as_slice-in-loop-p.ensures
    (c.in_ok-add_pair.ensures.entered.count ∙ c.loop-p.auto.table) c.requires.other_links

pub add_pair-requires-in-loop-p-clause-order : goal.add_pair-requires-in-loop-p-clause-order
add_pair-requires-in-loop-p-clause-order c = c.in_ok-add_pair.ensures.order

pub add_pair-requires-clause-order : goal.add_pair-requires-clause-order
add_pair-requires-clause-order c = lists_weaker c.loop-p.p c.loop-p.table c.loop-p.invariant.order

pub loop-p-preserved : goal.loop-p-preserved
loop-p-preserved c =
    let p = c.loop-p.p in
    let old = c.loop-p.table in
    let middle = c.add_pair.new.table in
    let new = c.add_pair-in-loop-p.new.table in
    let routes = c.args.routes.now in
    let others = c.args.others.now in
    let own : c.as_slice.result.now ≡ (routes_at routes p).paths =
    c.as_slice.ensures ∙ ap (λ (r : PairRoutes). r.paths) (get_or_default routes p c.index-routes-p.result no_routes c.loop-p-test.true)
    in
    let theirs : c.as_slice-in-loop-p.result.now ≡ (routes_at others p).paths =
    c.as_slice-in-loop-p.ensures
    ∙ ap (λ (r : PairRoutes). r.paths) (get_or_default others p c.index-others-p.result no_routes (omega (arith, c.loop-p-test.true, c.requires.pairs)))
    in
    let first = subst (λ (l : List PathShare). IsPairEntered old middle p (some_holds l)) own c.in_ok-add_pair.ensures.entered in
    let second = subst (λ (l : List PathShare). IsPairEntered middle new p (some_holds l)) theirs c.in_ok-add_pair-2.ensures.entered in
    record {
      order = c.in_ok-add_pair-2.ensures.order;
      exact = λ e q inside below.
          let within : e < length old = omega (arith, inside, first.count, second.count) in
          pair_entered old middle new routes others p e q c.loop-p.invariant.order within below first second
          (λ before. c.loop-p.invariant.exact e q within before);
    }

pub returns : goal.returns
returns c =
    let routes = c.args.routes.now in
    let table = c.loop-p.table in
    let all : c.loop-p.p ≡ length routes = omega (arith, c.loop-p-test.false, c.loop-p.auto.p-end) in
    let count : length table ≡ length c.args.table.now = c.loop-p.auto.table in
    record {
      count = count;
      each = λ e below.
          let inside : e < length table = omega (arith, below, count) in
          all_entered routes c.args.others.now (pairs_on table e) e c.requires.pairs
          (subst (λ n. IsPairList n (pairs_on table e)) all (All-get_or (IsPairList c.loop-p.p) table e [] inside c.loop-p.invariant.order))
          (λ q lt. c.loop-p.invariant.exact e q inside (omega (arith, lt, all)));
    }
