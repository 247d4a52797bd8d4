use Rattle.std.proofs.Common.{◌≡◌, ℕ, ◌+◌, ◌<◌, ◌≤◌, ◌++◌, ◌∷◌, [], Option, List, length, map, arith, refl, sym, ap, subst, ◌∙◌, inl, inr, length-append}
use Rattle.std.specs.Prelude.{slice_index_or}
use Rattle.std.proofs.lemmas.Bool.{cases_lt}
use Rattle.std.proofs.lemmas.List.{get_or_default, get_or_append_left}
use Rattle.std.proofs.Math.Seq.{get_or-append_seam}
use Rattle.te_model.specs.declared.network.Network.{Network}
use Rattle.te_model.specs.declared.route.PairRoutes.{PairRoutes}
use Rattle.te_model.specs.PathRouting.{IsPathSplit}
use Rattle.te_model.specs.Path.{routes_at, no_routes}
use Rattle.shortest_path.specs.Least.{links_of}
use Rattle.local_recovery.specs.Recovery.{IsBypassed, JoinEnds}
use Rattle.local_recovery.proofs.BypassWalks.{bypass_paths_lead, item_has}
use Rattle.local_recovery.proofs.recovery.bypass.Goals as goal

pub bypass_pair-requires-clause-bypass_paths : goal.bypass_pair-requires-clause-bypass_paths
bypass_pair-requires-clause-bypass_paths c =
    subst (λ os. JoinEnds c.args.net.now (map links_of os)) (sym c.as_slice.ensures.value)
    (bypass_paths_lead c.args.net.now c.args.failed.now (map links_of c.in_ok-bypass_paths.bypass_paths.items) c.in_ok-bypass_paths.ensures)

pub bypass_pair-requires-clause-few : goal.bypass_pair-requires-clause-few
bypass_pair-requires-clause-few c =
    item_has (λ (r : PairRoutes). length r.paths ≤ 4096) c.args.routes.now c.args.routes.now c.loop-pair.pair-index c.pair-item.result refl
    c.loop-pair-test.true c.pair-item.is c.requires.few

pub bypass_pair-requires-clause-split : goal.bypass_pair-requires-clause-split
bypass_pair-requires-clause-split c =
    item_has (IsPathSplit c.args.net.now) c.args.routes.now c.args.routes.now c.loop-pair.pair-index c.pair-item.result refl
    c.loop-pair-test.true c.pair-item.is c.requires.routing

-- one pair more
next : (net : Network) (bypass_paths : List (Option (List ℕ))) (before old new : List PairRoutes) (i : ℕ) (item left : PairRoutes) →
    length old ≡ i → i < length before → item ≡ slice_index_or before i item → new ≡ old ++ left ∷ [] → IsBypassed net bypass_paths item left →
    ((p : ℕ) → p < i → IsBypassed net bypass_paths (routes_at before p) (routes_at old p)) →
    (p : ℕ) → p < i + 1 → IsBypassed net bypass_paths (routes_at before p) (routes_at new p)
next net bypass_paths before old new i item left size below read made here each p inside =
    elim (cases_lt p i) [
      | inl lt ↦
          subst (IsBypassed net bypass_paths (routes_at before p))
          (sym (ap (λ rs. routes_at rs p) made ∙ get_or_append_left old (left ∷ []) no_routes p (omega (arith, size)))) (each p lt)
      | inr ge ↦
          let e : p ≡ i = omega arith in
          let item_is : item ≡ routes_at before p =
          read ∙ (get_or_default before i item no_routes below ∙ ap (routes_at before) (sym e)) in
          let left_is : left ≡ routes_at new p =
          sym (ap (λ rs. routes_at rs p) made ∙ (ap (λ k. routes_at (old ++ left ∷ []) k) (e ∙ sym size) ∙ get_or-append_seam old left [] no_routes)) in
          subst (λ r. IsBypassed net bypass_paths r (routes_at new p)) item_is (subst (IsBypassed net bypass_paths item) left_is here)
    ]

pub loop-pair-preserved : goal.loop-pair-preserved
loop-pair-preserved c = record {
  count = omega (
    arith,
    ap length c.in_ok-push.ensures.items,
    length-append c.loop-pair.list.items (c.in_ok-bypass_pair.field-0 ∷ []),
    c.loop-pair.invariant.count,
  );
  each = next c.args.net.now (map links_of c.in_ok-bypass_paths.bypass_paths.items) c.args.routes.now c.loop-pair.list.items c.push.new.self.items c.loop-pair.pair-index
      c.pair-item.result c.in_ok-bypass_pair.field-0 c.loop-pair.invariant.count c.loop-pair-test.true c.pair-item.is c.in_ok-push.ensures.items
      (subst (λ os. IsBypassed c.args.net.now (map links_of os) c.pair-item.result c.in_ok-bypass_pair.field-0) c.as_slice.ensures.value c.in_ok-bypass_pair.ensures)
      c.loop-pair.invariant.each;
}

pub returns : goal.returns
returns c =
    let end' : c.loop-pair.pair-index ≡ length c.args.routes.now = omega (arith, c.loop-pair-test.false, c.loop-pair.auto.pair-index-end) in (
      map links_of c.in_ok-bypass_paths.bypass_paths.items,
      c.in_ok-bypass_paths.ensures,
      record {
        count = ap length c.new.ensures ∙ (c.loop-pair.invariant.count ∙ end');
        each = λ p below.
            subst (λ rs. IsBypassed c.args.net.now (map links_of c.in_ok-bypass_paths.bypass_paths.items) (routes_at c.args.routes.now p) (routes_at rs p))
            (sym c.new.ensures) (c.loop-pair.invariant.each p (omega (arith, end')));
      },
    )
