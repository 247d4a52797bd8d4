use Rattle.std.proofs.Common.{◌≡◌, ℕ, ◌≤◌, true, Option, Some, None, List, [], ◌∷◌, ◌++◌, length, map, arith, refl, sym, ap, subst, ◌∙◌}
use Rattle.std.specs.Prelude.{option_map}
use Rattle.std.proofs.lemmas.List.{append-nil, take_all}
use Rattle.te_model.specs.declared.route.PathShare.{PathShare}
use Rattle.shortest_path.specs.Least.{links_of}
use Rattle.routing.specs.Loops.{end_of, IsCut}
use Rattle.te_model.specs.Path.{chains}
use Rattle.local_recovery.specs.Recovery.{walk_over, AreParts, IsBypassPart}
use Rattle.local_recovery.proofs.BypassWalks.{IsPathOf, item_has, links_stand, walk_ready, parts_next}
use Rattle.local_recovery.proofs.bypass.parts.Goals as goal
use Rattle.local_recovery.proofs.bypass.parts.Goals.{in-Some+in_ok-links+in_ok-push, in_default}

pub walk_over-requires : goal.walk_over-requires
walk_over-requires c =
    let pair = c.args.routes.now.pair in
    links_stand c.args.net.now pair.src pair.dst c.args.bypass_paths.now c.path-item.result c.as_slice.result.now c.requires.bypass_paths
    (item_has (IsPathOf c.args.net.now pair.src pair.dst) c.args.routes.now.paths c.as_slice-path-items.result.now c.loop-path.path-index c.path-item.result
    c.as_slice-path-items.ensures c.loop-path-test.true c.path-item.is c.requires.paths) c.as_slice.ensures

-- the walk that was found, over the links of the path
found : (bypass_paths : List (Option (List ℕ))) (lent links : List ℕ) (given : Option (List ℕ)) (walk : List ℕ) → given ≡ walk_over bypass_paths lent → lent ≡ links →
    given ≡ Some walk → walk_over bypass_paths links ≡ Some walk
found bypass_paths lent links given walk made same is = ap (walk_over bypass_paths) (sym same) ∙ (sym made ∙ is)

none_found : (bypass_paths : List (Option (List ℕ))) (lent links : List ℕ) (given : Option (List ℕ)) → given ≡ walk_over bypass_paths lent → lent ≡ links →
    given ≡ None → walk_over bypass_paths links ≡ None
none_found bypass_paths lent links given made same is = ap (walk_over bypass_paths) (sym same) ∙ (sym made ∙ is)

pub cut_loops-requires : goal.cut_loops-requires
cut_loops-requires c =
    let net = c.args.net.now in
    let pair = c.args.routes.now.pair in
    let bypass_paths = map links_of c.args.bypass_paths.now in
    let path = item_has (IsPathOf net pair.src pair.dst) c.args.routes.now.paths c.as_slice-path-items.result.now c.loop-path.path-index c.path-item.result
    c.as_slice-path-items.ensures c.loop-path-test.true c.path-item.is c.requires.paths in
    subst (λ w. chains net pair.src (end_of net pair.src w) w ≡ true) (sym c.as_slice-in-Some.ensures.value)
    (walk_ready net pair.src pair.dst bypass_paths c.path-item.result c.in-Some.walk.items c.requires.bypass_paths path
    (found bypass_paths c.as_slice.result.now c.path-item.result.links _ c.in-Some.walk.items c.in_ok-walk.ensures c.as_slice.ensures
    (ap (option_map (λ v. v.items)) c.in-Some.is)))

pub loop-path-preserved : goal.loop-path-preserved
loop-path-preserved c =
    let net = c.args.net.now in
    let pair = c.args.routes.now.pair in
    let bypass_paths = map links_of c.args.bypass_paths.now in
    let x = c.path-item.result in
    elim c.match-branch-2.branch [
      | in-Some+in_ok-links+in_ok-push w ↦
          let is = found bypass_paths c.as_slice.result.now x.links _ w.in-Some.walk.items c.in_ok-walk.ensures c.as_slice.ensures
          (ap (option_map (λ v. v.items)) w.in-Some.is) in
          let cut = subst (λ ws. IsCut net pair.src ws w.in_ok-links.links.items) w.as_slice-in-Some.ensures.value w.in_ok-links.ensures.cut in
          let part : PathShare = record { links = w.in_ok-links.links.items; weight = x.weight } in
          parts_next net bypass_paths pair.src c.args.routes.now.paths c.as_slice-path-items.result.now c.loop-path.path-index x c.loop-path.list.items
          c.match-branch-2.list.items (part ∷ []) c.as_slice-path-items.ensures c.loop-path-test.true c.path-item.is c.loop-path.invariant
          (subst (λ o. IsBypassPart net pair.src x.weight o (part ∷ [])) (sym is) (w.in_ok-links.links.items, cut, refl))
          (ap (λ v. v.items) w.list-is ∙ (w.in_ok-push.ensures.items
          ∙ ap (λ ls. c.loop-path.list.items ++ (record { links = ls; weight = x.weight }) ∷ []) w.new.ensures))
      | in_default w ↦
          let is = none_found bypass_paths c.as_slice.result.now x.links _ c.in_ok-walk.ensures c.as_slice.ensures (ap (option_map (λ v. v.items)) w.in_default.is) in
          parts_next net bypass_paths pair.src c.args.routes.now.paths c.as_slice-path-items.result.now c.loop-path.path-index x c.loop-path.list.items
          c.match-branch-2.list.items [] c.as_slice-path-items.ensures c.loop-path-test.true c.path-item.is c.loop-path.invariant
          (subst (λ o. IsBypassPart net pair.src x.weight o []) (sym is) refl)
          (ap (λ v. v.items) w.list-is ∙ sym (append-nil c.loop-path.list.items))
    ]

pub returns : goal.returns
returns c =
    let paths = c.args.routes.now.paths in
    let whole : length paths ≤ c.loop-path.path-index =
    omega (arith, c.loop-path-test.false, ap (λ (ps : List PathShare). length ps) c.as_slice-path-items.ensures)
    in
    subst (λ (ps : List PathShare). AreParts c.args.net.now (map links_of c.args.bypass_paths.now) c.args.routes.now.pair.src ps c.loop-path.list.items)
    (take_all c.loop-path.path-index paths whole) c.loop-path.invariant
