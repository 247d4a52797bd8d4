use Rattle.std.proofs.Common.{◌≡◌, ℕ, ◌<◌, ◌≤◌, Bool, List, [], ◌∷◌, ◌++◌, length, take, get_or, arith, ap, sym, ◌∙◌}
use Rattle.std.proofs.lemmas.List.{append-nil, take_all}
use Rattle.te_model.specs.declared.route.PairRoutes.{PairRoutes}
use Rattle.series_simulation.specs.Connected.{demands_of}
use Rattle.series_simulation.specs.StandingPaths.{has_some_path}
use Rattle.series_simulation.proofs.Demands.{demands_more, one_demand}
use Rattle.series_simulation.proofs.standing_paths.standing_matrix.Goals as goal
use Rattle.series_simulation.proofs.standing_paths.standing_matrix.Goals.{then-has_some_path+in_ok-push, else-has_some_path}

pub loop-place-preserved : goal.loop-place-preserved
loop-place-preserved c =
    let left = c.args.left.now in
    let demand = c.args.matrix.now.demand in
    let i = c.loop-place.place in
    let before = demands_of has_some_path (take i left) (take i demand) in
    let below : i < length left = omega (arith, c.loop-place-test.true) in
    let more = demands_more has_some_path c.index-left-place.result left demand i below c.requires in
    let answer : has_some_path (get_or left i c.index-left-place.result) ≡ c.has_some_path.result =
    ap has_some_path (sym c.index-left-place.is) ∙ sym c.has_some_path.ensures
    in
    let one = λ (b : Bool). before ++ one_demand b (get_or demand i 0) in
    elim c.if-has_some_path.branch [
      | then-has_some_path+in_ok-push w ↦
          rw w.kept-is (w.in_ok-push.ensures.items
          ∙ (ap (λ (ds : List ℕ). ds ++ get_or c.as_slice-demand.result.now i 0 ∷ []) c.loop-place.invariant
          ∙ (ap (λ (ds : List ℕ). before ++ get_or ds i 0 ∷ []) c.as_slice-demand.ensures ∙ sym (more ∙ ap one (answer ∙ w.if-has_some_path.true)))))
      | else-has_some_path w ↦ rw w.kept-is (c.loop-place.invariant ∙ sym (more ∙ (ap one (answer ∙ w.if-has_some_path.false) ∙ append-nil before)))
    ]

pub returns : goal.returns
returns c =
    let left = c.args.left.now in
    let demand = c.args.matrix.now.demand in
    let i = c.loop-place.place in
    let whole : length left ≤ i = omega (arith, c.loop-place-test.false) in
    c.new.ensures ∙ (c.loop-place.invariant
    ∙ (ap (λ (rs : List PairRoutes). demands_of has_some_path rs (take i demand)) (take_all i left whole)
    ∙ ap (demands_of has_some_path left) (take_all i demand (omega (arith, whole, c.requires)))))
