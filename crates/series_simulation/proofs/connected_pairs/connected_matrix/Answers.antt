use Rattle.std.proofs.Common.{◌≡◌, ℕ, ◌<◌, ◌≤◌, Bool, List, [], ◌∷◌, ◌++◌, length, take, get_or, arith, ap, sym, ◌∙◌}
use Rattle.std.proofs.lemmas.List.{append-nil, take_all}
use Rattle.te_model.specs.declared.route.Pair.{Pair}
use Rattle.te_model.specs.Pairs.{no_pair}
use Rattle.series_simulation.specs.Connected.{demands_of, connects}
use Rattle.series_simulation.proofs.Demands.{demands_more, one_demand}
use Rattle.series_simulation.proofs.connected_pairs.connected_matrix.Goals as goal
use Rattle.series_simulation.proofs.connected_pairs.connected_matrix.Goals.{then-connects+in_ok-push, else-connects}

pub loop-place-preserved : goal.loop-place-preserved
loop-place-preserved c =
    let test = connects c.args.reach.now in
    let pairs = c.args.pairs.now.list in
    let demand = c.args.matrix.now.demand in
    let i = c.loop-place.place in
    let before = demands_of test (take i pairs) (take i demand) in
    let below : i < length pairs = omega (arith, c.loop-place-test.true, ap (λ (ps : List Pair). length ps) c.as_slice-list.ensures) in
    let more = demands_more test no_pair pairs demand i below c.requires in
    let answer : test (get_or pairs i no_pair) ≡ c.connects.result =
    ap (λ (ps : List Pair). test (get_or ps i no_pair)) (sym c.as_slice-list.ensures) ∙ sym c.connects.ensures
    in
    let one = λ (b : Bool). before ++ one_demand b (get_or demand i 0) in
    elim c.if-connects.branch [
      | then-connects+in_ok-push w ↦
          rw w.kept-is (w.in_ok-push.ensures.items
          ∙ (ap (λ (ds : List ℕ). ds ++ get_or c.as_slice-demand.result.now i 0 ∷ []) c.loop-place.invariant
          ∙ (ap (λ (ds : List ℕ). before ++ get_or ds i 0 ∷ []) c.as_slice-demand.ensures ∙ sym (more ∙ ap one (answer ∙ w.if-connects.true)))))
      | else-connects w ↦ rw w.kept-is (c.loop-place.invariant ∙ sym (more ∙ (ap one (answer ∙ w.if-connects.false) ∙ append-nil before)))
    ]

pub returns : goal.returns
returns c =
    let test = connects c.args.reach.now in
    let pairs = c.args.pairs.now.list in
    let demand = c.args.matrix.now.demand in
    let i = c.loop-place.place in
    let whole : length pairs ≤ i = omega (arith, c.loop-place-test.false, ap (λ (ps : List Pair). length ps) c.as_slice-list.ensures) in
    c.new.ensures ∙ (c.loop-place.invariant
    ∙ (ap (λ (ps : List Pair). demands_of test ps (take i demand)) (take_all i pairs whole) ∙ ap (demands_of test pairs) (take_all i demand (omega (arith, whole, c.requires)))))
