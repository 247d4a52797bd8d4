use Rattle.std.proofs.Common.{◌≡◌, ◌∙◌, ◌+◌, ◌*◌, ℕ, List, get_or, arith, ap, slice_index}
use Rattle.std.proofs.lemmas.List.{get_or_read, take_all}
use Rattle.te_model.specs.declared.route.PathShare.{PathShare}
use Rattle.te_model.specs.Path.{amount_on, weight_on}
use Rattle.routing.specs.Merge.{no_path}
use Rattle.routing.proofs.Loading.{path_fits, path_more}
use Rattle.ratio_witness.proofs.loads.add_demand.Goals as goal

-- what the path at a place adds, of a demand and a weight that were widened
widened : (paths : List PathShare) (i demand wide_demand wide_weight : ℕ) (item : PathShare) → item ≡ get_or paths i no_path →
    wide_demand ≡ demand → wide_weight ≡ item.weight → wide_demand * wide_weight ≡ demand * (get_or paths i no_path).weight
widened paths i demand wide_demand wide_weight item read same weight =
    ap (λ x. x * wide_weight) same ∙ ap (λ x. demand * x) (weight ∙ ap (λ (s : PathShare). s.weight) read)

pub add_wide_along-requires-clause-room : goal.add_wide_along-requires-clause-room
add_wide_along-requires-clause-room c = λ h.
    let paths = c.args.paths.now in
    let i = c.loop-path.path-index in
    let demand = c.args.demand in
    let read = get_or_read paths i c.path-item.result c.loop-path-test.true c.path-item.is no_path in
    let amount = widened paths i demand c.from.result c.from-in-loop-path.result c.path-item.result read c.from.ensures c.from-in-loop-path.ensures in
    omega (
      arith,
      amount,
      c.loop-path.invariant.sums h,
      c.requires.room h,
      path_fits paths demand h i c.loop-path-test.true c.requires.demand c.requires.whole,
    )

pub loop-path-preserved : goal.loop-path-preserved
loop-path-preserved c = record {
  count = c.add_wide_along.auto.loads ∙ c.loop-path.invariant.count;
  sums = λ e.
      let paths = c.args.paths.now in
      let i = c.loop-path.path-index in
      let demand = c.args.demand in
      let read = get_or_read paths i c.path-item.result c.loop-path-test.true c.path-item.is no_path in
      let amount = widened paths i demand c.from.result c.from-in-loop-path.result c.path-item.result read c.from.ensures c.from-in-loop-path.ensures in
      let links : c.as_slice-links.result.now ≡ (get_or paths i no_path).links = c.as_slice-links.ensures ∙ ap (λ (s : PathShare). s.links) read in
      let puts : amount_on c.as_slice-links.result.now (c.from.result * c.from-in-loop-path.result) e
      ≡ amount_on (get_or paths i no_path).links (demand * (get_or paths i no_path).weight) e =
      ap (λ (l : List ℕ). amount_on l (c.from.result * c.from-in-loop-path.result) e) links ∙ ap (λ x. amount_on (get_or paths i no_path).links x e) amount
      in
      omega (
        arith,
        c.add_wide_along.ensures.added e,
        puts,
        path_more paths demand e i c.loop-path-test.true,
        c.loop-path.invariant.sums e,
      );
}

pub returns-clause-loads : goal.returns-clause-loads
returns-clause-loads c = λ e.
    c.loop-path.invariant.sums e
    ∙ ap (λ (ps : List PathShare). slice_index c.args.loads.now e + c.args.demand * weight_on ps e) (take_all c.loop-path.path-index c.args.paths.now c.loop-path-test.false)
