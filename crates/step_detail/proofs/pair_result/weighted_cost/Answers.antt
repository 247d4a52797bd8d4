use Rattle.std.proofs.Common.{◌≡◌, ◌*◌, ◌^◌, ◌<◌, ◌≤◌, ℕ, List, All, length, get_or, arith, ap, sym, subst, ◌∙◌}
use Rattle.std.proofs.Math.Nat.{mul-le-mul, mul-le-mul_left}
use Rattle.std.proofs.lemmas.List.{get_or_read, take_all}
use Rattle.std.proofs.lemmas.List.Elements.{All-get_or, All-weaker}
use Rattle.std.proofs.lemmas.List.Sums.{sum_by-take-le, sum_by_more}
use Rattle.te_model.specs.declared.limits.TheConstants.{FORMAT_2}
use Rattle.te_model.specs.declared.route.PathShare.{PathShare}
use Rattle.routing.specs.Merge.{no_path}
use Rattle.shortest_path.specs.Paths.{sum_along}
use Rattle.step_detail.specs.Pairs.{weighted_cost}
use Rattle.step_detail.proofs.PathCosts.{cost_within, weight_within}
use Rattle.step_detail.proofs.pair_result.weighted_cost.Goals as goal

pub length_along-requires-clause-links : goal.length_along-requires-clause-links
length_along-requires-clause-links c =
    let paths = c.args.paths.now in
    let i = c.loop-path.path-index in
    let read = get_or_read paths i c.path-item.result c.loop-path-test.true c.path-item.is no_path in
    subst (λ (l : List ℕ). All (λ h. h < length c.args.costs.now) l) (sym (c.as_slice.ensures ∙ ap (λ (s : PathShare). s.links) read))
    (All-get_or (λ (s : PathShare). All (λ h. h < length c.args.costs.now) s.links) paths i no_path c.loop-path-test.true c.requires.links)

pub length_along-requires-clause-limit : goal.length_along-requires-clause-limit
length_along-requires-clause-limit c =
    All-weaker (λ x. x ≤ 65535) (λ x. x ≤ 2 ^ 28) (λ x small. omega (arith, small)) c.args.costs.now c.requires.small

pub overflow_mul-cost : goal.overflow_mul-cost
overflow_mul-cost c =
    let paths = c.args.paths.now in
    let i = c.loop-path.path-index in
    let read = get_or_read paths i c.path-item.result c.loop-path-test.true c.path-item.is no_path in
    let light = weight_within paths i c.from.result c.path-item.result c.loop-path-test.true read c.from.ensures c.requires.whole in
    let short = cost_within paths i c.length_along.result c.path-item.result c.as_slice.result.now c.loop-path-test.true read c.as_slice.ensures c.length_along.ensures.limit c.requires.short in
    omega (arith, mul-le-mul light short)

pub overflow_add-sum : goal.overflow_add-sum
overflow_add-sum c =
    let paths = c.args.paths.now in
    let i = c.loop-path.path-index in
    let read = get_or_read paths i c.path-item.result c.loop-path-test.true c.path-item.is no_path in
    let light = weight_within paths i c.from.result c.path-item.result c.loop-path-test.true read c.from.ensures c.requires.whole in
    let short = cost_within paths i c.length_along.result c.path-item.result c.as_slice.result.now c.loop-path-test.true read c.as_slice.ensures c.length_along.ensures.limit c.requires.short in
    omega (
      arith,
      mul-le-mul light short,
      c.loop-path.invariant.small,
      sum_by-take-le (λ (s : PathShare). s.weight) paths i,
      c.requires.whole,
    )

pub loop-path-preserved : goal.loop-path-preserved
loop-path-preserved c =
    let costs = c.args.costs.now in
    let paths = c.args.paths.now in
    let i = c.loop-path.path-index in
    let path = get_or paths i no_path in
    let read = get_or_read paths i c.path-item.result c.loop-path-test.true c.path-item.is no_path in
    let weight : c.from.result ≡ path.weight = c.from.ensures ∙ ap (λ (s : PathShare). s.weight) read in
    let links : c.as_slice.result.now ≡ path.links = c.as_slice.ensures ∙ ap (λ (s : PathShare). s.links) read in
    let along : c.length_along.result ≡ sum_along costs path.links = c.length_along.ensures.sum ∙ ap (λ (l : List ℕ). sum_along costs l) links in
    let cost : c.from.result * c.length_along.result ≡ path.weight * sum_along costs path.links =
    ap (λ x. x * c.length_along.result) weight ∙ ap (λ x. path.weight * x) along
    in
    let short : sum_along costs path.links ≤ 34359738368 =
    omega (
      arith,
      along,
      c.length_along.ensures.limit,
      ap (λ (l : List ℕ). length l) links,
      All-get_or (λ (s : PathShare). length s.links ≤ FORMAT_2.nodes) paths i no_path c.loop-path-test.true c.requires.short,
    )
    in
    record {
      is = omega (
        arith,
        c.loop-path.invariant.is,
        cost,
        sum_by_more (λ (s : PathShare). s.weight * sum_along costs s.links) paths i no_path c.loop-path-test.true,
      );
      small = omega (
        arith,
        c.loop-path.invariant.small,
        cost,
        mul-le-mul_left path.weight short,
        sum_by_more (λ (s : PathShare). s.weight) paths i no_path c.loop-path-test.true,
      );
    }

pub returns : goal.returns
returns c =
    c.loop-path.invariant.is
    ∙ ap (λ (ss : List PathShare). weighted_cost c.args.costs.now ss) (take_all c.loop-path.path-index c.args.paths.now c.loop-path-test.false)
