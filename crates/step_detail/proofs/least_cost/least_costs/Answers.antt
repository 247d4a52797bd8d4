use Rattle.std.proofs.Common.{◌≡◌, ℕ, List, [], Option, None, length, get_or, arith, ap, sym, subst, ◌∙◌}
use Rattle.std.proofs.lemmas.List.Elements.{All-get_or}
use Rattle.te_model.specs.Network.{node_count}
use Rattle.te_model.specs.Pairs.{IsPairAmong, no_pair, pair_at}
use Rattle.te_model.proofs.Choices.{pushed_count, pushed_each}
use Rattle.shortest_path.specs.Costs.{costs_of}
use Rattle.shortest_path.specs.Paths.{IsDistance}
use Rattle.step_detail.specs.Pairs.{least_cost_at}
use Rattle.step_detail.proofs.least_cost.least_costs.Goals as goal

pub least_cost-requires-clause-source : goal.least_cost-requires-clause-source
least_cost-requires-clause-source c =
    let is = All-get_or (IsPairAmong (node_count c.args.net.now)) c.args.pairs.now c.loop-p.p no_pair c.loop-p-test.true c.requires.pairs in
    omega (arith, is.src_inside, c.in_ok-distances.ensures.count, ap (λ (rs : List (List (Option ℕ))). length rs) c.as_slice-rows.ensures.value)

pub least_cost-requires-clause-target : goal.least_cost-requires-clause-target
least_cost-requires-clause-target c =
    let pair = pair_at c.args.pairs.now c.loop-p.p in
    let is = All-get_or (IsPairAmong (node_count c.args.net.now)) c.args.pairs.now c.loop-p.p no_pair c.loop-p-test.true c.requires.pairs in
    omega (
      arith,
      is.dst_inside,
      (c.in_ok-distances.ensures.each pair.src is.src_inside).count,
      ap (λ (rs : List (List (Option ℕ))). length (get_or rs pair.src [])) c.as_slice-rows.ensures.value,
    )

pub loop-p-preserved : goal.loop-p-preserved
loop-p-preserved c =
    let net = c.args.net.now in
    let pairs = c.args.pairs.now in
    let p = c.loop-p.p in
    let pair = pair_at pairs p in
    let least = c.loop-p.least.items in
    let so_far = c.loop-p.invariant in
    let is = All-get_or (IsPairAmong (node_count net)) pairs p no_pair c.loop-p-test.true c.requires.pairs in
    let found : c.least_cost.result ≡ get_or (get_or c.in_ok-distances.distances.items pair.src []) pair.dst None =
    c.least_cost.ensures ∙ ap (λ (rs : List (List (Option ℕ))). get_or (get_or rs pair.src []) pair.dst None) c.as_slice-rows.ensures.value
    in
    let distance : IsDistance net (costs_of net) pair.src pair.dst c.least_cost.result =
    subst (IsDistance net (costs_of net) pair.src pair.dst) (sym found) ((c.in_ok-distances.ensures.each pair.src is.src_inside).each pair.dst is.dst_inside)
    in
    record {
      count = ap length c.in_ok-push.ensures.items ∙ pushed_count least c.least_cost.result p so_far.count;
      each = λ q below.
          subst (λ (ls : List (Option ℕ)). IsDistance net (costs_of net) (pair_at pairs q).src (pair_at pairs q).dst (least_cost_at ls q)) (sym c.in_ok-push.ensures.items)
          (pushed_each (λ k. IsDistance net (costs_of net) (pair_at pairs k).src (pair_at pairs k).dst) least c.least_cost.result None p so_far.count so_far.each
          distance q below);
    }

pub returns : goal.returns
returns c =
    let every : c.loop-p.p ≡ length c.args.pairs.now = omega (arith, c.loop-p-test.false, c.loop-p.auto.p-end) in
    record {
      count = c.loop-p.invariant.count ∙ every;
      each = λ q below. c.loop-p.invariant.each q (omega (arith, below, every));
    }
