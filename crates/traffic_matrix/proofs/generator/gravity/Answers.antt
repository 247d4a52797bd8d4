use Rattle.std.proofs.Common.{◌≡◌, ◌∙◌, refl, sym, ap, subst, length, List, ℕ, arith}
use Rattle.std.proofs.lemmas.List.FromFn.{map-range_with_len_more, length-map-range_with_len}
use Rattle.random_words.proofs.Moving.{generator_round}
use Rattle.te_model.specs.declared.demand.Matrix.{Matrix}
use Rattle.te_model.specs.Network.{node_count}
use Rattle.traffic_matrix.specs.declared.series.Series.{Series}
use Rattle.traffic_matrix.specs.Gravity.{every_pair, size_at, sizes_in, products, gravity_matrix, gravity_of}
use Rattle.traffic_matrix.specs.Limits.{IsSeries}
use Rattle.traffic_matrix.proofs.GravityLemmas.{gravity-in-range, series-is, within-count}
use Rattle.traffic_matrix.proofs.generator.gravity.Goals as goal

pub products-requires-clause-pairs : goal.products-requires-clause-pairs
products-requires-clause-pairs c =
    let n = length c.as_slice-nodes.result.now in
    let count : length c.as_slice-in-loop-step.result.now ≡ n =
    ap length (c.as_slice-in-loop-step.ensures.value ∙ c.in_ok-sizes.ensures.sizes) ∙ length-map-range_with_len (size_at c.loop-step.rng) 0 n in
    within-count c.as_slice.result.now c.in_ok-pairs.pairs.items (length c.as_slice-in-loop-step.result.now) n c.as_slice.ensures.value count c.in_ok-pairs.ensures.within

pub loop-step-preserved : goal.loop-step-preserved
loop-step-preserved c =
    let i = c.loop-step.invariant in
    let n = length c.as_slice-nodes.result.now in
    let k = c.loop-step._step in
    let made : c.in_ok-products.field-0.demand ≡ products (every_pair n) (sizes_in n c.args.seed k) =
    c.in_ok-products.ensures ∙ rw (c.as_slice.ensures.value, c.in_ok-pairs.ensures.pairs, c.as_slice-in-loop-step.ensures.value, c.in_ok-sizes.ensures.sizes, i.rng) refl in
    let matrix : c.in_ok-products.field-0 ≡ gravity_matrix n c.args.seed k = ap (λ (d : List ℕ). let m : Matrix = record { demand = d } in m) made in
    record {
      rng = generator_round c.args.seed 1 n k c.loop-step.rng c.draw_sizes.new.rng i.rng c.in_ok-sizes.ensures.state;
      matrices = c.in_ok-push.ensures.items ∙ rw (i.matrices, matrix) (sym (map-range_with_len_more (gravity_matrix n c.args.seed) 0 k k (omega arith)));
    }

made : (c : goal.After-new-2) → ◌≡◌ {A = Series} (record { pairs = record { list = c.new.result }; steps = c.new-2.result }) (gravity_of (node_count c.args.net.now) c.args.seed c.args.steps)
made c =
    let n = length c.as_slice-nodes.result.now in
    series-is n (node_count c.args.net.now) c.args.seed c.loop-step._step c.args.steps _
    (rw (c.new.ensures, c.in_ok-pairs.ensures.pairs, c.new-2.ensures, c.loop-step.invariant.matrices) refl) (ap length c.as_slice-nodes.ensures)
    (let past = c.loop-step-test.false in omega arith)

pub returns-clause-series : goal.returns-clause-series
returns-clause-series c = made c

pub returns-clause-in_range : goal.returns-clause-in_range
returns-clause-in_range c = subst (IsSeries (node_count c.args.net.now)) (sym (made c)) (gravity-in-range (node_count c.args.net.now) c.args.seed c.args.steps c.requires.few)
