use Rattle.std.proofs.Common.{◌∙◌, sym, arith}
use Rattle.std.proofs.lemmas.List.FromFn.{map-range_with_len_more}
use Rattle.traffic_matrix.specs.Series.{matrix_of}
use Rattle.traffic_matrix.specs.Shows.{ShowsStep}
use Rattle.traffic_matrix.proofs.demands.Demands.series.Goals as goal

pub loop-step-preserved : goal.loop-step-preserved
loop-step-preserved c =
    let i = c.loop-step.invariant in
    let step = c.loop-step.step in
    record {
      made = λ entries s.
          let pairs = c.in_ok-pairs.pairs.items in
          let shown : ShowsStep entries c.loop-step.self step = record { demands = λ pair w. i.left step pair (omega arith) ∙ s.demands step pair (rw i.nodes at w) } in
          let made = rw c.as_slice.ensures.value at (c.in_ok-matrix.ensures entries shown) in
          rw (c.in_ok-push.ensures.items, i.made entries s, made) (sym (map-range_with_len_more (matrix_of pairs entries) 0 step step (omega arith)));
      left = λ k pair more. c.forget.ensures.others k pair (omega arith) ∙ i.left k pair (omega arith);
      nodes = c.forget.ensures.nodes ∙ i.nodes;
      count = c.forget.ensures.steps ∙ i.count;
    }
