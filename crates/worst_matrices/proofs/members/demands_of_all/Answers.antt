use Rattle.std.proofs.Common.{◌≡◌, ℕ, ◌*◌, ◌/◌, ◌^◌, min, ◌∙◌, refl}
use Rattle.std.specs.Prelude.{slice_index}
use Rattle.worst_matrices.specs.Means.{in_128_bits}
use Rattle.worst_matrices.proofs.NearestDemands.{formula_pushed, demands_pushed}
use Rattle.worst_matrices.proofs.members.demands_of_all.Goals as goal

pub loop-sum-preserved : goal.loop-sum-preserved
loop-sum-preserved c =
    let sums = c.args.sums.now in
    let n = c.loop-sum.sum-index in
    let formula = λ (q : ℕ). min (in_128_bits (slice_index sums.demand.items q * 2 ^ 32) / c.greatest_of-greatest.result) (2 ^ 32) in
    let is : c.demand_of.result ≡ formula n = c.demand_of.ensures.part ∙ rw c.deref-sum-items.ensures.value refl in
    record {
      small = demands_pushed c.loop-sum.demand.items c.push.new.self.items c.demand_of.result n c.in_ok-push.ensures.items c.loop-sum.invariant.small c.demand_of.ensures.small;
      parts =
          formula_pushed formula c.loop-sum.demand.items c.push.new.self.items c.demand_of.result n c.in_ok-push.ensures.items c.loop-sum.invariant.small.count
          is c.loop-sum.invariant.parts;
    }
