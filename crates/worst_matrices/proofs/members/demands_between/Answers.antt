use Rattle.std.proofs.Common.{◌≡◌, ℕ, arith, ◌∙◌, refl}
use Rattle.std.proofs.lemmas.Grind.{get_or_default_zero}
use Rattle.std.specs.Prelude.{slice_index}
use Rattle.te_model.specs.Demand.{lower_of, upper_of}
use Rattle.worst_matrices.specs.Members.{nearest_demand}
use Rattle.worst_matrices.proofs.NearestDemands.{formula_pushed, demands_pushed}
use Rattle.worst_matrices.proofs.members.demands_between.Goals as goal

pub loop-p-preserved : goal.loop-p-preserved
loop-p-preserved c =
    let set = c.args.set.now in
    let sums = c.args.sums.now in
    let n = c.loop-p.p in
    let formula = λ (q : ℕ). nearest_demand (slice_index sums.demand.items q) sums.weight (lower_of set q) (upper_of set q) c.args.scale.x c.args.scale.y in
    let read : c.index.result.now ≡ slice_index sums.demand.items n =
    c.index.ensures ∙ get_or_default_zero sums.demand.items n c.index.result.now (omega (arith, c.loop-p-test.true, c.len-p-end.ensures)) in
    let is : c.demand_between.result ≡ formula n =
    c.demand_between.ensures.nearest ∙ rw read (rw c.lower-lower.ensures (rw c.upper-upper.ensures refl)) in
    record {
      small = demands_pushed c.loop-p.demand.items c.push.new.self.items c.demand_between.result n c.in_ok-push.ensures.items c.loop-p.invariant.small c.demand_between.ensures.small;
      nearest =
          formula_pushed formula c.loop-p.demand.items c.push.new.self.items c.demand_between.result n c.in_ok-push.ensures.items c.loop-p.invariant.small.count
          is c.loop-p.invariant.nearest;
    }
