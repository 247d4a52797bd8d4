use Rattle.std.proofs.Common.{◌≡◌, ◌∙◌, sym, ℕ, ◌+◌, List, [], ◌∷◌, ◌++◌, map, arith}
use Rattle.std.specs.List.{range_with_len}
use Rattle.std.proofs.lemmas.List.FromFn.{map-range_with_len_more}
use Rattle.experiment.specs.Envelope.{greatest_demand, least_demand}
use Rattle.experiment.proofs.envelope.envelope_of.Goals as goal

-- the demands of the pairs so far, and that of pair p
with_next : (demand : ℕ → ℕ) (p value : ℕ) (before after : List ℕ) → before ≡ map demand (range_with_len 0 p) → value ≡ demand p →
    after ≡ before ++ value ∷ [] → after ≡ map demand (range_with_len 0 (p + 1))
with_next demand p value before after so_far is pushed =
    pushed ∙ rw (so_far, is) (sym (map-range_with_len_more demand 0 p p (omega arith)))

pub loop-p-preserved : goal.loop-p-preserved
loop-p-preserved c =
    let so_far = c.loop-p.invariant in
    let steps = c.as_slice-steps.result.now in
    record {
      lower = with_next (least_demand steps) c.loop-p.p _ _ _ so_far.lower c.least_demand.ensures c.in_ok-push.ensures.items;
      upper = with_next (greatest_demand steps) c.loop-p.p _ _ _ so_far.upper c.greatest_demand.ensures c.in_ok-push-2.ensures.items;
    }
