use Rattle.std.proofs.Common.{◌≡◌, ◌∙◌, ◌+◌, ℕ, suc, List, [], ◌∷◌, ◌++◌, length, slice_index, arith, ap}
use Rattle.std.specs.Prelude.{codes}
use Rattle.number_tables.specs.declared.line.NumLine.{NumLine}
use Rattle.number_tables.specs.Due.{word_line}
use Rattle.fault_rates.specs.Plan.{allocations_at}
use Rattle.fault_rates.proofs.PairLines.{one_line_more}
use Rattle.fault_rates.proofs.writer.rate_lines.Goals as goal

pub loop-p-preserved : goal.loop-p-preserved
loop-p-preserved c =
    let plan = c.args.plan.now in
    let p = c.loop-p.p in
    let first = word_line (codes "failures") (plan.failures ∷ []) in
    let count : length c.as_slice-grants.result.now ≡ length plan.grant = ap (λ (l : List ℕ). length l) c.as_slice-grants.ensures in
    let below = c.loop-p-test.true in
    let next : p + 1 ≡ suc p = omega arith in
    let is : c.in_ok-pair_line.field-0 ≡ word_line [] (slice_index plan.grant p ∷ allocations_at plan p) =
    c.in_ok-pair_line.ensures
    ∙ (ap (λ (l : List ℕ). word_line [] (slice_index l p ∷ c.allocations_of.result.now)) c.as_slice-grants.ensures
    ∙ ap (λ (l : List ℕ). word_line [] (slice_index plan.grant p ∷ l)) c.allocations_of.ensures)
    in
    let more = one_line_more plan.grant plan.allocation p c.in_ok-pair_line.field-0 (omega (arith, below, count)) c.requires is in
    rw next
    (c.in_ok-push-2.ensures.items
    ∙ (ap (λ (ls : List NumLine). ls ++ c.in_ok-pair_line.field-0 ∷ []) c.loop-p.invariant
    ∙ ap (λ (ls : List NumLine). first ∷ ls) more))
