use Rattle.std.proofs.Common.{◌≡◌, ◌∙◌, ◌+◌, ◌*◌, ◌<◌, true, false, sym, ap, arith, nat_le, slice_index}
use Rattle.std.proofs.lemmas.Grind.{common_steps}
use Rattle.te_model.specs.declared.certificate.Row.{Row}
use Rattle.te_model.specs.Counting.{unless}
use Rattle.te_model.specs.Network.{link_count, head_of, tail_of}
use Rattle.te_model.specs.Certificate.{row_of, potential}
use Rattle.te_model.specs.Inequalities.{starts_at_zero, rises_within_weight, failure_at}
use Rattle.te_model.proofs.Searches.{first_below_more}
use Rattle.ratio_checker.proofs.RowFailures.{row_failure_found}
use Rattle.ratio_checker.proofs.potentials.row_failure.Goals as goal

pub returns-then-not-rises_within : goal.returns-then-not-rises_within
returns-then-not-rises_within c =
    let starts : starts_at_zero c.args.block.now c.args.row.now.source ≡ true = grind (arith, common_steps) in
    let fails : rises_within_weight c.args.network.now c.args.block.now c.args.row.now.source c.loop-h.h ≡ false = grind (arith, common_steps) in
    let below : c.loop-h.h < link_count c.args.network.now = grind arith in
    let found = row_failure_found c.args.network.now c.args.block.now c.args.row.now.source c.loop-h.h below starts c.loop-h.invariant fails in
    rw c.as_slice-links.ensures (sym found)

pub loop-h-preserved : goal.loop-h-preserved
loop-h-preserved c =
    let net = c.args.network.now in
    let block = c.args.block.now in
    let i = c.args.row.now.source in
    let h = c.loop-h.h in
    let own : c.as_slice-potential.result.now ≡ (row_of block.rows i).potential = c.as_slice-potential.ensures ∙ ap (λ (r : Row). r.potential) (sym c.requires.row) in
    let rises : rises_within_weight net block i h ≡ true =
    sym (ap (λ xs. nat_le (slice_index xs (head_of net h)) (slice_index xs (tail_of net h) + slice_index c.as_slice-weights.result.now h)) own
    ∙ ap (λ ws. nat_le (potential block i (head_of net h)) (potential block i (tail_of net h) + slice_index ws h)) c.as_slice-weights.ensures)
    ∙ sym c.rises_within.ensures ∙ c.if-not-rises_within.false
    in
    first_below_more h (λ k. unless (rises_within_weight net block i k) (failure_at 1 (i * (link_count net + 1) + 1 + k))) c.loop-h.invariant
    (ap (λ b. unless b (failure_at 1 (i * (link_count net + 1) + 1 + h))) rises)
