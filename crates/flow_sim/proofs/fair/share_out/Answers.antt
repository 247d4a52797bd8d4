use Rattle.std.proofs.Common.{◌≤◌, ◌<◌, slice_index, length, arith, sym, ◌∙◌, refl}
use Rattle.std.proofs.lemmas.List.FromFn.{fill_by_all}
use Rattle.te_model.specs.Counting.{sum_below}
use Rattle.te_model.proofs.ApportionLaws.{sum_is_below}
use Rattle.te_model.proofs.Choices.{made_same}
use Rattle.flow_sim.specs.Fair.{share_at, fair, fair_level}
use Rattle.flow_sim.proofs.Level.{level_fits, fair_all, fair_some}
use Rattle.flow_sim.proofs.fair.share_out.Goals as goal

pub fill_shares-requires-clause-level : goal.fill_shares-requires-clause-level
fill_shares-requires-clause-level c =
    rw c.level_of-level.ensures (level_fits c.args.left (length c.args.arrivals.now) (slice_index c.args.arrivals.now))

pub returns-then-total_of-left : goal.returns-then-total_of-left
returns-then-total_of-left c =
    let xs = c.args.arrivals.now in
    let fits : sum_below (length xs) (slice_index xs) ≤ c.args.left = omega (arith, sum_is_below xs, c.total_of.ensures) in
    c.copy_from_slice.ensures.after
    ∙ fill_by_all (fair c.args.left (length xs) (slice_index xs)) xs (length xs) 0 refl
    (λ k below. sym (fair_all c.args.left (length xs) (slice_index xs) k fits))

pub returns-else-total_of-left : goal.returns-else-total_of-left
returns-else-total_of-left c =
    let xs = c.args.arrivals.now in
    let n = length xs in
    let over : c.args.left < sum_below n (slice_index xs) = omega (arith, sum_is_below xs, c.total_of.ensures) in
    c.fill_shares.ensures
    ∙ (rw c.level_of-level.ensures (made_same 0 n (share_at c.args.left n (slice_index xs) (fair_level c.args.left n (slice_index xs)))
    (fair c.args.left n (slice_index xs)) (λ k below. sym (fair_some c.args.left n (slice_index xs) k over))))
