use Rattle.std.proofs.Common.{sum, min, length, slice_index, arith, sym, ap, ◌∙◌}
use Rattle.te_model.proofs.ApportionLaws.{sum_made, sum_is_below}
use Rattle.flow_sim.specs.Fair.{fair}
use Rattle.flow_sim.proofs.Level.{fair-sum, fair-le}
use Rattle.flow_sim.proofs.TableLaws.{read_made}
use Rattle.flow_sim.proofs.fair.fair_share.Goals as goal

pub returns-clause-sum : goal.returns-clause-sum
returns-clause-sum c =
    let xs = c.args.arrivals.now in
    let n = length xs in
    ap sum c.share_out.ensures
    ∙ (sum_made (fair c.args.left n (slice_index xs)) n
    ∙ (fair-sum c.args.left n (slice_index xs) ∙ ap (min c.args.left) (sym (sum_is_below xs))))

pub returns-clause-within : goal.returns-clause-within
returns-clause-within c = λ i inside.
    let xs = c.args.arrivals.now in
    let n = length xs in
    omega (
      arith,
      read_made (fair c.args.left n (slice_index xs)) n i c.share_out.new.served c.share_out.ensures inside,
      fair-le c.args.left n (slice_index xs) i,
    )
