use Rattle.std.proofs.Common.{length, sum, slice_index, arith, refl, ap, sym, ◌∙◌}
use Rattle.std.proofs.lemmas.List.FromFn.{length-map-range_with_len}
use Rattle.te_model.proofs.Sums.{sum_below-zero}
use Rattle.te_model.proofs.ApportionLaws.{sum_made}
use Rattle.flow_sim.proofs.TableLaws.{zero_read, written}
use Rattle.flow_sim.proofs.serve.shares_of.Goals as goal
use Rattle.flow_sim.proofs.serve.shares_of.Goals.{then-not-failed, else-not-failed}

pub fair_share-requires-clause-lengths : goal.fair_share-requires-clause-lengths
fair_share-requires-clause-lengths c =
    sym (ap length (c.deref_mut.ensures.value ∙ c.in_ok-served.ensures) ∙ length-map-range_with_len (λ i. 0) 0 (length c.args.arrivals.now))

pub returns-clause-sum : goal.returns-clause-sum
returns-clause-sum c =
    elim c.if-not-failed.branch [
      | then-not-failed w ↦
          let whole = written w.fair_share.new.served c.in_ok-served.served.items c.in_ok-served.served.len
          (omega (arith, w.fair_share.auto.served, w.deref_mut.ensures.len)) in
          omega (arith, ap (λ v. sum v.items) w.served-is, ap sum whole, w.fair_share.ensures.sum)
      | else-not-failed w ↦
          omega (
            arith,
            ap (λ v. sum v.items) w.served-is,
            ap sum c.in_ok-served.ensures,
            sum_made (λ i. 0) (length c.args.arrivals.now),
            sum_below-zero (length c.args.arrivals.now) (λ i. 0) (λ k below. refl),
          )
    ]

pub returns-clause-within : goal.returns-clause-within
returns-clause-within c = λ i inside.
    elim c.if-not-failed.branch [
      | then-not-failed w ↦
          let whole = written w.fair_share.new.served c.in_ok-served.served.items c.in_ok-served.served.len
          (omega (arith, w.fair_share.auto.served, w.deref_mut.ensures.len)) in
          omega (
            arith,
            ap (λ v. slice_index v.items i) w.served-is,
            ap (λ xs. slice_index xs i) whole,
            w.fair_share.ensures.within i inside,
          )
      | else-not-failed w ↦
          omega (
            arith,
            ap (λ v. slice_index v.items i) w.served-is,
            zero_read (length c.args.arrivals.now) i c.in_ok-served.served.items c.in_ok-served.ensures,
          )
    ]
