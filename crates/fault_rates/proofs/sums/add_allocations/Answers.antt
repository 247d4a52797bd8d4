use Rattle.std.proofs.Common.{◌≡◌, ℕ, ◌<◌, ◌^◌, List, All, length, slice_index, arith, ap, subst, sym, true}
use Rattle.te_model.specs.Path.{amount_on, is_distinct}
use Rattle.fault_rates.specs.Plan.{links_of}
use Rattle.fault_rates.proofs.LinkSums.{few_amounts, simple_at}
use Rattle.te_model.proofs.Sums.{sum_below-next}
use Rattle.fault_rates.proofs.sums.add_allocations.Goals as goal

pub add_along-requires-clause-links : goal.add_along-requires-clause-links
add_along-requires-clause-links c =
    let paths = c.args.paths.now in
    let simple = simple_at (length c.args.sums.now) paths c.loop-i.i c.requires.paths c.loop-i-test.true in
    subst (λ (l : List ℕ). All (λ h. h < length c.loop-i.sums) l) (sym c.links_of-links.ensures)
    (subst (λ (n : ℕ). All (λ h. h < n) (links_of paths c.loop-i.i)) (sym c.loop-i.auto.sums) simple.1)

pub add_along-requires-clause-distinct : goal.add_along-requires-clause-distinct
add_along-requires-clause-distinct c =
    let simple = simple_at (length c.args.sums.now) c.args.paths.now c.loop-i.i c.requires.paths c.loop-i-test.true in
    subst (λ (l : List ℕ). is_distinct l ≡ true) (sym c.links_of-links.ensures) simple.0

pub add_along-requires-clause-room : goal.add_along-requires-clause-room
add_along-requires-clause-room c = λ h.
    omega (
      arith,
      c.loop-i.invariant h,
      few_amounts c.args.paths.now (slice_index c.args.allocation.now) (2 ^ 32) c.loop-i.i h c.requires.small,
      c.requires.small c.loop-i.i,
      c.requires.room h,
      c.loop-i-test.true,
      c.requires.few,
    )

pub loop-i-preserved : goal.loop-i-preserved
loop-i-preserved c = λ h.
    let paths = c.args.paths.now in
    let amount = slice_index c.args.allocation.now in
    let lent : amount_on c.links_of-links.result.now (amount c.loop-i.i) h ≡ amount_on (links_of paths c.loop-i.i) (amount c.loop-i.i) h =
    ap (λ (l : List ℕ). amount_on l (amount c.loop-i.i) h) c.links_of-links.ensures in
    omega (arith, c.add_along.ensures h, c.loop-i.invariant h, lent, sum_below-next c.loop-i.i (λ i. amount_on (links_of paths i) (amount i) h))
