use Rattle.std.proofs.Common.{◌≡◌, ℕ, List, arith, refl, subst, sym, true}
use Rattle.te_model.specs.declared.limits.TheConstants.{FORMAT_2}
use Rattle.te_model.specs.Path.{has_number, is_distinct}
use Rattle.te_model.proofs.Counts.{count_below-bound}
use Rattle.fault_rates.specs.Plan.{links_of}
use Rattle.fault_rates.proofs.LinkSums.{simple_at}
use Rattle.te_model.proofs.Lists.{zeros}
use Rattle.fault_rates.proofs.sums.paths_on_links.Goals as goal

pub loop-i-init : goal.loop-i-init
loop-i-init c = record { count = refl; each = λ e. zeros FORMAT_2.links e }

pub add_along-requires-clause-distinct : goal.add_along-requires-clause-distinct
add_along-requires-clause-distinct c =
    let simple = simple_at FORMAT_2.links c.args.paths.now c.loop-i.i c.requires.paths c.loop-i-test.true in
    subst (λ (l : List ℕ). is_distinct l ≡ true) (sym c.links_of-links.ensures) simple.0

pub add_along-requires-clause-room : goal.add_along-requires-clause-room
add_along-requires-clause-room c = λ h.
    omega (
      arith,
      c.loop-i.invariant.each h,
      count_below-bound c.loop-i.i (λ i. has_number (links_of c.args.paths.now i) h),
      c.loop-i-test.true,
      c.requires.few,
    )
