use Rattle.std.proofs.Common.{arith, slice_index}
use Rattle.ratio_witness.proofs.Ratios.{load_by_capacity}
use Rattle.ratio_witness.proofs.utilisation.more_used_link.Goals as goal

pub overflow_mul-of_first : goal.overflow_mul-of_first
overflow_mul-of_first c =
    omega (
      arith,
      load_by_capacity (slice_index c.args.loads.now c.args.first) c.capacity_of.result (c.requires.loads.small c.args.first)
          (omega (arith, c.capacity_of.ensures, c.requires.loads.capacities c.args.second)),
    )

pub overflow_mul-of_second : goal.overflow_mul-of_second
overflow_mul-of_second c =
    omega (
      arith,
      load_by_capacity (slice_index c.args.loads.now c.args.second) c.capacity_of-2.result (c.requires.loads.small c.args.second)
          (omega (arith, c.capacity_of-2.ensures, c.requires.loads.capacities c.args.first)),
    )
