-- The parts of a certificate's text, each of which fits a window.
use Rattle.std.proofs.Common.{ℕ, ◌≤◌, lit≤}
use Rattle.std.specs.Prelude.{codes}
use Rattle.te_model.specs.declared.limits.Limits.{Limits}
use Rattle.cert_text.specs.Reading.{narrow_number}
use Rattle.cert_text.specs.Grammar.{read_format, read_network, read_counted, read_pair, read_set, read_ratio}
use Rattle.block_reader.specs.Sizes.{format_size, network_size, count_size, pair_size, set_size, ratio_size}
use Rattle.block_reader.specs.Parts.{IsFormat, IsReadablePart}
use Rattle.block_reader.proofs.Sizes.{format_ahead, network_ahead, pair_count_ahead, pair_ahead, set_ahead, ratio_ahead, block_count_ahead}
use Rattle.block_reader.proofs.Steps.{format_step, network_step, counted_step, pair_step, set_step, ratio_step}
use Rattle.block_reader.proofs.Small.{network_fits, pair_fits, set_fits}

pub format_part : IsReadablePart format_size read_format
format_part = record { ahead = format_ahead; steps = format_step; small = lit≤ tt }

pub network_part : (limits : Limits) → IsFormat limits → IsReadablePart (network_size limits) (read_network limits narrow_number)
network_part limits is = record { ahead = network_ahead limits narrow_number; steps = network_step limits narrow_number; small = network_fits limits is }

pub pair_count_part : (limits : Limits) → IsReadablePart count_size (read_counted (codes "pairs ") 0 limits.pairs)
pair_count_part limits = record { ahead = pair_count_ahead limits; steps = counted_step (codes "pairs ") 0 limits.pairs; small = lit≤ tt }

pub pair_part : (limits : Limits) → IsFormat limits → IsReadablePart (pair_size limits) (read_pair limits narrow_number)
pair_part limits is = record { ahead = pair_ahead limits narrow_number; steps = pair_step limits narrow_number; small = pair_fits limits is }

pub set_part : (limits : Limits) (pairs : ℕ) → IsFormat limits → pairs ≤ limits.pairs → IsReadablePart (set_size pairs) (read_set limits pairs)
set_part limits pairs is few = record { ahead = set_ahead limits pairs; steps = set_step limits pairs; small = set_fits limits pairs is few }

pub ratio_part : IsReadablePart ratio_size read_ratio
ratio_part = record { ahead = ratio_ahead; steps = ratio_step; small = lit≤ tt }

pub block_count_part : (limits : Limits) → IsReadablePart count_size (read_counted (codes "blocks ") 0 limits.links)
block_count_part limits = record { ahead = block_count_ahead limits; steps = counted_step (codes "blocks ") 0 limits.links; small = lit≤ tt }
