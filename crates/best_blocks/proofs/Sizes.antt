-- Products fit 128 bits.
use Rattle.te_model.proofs.Sizes.{cost_fits, term_fits, unit_fits, unit_positive}

pub ruleset sizes = (cost_fits, unit_fits, unit_positive, term_fits)
