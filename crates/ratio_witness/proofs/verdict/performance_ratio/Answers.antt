use Rattle.ratio_witness.proofs.KeptRules.{can_judge}
use Rattle.ratio_witness.proofs.verdict.performance_ratio.Goals as goal

pub ratio_shown-requires : goal.ratio_shown-requires
ratio_shown-requires c = can_judge c.args.head.now c.args.witness.now c.requires.head c.requires.rules
