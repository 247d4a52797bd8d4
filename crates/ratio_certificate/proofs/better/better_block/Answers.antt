use Rattle.ratio_certificate.proofs.BetterBlocks.{no_better_change}
use Rattle.ratio_certificate.proofs.Trying.{none_gives}
use Rattle.ratio_certificate.proofs.better.better_block.Goals as goal

pub returns-clause-none : goal.returns-clause-none
returns-clause-none c =
    none_gives c.find.result _ _ (no_better_change c.args.net.now c.args.routing.now.routes c.args.set.now c.args.block.now c.requires.numbers) c.find.ensures.none
