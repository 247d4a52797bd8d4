use Rattle.ratio_certificate.proofs.BetterBlocks.{no_better_step}
use Rattle.ratio_certificate.proofs.Trying.{none_gives}
use Rattle.ratio_certificate.proofs.better.BlockChanges.try_link.Goals as goal

pub returns-in-None-clause-none : goal.returns-in-None-clause-none
returns-in-None-clause-none c =
    let it = c.args.self.now in
    let double = rw c.in-None.is at c.in_ok-other.ensures.none in
    none_gives c.try_half.result _ _ (λ half. no_better_step it.net.now it.routing.now.routes it.set.now it.block.now c.args.link double half) c.try_half.ensures.none

pub returns-in-Some-clause-some : goal.returns-in-Some-clause-some
returns-in-Some-clause-some c = rw c.in-Some.is at c.in_ok-other.ensures.some

pub returns-in-None-clause-some : goal.returns-in-None-clause-some
returns-in-None-clause-some c = c.try_half.ensures.some
