use Rattle.std.proofs.Common.{◌≡◌, arith, subst}
use Rattle.ratio_certificate.specs.Rising.{AreRoundsTo}
use Rattle.ratio_certificate.proofs.rounds.make_rounds.Goals as goal

pub loop-k-init : goal.loop-k-init
loop-k-init c = c.requires.rounds

pub loop-k-preserved : goal.loop-k-preserved
loop-k-preserved c = c.in_ok-advance.ensures

pub returns : goal.returns
returns c =
    let p = c.args.problem.now in
    let last : c.loop-k.k ≡ 15 = omega arith in
    subst (λ k. AreRoundsTo k p.net.now p.routing.now.routes p.set.now c.args.shared.now c.loop-k.rounds) last c.loop-k.invariant
