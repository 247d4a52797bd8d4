use Rattle.std.proofs.Common.{subst, sym}
use Rattle.std.specs.Prelude.{All}
use Rattle.best_blocks.specs.Need.{HasNumbers, IsGreatestNeed}
use Rattle.link_bounds.specs.Repriced.{greatest_need}
use Rattle.link_bounds.proofs.RepricedHolds.{greatest_need_once, is_greatest_need, numbers_on}
use Rattle.link_bounds.proofs.repricing.need_on.Goals as goal

pub greatest_need-requires-clause-numbers : goal.greatest_need-requires-clause-numbers
greatest_need-requires-clause-numbers c =
    subst (All (HasNumbers c.args.network.now)) (sym c.as_slice.ensures)
    (numbers_on c.args.certificate.now c.args.network.now c.requires.valid c.requires.same)

pub returns : goal.returns
returns c =
    let net = c.args.network.now in
    let cert = c.args.certificate.now in
    greatest_need_once net cert.blocks c.greatest_need.result (greatest_need net cert.blocks)
    (subst (λ bs. IsGreatestNeed net bs c.greatest_need.result) c.as_slice.ensures c.greatest_need.ensures)
    (is_greatest_need net cert.blocks c.requires.formed (numbers_on cert net c.requires.valid c.requires.same))
