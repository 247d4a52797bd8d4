use Rattle.std.proofs.Common.{◌*◌, ◌^◌, ◌<◌, ◌≤◌, List, arith, sym, subst}
use Rattle.std.specs.Prelude.{All}
use Rattle.te_model.specs.declared.certificate.Block.{Block}
use Rattle.best_blocks.specs.Need.{HasNumbers, IsGreatestNeed}
use Rattle.ratio_certificate.specs.Offers.{AreWithinOffers}
use Rattle.ratio_certificate.proofs.Certificates.{blocks_numbers, made_certificate}
use Rattle.ratio_certificate.proofs.MadeBlocks.{within_start}
use Rattle.ratio_certificate.proofs.making.certify.Goals as goal

pub greatest_need-ratio-requires-clause-numbers : goal.greatest_need-ratio-requires-clause-numbers
greatest_need-ratio-requires-clause-numbers c =
    let net = c.args.net.now in
    subst (λ (bs : List Block). All (HasNumbers net) bs) (sym c.deref.ensures.value)
    (blocks_numbers net c.args.routing.now.routes c.args.set c.in_ok-blocks.blocks.items c.requires.network c.requires.routing c.in_ok-blocks.ensures.made)

pub overflow_cast-ratio : goal.overflow_cast-ratio
overflow_cast-ratio c =
    let greatest = subst (λ (bs : List Block). IsGreatestNeed c.args.net.now bs c.greatest_need-ratio.result) c.deref.ensures.value c.greatest_need-ratio.ensures in
    let bound : c.greatest_need-ratio.result ≤ 1000000 * 2 ^ 42 = greatest.least (1000000 * 2 ^ 42) c.in_ok-blocks.ensures.small in
    omega (arith, bound)

pub returns-clause-within : goal.returns-clause-within
returns-clause-within c =
    subst (λ (bs : List Block). AreWithinOffers c.args.net.now c.args.routing.now.routes c.args.set c.args.offers.now bs) (sym c.new.ensures) c.in_ok-blocks.ensures.within

pub returns-clause-made : goal.returns-clause-made
returns-clause-made c =
    let net = c.args.net.now in
    let routes = c.args.routing.now.routes in
    let set = c.args.set in
    let blocks = c.in_ok-blocks.blocks.items in
    let greatest = subst (λ (bs : List Block). IsGreatestNeed net bs c.greatest_need-ratio.result) c.deref.ensures.value c.greatest_need-ratio.ensures in
    let bound : c.greatest_need-ratio.result ≤ 1000000 * 2 ^ 42 = greatest.least (1000000 * 2 ^ 42) c.in_ok-blocks.ensures.small in
    let small : c.greatest_need-ratio.result < 10 ^ 19 = omega (arith, bound) in
    let polished = c.in_ok-blocks.ensures.polished in
    made_certificate c.args.format net routes set blocks c.greatest_need-ratio.result _ _ c.in_ok-head.ensures c.new.ensures c.requires.network
    c.requires.links c.requires.routing c.requires.set c.requires.format c.in_ok-blocks.ensures.made (within_start net routes set blocks polished) polished small greatest
