use Rattle.std.proofs.Common.{take}
use Rattle.ratio_certificate.specs.Offers.{AreOffers}
use Rattle.ratio_tightening.specs.Offering.{AreOffered, KeepsOffers}
use Rattle.ratio_tightening.proofs.offering.offer_blocks.Given as goal

abbrev pub invariant-loop-block : goal.invariant-loop-block
invariant-loop-block l =
    AreOffers l.net l.offers.items × KeepsOffers l.initial.offers.items l.offers.items × AreOffered l.net l.offers.items (take l.block-index l.blocks)
