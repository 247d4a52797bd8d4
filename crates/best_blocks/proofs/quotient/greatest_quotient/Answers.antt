use Rattle.std.proofs.Common.{◌≡◌, List, length, arith, ap}
use Rattle.routing.specs.declared.shares.PairShare.{PairShare}
use Rattle.best_blocks.proofs.ListedQuotients.{listed_all, listed_more, listed_none}
use Rattle.best_blocks.proofs.quotient.greatest_quotient.Goals as goal

pub loop-entry-init : goal.loop-entry-init
loop-entry-init c = listed_none c.args.shared.now.list c.args.distances.now

pub loop-entry-preserved : goal.loop-entry-preserved
loop-entry-preserved c =
    listed_more c.args.shared.now c.args.distances.now c.loop-entry.entry-index c.as_slice-entry-items.result.now c.loop-entry.best c.greater-best.result c.requires.listed
    c.requires.apart c.as_slice-entry-items.ensures c.loop-entry-test.true c.greater-best.ensures.second c.greater-best.ensures.first c.loop-entry.invariant

pub returns : goal.returns
returns c =
    let all : c.loop-entry.entry-index ≡ length c.args.shared.now.list = omega (arith, ap (λ (xs : List PairShare). length xs) c.as_slice-entry-items.ensures) in
    listed_all c.args.shared.now c.args.distances.now c.loop-entry.entry-index c.loop-entry.best.pair c.loop-entry.best.share c.loop-entry.best.distance
    c.requires.listed all c.requires.some c.loop-entry.invariant
