use Rattle.std.proofs.Common.{slice_index, sym, subst}
use Rattle.local_search.specs.Loads.{HasAbove}
use Rattle.local_search.proofs.Searching.{within_from_on}
use Rattle.local_search.proofs.search.are_within.Goals as goal

pub returns : goal.returns
returns c =
    let net = c.args.net.now in
    let loads = c.args.loads.now in
    let times = c.args.aim.now.times in (
      λ t. within_from_on net times loads c.as_slice-above.result.now c.args.shift.now.from.now c.args.shift.now.to.now c.args.shift.now.amount
          (subst (HasAbove net times (slice_index loads)) (sym c.as_slice-above.ensures) c.requires.above)
          (c.are_within_on.ensures.0 c.if-not-are_within_on.false) (c.are_within_on-2.ensures.0 t),
      λ within. c.are_within_on-2.ensures.1 (λ e below used. within e below),
    )
