use Rattle.std.proofs.Common.{◌∙◌, ◌≤◌, slice_index, arith, ap, refl}
use Rattle.te_model.specs.declared.units.TheConstants.{SHARE_UNIT}
use Rattle.cover_search.specs.Ways.{lowered_where, raised_where}
use Rattle.cover_search.proofs.Lowering.{lowered}
use Rattle.cover_search.proofs.search.lower.Goals as goal

pub returns : goal.returns
returns c =
    let old = c.args.transport.now in
    let r = c.args.reached.now in
    let by = c.least_slack-by.result in
    let within = c.least_slack-by.ensures.most in
    let most : by ≤ SHARE_UNIT = (let small = c.least_tail-most.ensures.most in omega (arith, within, small)) in
    lowered c.args.shares.now old (record { tails = c.lower_tails.new.tails; heads = c.raise_heads.new.heads; demand = old.demand; unsent = old.unsent; unreceived = old.unreceived })
    r by c.requires.transport c.requires.reaching c.requires.closed c.least_slack-by.ensures.some most
    (λ i below none. let deep = c.least_tail-most.ensures.each i below none in omega (arith, deep, within))
    c.least_slack-by.ensures.each c.lower_tails.ensures.count c.raise_heads.ensures.count
    (λ i. c.lower_tails.ensures.lowered i ∙ ap (λ l. lowered_where l by (slice_index old.tails) i) c.as_slice.ensures)
    (λ i below. c.raise_heads.ensures.raised i below ∙ ap (λ l. raised_where l by (slice_index old.heads) i) c.as_slice-2.ensures)
    refl refl refl
