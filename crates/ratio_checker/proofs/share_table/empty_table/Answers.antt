use Rattle.std.proofs.Common.{◌≡◌, arith, length, subst, sym}
use Rattle.ratio_checker.proofs.LinkPairLists.{HasNoPairs, no_links, no_pairs_yet, one_link_more}
use Rattle.ratio_checker.proofs.share_table.empty_table.Goals as goal

pub loop-e-init : goal.loop-e-init
loop-e-init c = subst (HasNoPairs 0) (sym c.in_ok-table.ensures.items) no_links

pub loop-e-preserved : goal.loop-e-preserved
loop-e-preserved c = rw c.in_ok-push.ensures.items (one_link_more c.loop-e.e c.loop-e.table.items c.in_ok-pairs.pairs c.loop-e.invariant c.in_ok-pairs.ensures)

pub returns : goal.returns
returns c = λ routes.
    let all : c.loop-e.e ≡ length c.args.counts.now = omega (arith, c.loop-e-test.false, c.loop-e.auto.e-end) in
    no_pairs_yet routes (length c.args.counts.now) c.loop-e.table.items (subst (λ n. HasNoPairs n c.loop-e.table.items) all c.loop-e.invariant)
