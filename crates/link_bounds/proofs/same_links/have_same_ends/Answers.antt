use Rattle.std.proofs.Common.{◌<◌, sym, arith}
use Rattle.te_model.specs.Network.{link_count}
use Rattle.te_model.proofs.Searches.{all_below_fails}
use Rattle.link_bounds.specs.SameLinks.{has_same_ends}
use Rattle.link_bounds.proofs.SameLinks.{ends_differ}
use Rattle.link_bounds.proofs.same_links.have_same_ends.Goals as goal

pub returns-then-not-has_same_ends : goal.returns-then-not-has_same_ends
returns-then-not-has_same_ends c =
    let a = c.args.a.now in
    let b = c.args.b.now in
    let h = c.loop-h.h in
    let inside : h < link_count a = grind arith in
    let others : h < link_count b = grind arith in
    sym (all_below_fails (link_count a) h (has_same_ends a b) inside
    (ends_differ a b c.as_slice-links.result.now c.as_slice-others.result.now h _ _ c.has_same_ends.result c.as_slice-links.ensures c.as_slice-others.ensures
    inside others c.has_same_ends.ensures c.if-not-has_same_ends.true))
