use Rattle.std.proofs.Common.{◌≡◌, true}
use Rattle.te_model.specs.Counting.{all_below}
use Rattle.link_bounds.specs.SameLinks.{has_same_ends}
use Rattle.link_bounds.proofs.same_links.have_same_ends.Given as goal

abbrev pub invariant-loop-h : goal.invariant-loop-h
invariant-loop-h l = all_below l.h (has_same_ends l.a l.b) ≡ true
