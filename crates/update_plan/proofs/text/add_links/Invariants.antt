use Rattle.std.proofs.Common.{◌≡◌, ◌++◌, take}
use Rattle.update_plan.proofs.text.add_links.Given as goal

abbrev pub invariant-loop-link : goal.invariant-loop-link
invariant-loop-link l = l.numbers.items ≡ l.fn.numbers.items ++ take l.link-index l.links
