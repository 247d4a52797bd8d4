use Rattle.shortest_path.specs.Least.{AreFirstLinks}
use Rattle.shortest_path.proofs.walk.first_links.Given as goal

abbrev pub invariant-loop-h : goal.invariant-loop-h
invariant-loop-h l = AreFirstLinks l.net l.lengths l.open l.sums l.h l.firsts.items
