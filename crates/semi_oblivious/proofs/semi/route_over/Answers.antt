use Rattle.semi_oblivious.proofs.semi.route_over.Goals as goal

pub bracket_by_usage-requires-clause-fixed : goal.bracket_by_usage-requires-clause-fixed
bracket_by_usage-requires-clause-fixed c = c.requires.fixed.1.splits

pub bracket_by_usage-requires-clause-count : goal.bracket_by_usage-requires-clause-count
bracket_by_usage-requires-clause-count c = c.in_ok-routing.ensures.pairs

pub bracket_by_usage-requires-clause-lengths : goal.bracket_by_usage-requires-clause-lengths
bracket_by_usage-requires-clause-lengths c = c.in_ok-routing.ensures.count

pub bracket_by_usage-requires-clause-limit : goal.bracket_by_usage-requires-clause-limit
bracket_by_usage-requires-clause-limit c = c.in_ok-routing.ensures.small

pub returns-clause-routing : goal.returns-clause-routing
returns-clause-routing c = λ pairs is. c.in_ok-routing.ensures.routing pairs is

pub returns-clause-few : goal.returns-clause-few
returns-clause-few c = λ limit few. c.in_ok-routing.ensures.few limit few

pub returns-clause-adapted : goal.returns-clause-adapted
returns-clause-adapted c = record {
  fixed_paths = c.in_ok-routing.ensures.keeps;
  stable = c.in_ok-routing.ensures.stable;
  no_greater = c.in_ok-routing.ensures.no_greater;
  bracket = c.in_ok-note.ensures.sound;
  lower = c.in_ok-note.ensures.lower;
}
