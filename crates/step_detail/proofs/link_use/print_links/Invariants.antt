use Rattle.std.proofs.Common.{◌≡◌, ◌++◌}
use Rattle.std.specs.List.{flat_map, range_with_len}
use Rattle.flow_sim.specs.Asked.{all_asked_units}
use Rattle.step_detail.specs.Links.{link_use_line}
use Rattle.step_detail.proofs.link_use.print_links.Given as goal

abbrev pub invariant-loop-link : goal.invariant-loop-link
invariant-loop-link l =
    l.text.items
    ≡ l.fn.text.items
    ++ flat_map (link_use_line l.net l.failed (all_asked_units l.net l.step.rates.routes l.matrix.demand) l.step.row.result.carried l.word) (range_with_len 0 l.link)
