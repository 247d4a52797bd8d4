use Rattle.ratio_checker.proofs.FormedHeads.{head_formed}
use Rattle.routing.proofs.Splits.{splits_of}
use Rattle.certificate_simulation.proofs.HeadPairs.{head_few, head_routes_pairs, routed_in_range}
use Rattle.te_model.proofs.ValidHeads.{head_routing}
use Rattle.certificate_simulation.proofs.report.certificate_report.Goals as goal

pub invariant_of-routing : goal.invariant_of-routing
invariant_of-routing c = record { splits = splits_of c.args.head.network c.args.head.routes (head_routing c.args.head c.requires.head) }

pub report_by-requires-clause-network : goal.report_by-requires-clause-network
report_by-requires-clause-network c = head_formed c.args.head c.requires.head

pub report_by-requires-clause-routing : goal.report_by-requires-clause-routing
report_by-requires-clause-routing c = head_routes_pairs c.args.head c.requires.head

pub report_by-requires-clause-few : goal.report_by-requires-clause-few
report_by-requires-clause-few c = head_few c.args.head c.requires.head

pub report_by-requires-clause-pairs : goal.report_by-requires-clause-pairs
report_by-requires-clause-pairs c = routed_in_range c.args.head c.args.series.now c.requires.head c.requires.series
