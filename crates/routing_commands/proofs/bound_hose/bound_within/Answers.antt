use Rattle.te_model.proofs.ValidHeads.{head_routing}
use Rattle.witness_search.proofs.Heads.{head_pairs}
use Rattle.routing_commands.proofs.HeadCounts.{head_has_few_pairs}
use Rattle.ratio_checker.proofs.FormedHeads.{head_formed}
use Rattle.routing_commands.proofs.bound_hose.bound_within.Goals as goal

pub hose_text-requires-clause-network : goal.hose_text-requires-clause-network
hose_text-requires-clause-network c = head_formed c.args.head c.requires.head

pub hose_text-requires-clause-routing : goal.hose_text-requires-clause-routing
hose_text-requires-clause-routing c = head_routing c.args.head c.requires.head

pub hose_text-requires-clause-pairs : goal.hose_text-requires-clause-pairs
hose_text-requires-clause-pairs c = head_pairs c.args.head c.requires.head

pub hose_text-requires-clause-count : goal.hose_text-requires-clause-count
hose_text-requires-clause-count c = head_has_few_pairs c.args.head c.requires.head
