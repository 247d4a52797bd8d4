use Rattle.te_model.proofs.ValidHeads.{head_routing}
use Rattle.witness_search.proofs.Heads.{head_pairs}
use Rattle.routing_commands.proofs.CheckingHoses.{hose_small}
use Rattle.ratio_checker.proofs.FormedHeads.{head_formed}
use Rattle.routing_commands.proofs.check_hose.judge.Goals as goal

pub check_hose_text-requires-clause-network : goal.check_hose_text-requires-clause-network
check_hose_text-requires-clause-network c = head_formed c.args.head.now c.requires.head

pub check_hose_text-requires-clause-routing : goal.check_hose_text-requires-clause-routing
check_hose_text-requires-clause-routing c = head_routing c.args.head.now c.requires.head

pub check_hose_text-requires-clause-pairs : goal.check_hose_text-requires-clause-pairs
check_hose_text-requires-clause-pairs c = head_pairs c.args.head.now c.requires.head

pub answer_of-requires : goal.answer_of-requires
answer_of-requires c = hose_small c.args.head.now c.args.cert.now _ _ c.in_ok-status.ensures.answer
