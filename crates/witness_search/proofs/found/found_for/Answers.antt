use Rattle.std.proofs.Common.{List, sym, subst}
use Rattle.std.specs.Prelude.{All}
use Rattle.te_model.specs.declared.certificate.Block.{Block}
use Rattle.routing.proofs.Splits.{splits_of}
use Rattle.best_blocks.specs.Need.{HasNumbers}
use Rattle.witness_search.proofs.Certificates.{certificate_bounds, certificate_head}
use Rattle.best_blocks.proofs.ValidNumbers.{certificate_numbers}
use Rattle.te_model.proofs.ValidHeads.{certificate_routing}
use Rattle.witness_search.proofs.Heads.{head_pairs}
use Rattle.ratio_checker.proofs.FormedHeads.{head_formed}
use Rattle.witness_search.proofs.found.found_for.Goals as goal

pub invariant_of-routing : goal.invariant_of-routing
invariant_of-routing c =
    let h = c.args.certificate.head in
    record { splits = splits_of h.network h.routes (certificate_routing c.args.certificate c.requires) }

pub worst_matrices-requires-clause-network : goal.worst_matrices-requires-clause-network
worst_matrices-requires-clause-network c = head_formed c.args.certificate.head (certificate_head c.args.certificate c.requires)

pub worst_matrices-requires-clause-routing : goal.worst_matrices-requires-clause-routing
worst_matrices-requires-clause-routing c = certificate_routing c.args.certificate c.requires

pub worst_matrices-requires-clause-nodes : goal.worst_matrices-requires-clause-nodes
worst_matrices-requires-clause-nodes c = head_pairs c.args.certificate.head (certificate_head c.args.certificate c.requires)

pub worst_matrices-requires-clause-set : goal.worst_matrices-requires-clause-set
worst_matrices-requires-clause-set c = certificate_bounds c.args.certificate c.requires

pub worst_matrices-requires-clause-blocks : goal.worst_matrices-requires-clause-blocks
worst_matrices-requires-clause-blocks c =
    subst (λ (bs : List Block). All (HasNumbers c.args.certificate.head.network) bs) (sym c.as_slice.ensures) (certificate_numbers c.args.certificate c.requires)
