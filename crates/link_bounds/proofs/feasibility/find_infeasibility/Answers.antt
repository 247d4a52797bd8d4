use Rattle.std.proofs.Common.{◌≡◌, ◌∙◌, ◌-◌, ap, arith, length, subst, sym}
use Rattle.std.specs.Prelude.{All}
use Rattle.te_model.specs.Network.{link_count}
use Rattle.ratio_checker.specs.Ascending.{AscendsFrom}
use Rattle.ratio_checker.specs.Checked.{CanCheckBlock}
use Rattle.ratio_checker.specs.Finding.{finding_of}
use Rattle.ratio_checker.proofs.Validity.{blocks_in_order, valid_blocks, valid_head}
use Rattle.link_bounds.specs.Feeds.{infeasibility_from}
use Rattle.link_bounds.proofs.FirstInfeasible.{from_first_whole}
use Rattle.link_bounds.proofs.feasibility.find_infeasibility.Goals as goal

pub new-requires : goal.new-requires
new-requires c = valid_head c.args.certificate.now c.requires

pub infeasibility_from-requires-clause-head : goal.infeasibility_from-requires-clause-head
infeasibility_from-requires-clause-head c = valid_head c.args.certificate.now c.requires

pub infeasibility_from-requires-clause-blocks : goal.infeasibility_from-requires-clause-blocks
infeasibility_from-requires-clause-blocks c =
    let cert = c.args.certificate.now in
    subst (All (CanCheckBlock cert.head)) (sym c.as_slice-blocks.ensures) (valid_blocks cert c.requires)

pub infeasibility_from-requires-clause-ascend : goal.infeasibility_from-requires-clause-ascend
infeasibility_from-requires-clause-ascend c =
    let cert = c.args.certificate.now in
    subst (AscendsFrom (λ b. b.link) 0) (sym c.as_slice-blocks.ensures) (blocks_in_order cert c.requires)

pub returns : goal.returns
returns c =
    let cert = c.args.certificate.now in
    let links = length c.as_slice.result.now in
    let count : links - 0 ≡ link_count cert.head.network = omega (arith, ap length c.as_slice.ensures) in
    c.infeasibility_from.ensures
    ∙ ap (λ bs. finding_of (infeasibility_from cert.head bs 0 (links - 0))) c.as_slice-blocks.ensures
    ∙ ap finding_of (from_first_whole cert (links - 0) count)
