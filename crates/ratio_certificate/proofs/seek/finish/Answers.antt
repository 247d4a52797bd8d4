use Rattle.std.proofs.Common.{List, length, ap, sym, subst}
use Rattle.te_model.specs.declared.network.Link.{Link}
use Rattle.centred_steps.specs.Loads.{AreLoadsWithin}
use Rattle.ratio_certificate.proofs.Seeking.{no_loads}
use Rattle.ratio_certificate.proofs.seek.finish.Goals as goal

pub make_sweeps-requires-clause-loads : goal.make_sweeps-requires-clause-loads
make_sweeps-requires-clause-loads c =
    let net = c.args.problem.now.net.now in
    subst (AreLoadsWithin net) (sym c.deref_mut.ensures.value)
    (no_loads net (length c.as_slice.result.now) c.in_ok-loads.loads.items (c.in_ok-loads.ensures.items_if_clones_equal (λ y same. same))
    (ap (λ (ls : List Link). length ls) c.as_slice.ensures))
