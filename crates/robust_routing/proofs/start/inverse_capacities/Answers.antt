use Rattle.std.proofs.Common.{◌∙◌, List, length, replicate, ap}
use Rattle.te_model.specs.declared.network.Link.{Link}
use Rattle.robust_routing.proofs.Lengthening.{lengths_by_ones}
use Rattle.robust_routing.proofs.start.inverse_capacities.Goals as goal

pub returns : goal.returns
returns c =
    lengths_by_ones c.args.net.now c.requires
    (c.deref.ensures.value
    ∙ (c.in_ok-ones.ensures.items_if_clones_equal (λ y same. same) ∙ ap (λ (l : List Link). replicate (length l) 1) c.as_slice.ensures))
    c.in_ok-lengths.ensures
