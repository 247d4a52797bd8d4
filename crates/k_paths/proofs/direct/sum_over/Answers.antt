use Rattle.std.proofs.Common.{◌<◌, List, All, length, sym, subst}
use Rattle.te_model.specs.declared.network.Link.{Link}
use Rattle.k_paths.proofs.direct.sum_over.Goals as goal

pub is_allowed-requires-clause-prefix : goal.is_allowed-requires-clause-prefix
is_allowed-requires-clause-prefix c =
    subst (λ (ls : List Link). All (λ k. k < length ls) c.args.prefix.now) (sym c.as_slice-links.ensures) c.requires.prefix
