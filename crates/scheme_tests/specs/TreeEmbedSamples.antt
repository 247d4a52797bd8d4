-- A network that tests use.
use Rattle.std.specs.Prelude.{[], ◌∷◌, codes}
use Rattle.te_model.specs.declared.network.Network.{Network}
use Rattle.sample_networks.specs.Literals.{network_with}

-- the nodes a, b and c, with links both ways between any two
abbrev pub triangle : Network
triangle = network_with (codes "a" ∷ codes "b" ∷ codes "c" ∷ [])
    ((0, 1, 10, 1) ∷ (1, 0, 10, 1) ∷ (0, 2, 10, 1) ∷ (2, 0, 10, 1) ∷ (1, 2, 10, 1) ∷ (2, 1, 10, 1) ∷ [])
