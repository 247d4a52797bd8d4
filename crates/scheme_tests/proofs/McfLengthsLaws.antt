-- The pair of the tests has a path.
use Rattle.std.proofs.Common.{◌≡◌, zero, suc, List, [], ◌∷◌, arith, refl, sym, subst}
use Rattle.te_model.specs.declared.network.Network.{Network}
use Rattle.te_model.specs.declared.route.Pair.{Pair}
use Rattle.scheme.specs.Reach.{AllReached}
use Rattle.sample_networks.specs.Literals.{pair_of}
use Rattle.sample_networks.specs.Networks.{parallel_links}

reached : AllReached parallel_links (pair_of (0, 1) ∷ [])
reached zero below = (0 ∷ [], omega arith, refl)
reached (suc p) below = absurd (omega arith)

pub sample_reached : (net : Network) (pairs : List Pair) → net ≡ parallel_links → pairs ≡ (pair_of (0, 1) ∷ []) → AllReached net pairs
sample_reached net pairs of_links of_pair =
    subst (λ n. AllReached n pairs) (sym of_links) (subst (λ l. AllReached parallel_links l) (sym of_pair) reached)
