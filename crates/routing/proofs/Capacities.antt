-- The capacities of a well-formed network.
use Rattle.std.proofs.Common.{◌≡◌, ℕ, ◌<◌, ◌≤◌, true, List, length, get_or, arith, ap, sym, subst}
use Rattle.std.proofs.lemmas.Bool.Decides.{nat_tests}
use Rattle.te_model.specs.declared.network.Link.{Link}
use Rattle.te_model.specs.declared.network.Network.{Network}
use Rattle.te_model.specs.Network.{capacity_of, is_well_formed, link_count, no_link}
use Rattle.te_model.proofs.SoundLinks.{sound_links}

-- a link that is read from the network's list has some capacity
pub capacity_some : (net : Network) (links : List Link) (h : ℕ) → links ≡ net.links → is_well_formed net ≡ true → h < length links → 1 ≤ (get_or links h no_link).capacity
capacity_some net links h are formed below =
    let inside : h < link_count net = omega (arith, below, ap (λ (ls : List Link). length ls) are) in
    let sound = sound_links net formed h inside in
    let some : 1 ≤ capacity_of net h = grind (arith, nat_tests) in
    subst (λ (ls : List Link). 1 ≤ (get_or ls h no_link).capacity) (sym are) some
